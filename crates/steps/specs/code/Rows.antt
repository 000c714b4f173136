-- Definitions that serve the code alone: no statement of document 01 cites this file.
-- Rows of held data, as a receipt works on them: those that pass a test are given up, or the first that does. Assumes nothing: these are definitions.
use Rattle.std.specs.Prelude.{Bool, List, [], ◌∷◌, cond}
use Rattle.state.specs.declared.holding.Held.{Held}

-- the row without its terms
abbrev pub emptied : Held → Held
emptied r = record { ends = r.ends; count = 0; terms = r.terms }

abbrev pub given_up_if : Bool → Held → Held
given_up_if b r = cond b (emptied r) r

-- the rows, of which the first that passes the test has been given up
unfoldable pub first_given_up : (Held → Bool) → List Held → List Held
first_given_up test [] = []
first_given_up test (r ∷ c) = cond (test r) (emptied r ∷ c) (r ∷ first_given_up test c)
