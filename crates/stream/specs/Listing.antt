-- The listing of a whole input (document 01, "A listing, complete"): the bytes in are cut into lines, and each line yields one.
-- Assumes nothing: these are definitions.
use Rattle.std.specs.Prelude.{ℕ, Bool, false, cond, List, [], ◌∷◌, eqb, replicate}
use Rattle.state.specs.Layout.{state_size, joined}
use Rattle.fields.specs.Fields.{onto}
use Rattle.lines.specs.Lines.{line_result}

-- "lines from standard input": what stands before each line feed; "a last one without a line feed counts if it has bytes"
unfoldable pub lines_in : List ℕ → List (List ℕ)
lines_in [] = []
lines_in (b ∷ bs) = cond (eqb b 10) ([] ∷ lines_in bs) (onto b (lines_in bs))

-- "Each line yields one": the texts that lines print one after the other, each on what the last one left
unfoldable pub yields : List (List ℕ) → Bool → List ℕ → List (List ℕ)
yields [] begun s = []
yields (l ∷ ls) begun s = (line_result l begun s).text ∷ yields ls (line_result l begun s).begun (line_result l begun s).state

-- all that the listing prints for an input, "There is no header": at first no `set` was taken, and the state's bytes are zero
unfoldable pub listing_of : List ℕ → List ℕ
listing_of input = joined (λ t. t) (yields (lines_in input) false (replicate state_size 0))
