-- Definitions that serve the code alone: no statement of document 01 cites this file.
-- Rows, as a receipt leaves them: those that have not been given up are as they were, and how many have terms.
-- Assumes nothing: these are definitions.
use Rattle.std.specs.Prelude.{ℕ, ◌<◌, ◌≡◌, eqb, not, List, [], ◌∷◌, length, get_or, Option, None, Some}
use Rattle.std.specs.List.{filter}
use Rattle.state.specs.declared.holding.Held.{Held}
use Rattle.entries.specs.Entries.{learn}

-- of the rows of data each has been given up or is as it was
abbrev pub DataLeft : List Held → List Held → Type 0
DataLeft old c = (i : ℕ) (d : Held) → i < length old → ((get_or c i d).count ≡ 0 → ⊥) → get_or c i d ≡ get_or old i d

-- the entries with one of this term placed, if there is one
unfoldable pub with_term : Option ℕ → List (List ℕ) → List (List ℕ)
with_term None es = es
with_term (Some t) es = learn (t ∷ []) es

-- how many rows of these counts have terms
unfoldable pub live : List ℕ → ℕ
live counts = length (filter (λ c. not (eqb c 0)) counts)
