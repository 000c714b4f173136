-- Definitions that serve the code alone: no statement of document 01 cites this file.
-- Where the first field of a line ends, the fields behind it, and the numbers that are read. Assumes nothing: these are definitions.
use Rattle.std.specs.Prelude.{ℕ, suc, cond, List, [], ◌∷◌, eqb}
use Rattle.fields.specs.Fields.{is_number, value}

-- how many bytes stand before the first space
unfoldable pub space_at : List ℕ → ℕ
space_at [] = 0
space_at (b ∷ bs) = cond (eqb b 32) 0 (suc (space_at bs))

-- the fields behind the first
unfoldable pub later : List (List ℕ) → List (List ℕ)
later [] = []
later (f ∷ fs) = fs

-- the numbers of the fields, up to the first field that is none
unfoldable pub numbers_in : List (List ℕ) → List ℕ
numbers_in [] = []
numbers_in (f ∷ fs) = cond (is_number f) (value f ∷ numbers_in fs) []
