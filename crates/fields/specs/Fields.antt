-- The fields of a line and the numbers that they write (document 01, "A listing, complete"). A line is its bytes without the line feed.
-- Assumes nothing: these are definitions.
use Rattle.std.specs.Prelude.{ℕ, ◌+◌, ◌*◌, ◌-◌, ◌^◌, Bool, true, false, ◌&&◌, cond, List, [], ◌∷◌, ltb, leb, eqb, length}
use Rattle.std.specs.List.{list_all}

-- ---- fields: "with single spaces"

-- b in front of the first field
unfoldable pub onto : ℕ → List (List ℕ) → List (List ℕ)
onto b [] = (b ∷ []) ∷ []
onto b (f ∷ fs) = (b ∷ f) ∷ fs

-- a line's fields: what stands between its spaces, so that two spaces have an empty field between them
unfoldable pub fields : List ℕ → List (List ℕ)
fields [] = [] ∷ []
fields (b ∷ bs) = cond (eqb b 32) ([] ∷ fields bs) (onto b (fields bs))

-- two lists of bytes are the same
unfoldable pub same_bytes : List ℕ → List ℕ → Bool
same_bytes [] [] = true
same_bytes [] (y ∷ ys) = false
same_bytes (x ∷ xs) [] = false
same_bytes (x ∷ xs) (y ∷ ys) = eqb x y && same_bytes xs ys

-- ---- numbers: "All fields are decimal, 1 to 20 digits"

abbrev pub is_digit : ℕ → Bool
is_digit b = leb 48 b && leb b 57

-- the number that digits write behind the number v
unfoldable pub value_from : ℕ → List ℕ → ℕ
value_from v [] = v
value_from v (d ∷ ds) = value_from (v * 10 + (d - 48)) ds

unfoldable pub value : List ℕ → ℕ
value field = value_from 0 field

-- a field that is a number of 64 bits
unfoldable pub is_number : List ℕ → Bool
is_number field = (leb 1 (length field) && leb (length field) 20) && (list_all is_digit field && ltb (value field) (2 ^ 64))

-- "words, own and drift 32"
abbrev pub is_word : ℕ → Bool
is_word n = ltb n (2 ^ 32)
