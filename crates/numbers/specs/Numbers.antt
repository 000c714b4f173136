-- Little-endian numbers (document 01, "State bytes"): the least byte comes first, so 513 is 1, 2, 0, 0; four bytes make a word.
-- A list is what a byte slice or an array of words holds. Assumes nothing: these are definitions.
use Rattle.std.specs.Prelude.{ℕ, zero, suc, ◌+◌, ◌*◌, ◌/◌, ◌%◌, ◌^◌, ◌<◌, List, [], ◌∷◌, ◌++◌, length, get_or}
use Rattle.std.proofs.lemmas.List.Edits.{sets}

-- ---- a number

-- the number in the n bytes of s from index at
unfoldable pub num : ℕ → ℕ → List ℕ → ℕ
num at zero s = 0
num at (suc n) s = get_or s at 0 + 256 * num (suc at) n s

-- the n low bytes of x
unfoldable pub bytes : ℕ → ℕ → List ℕ
bytes zero x = []
bytes (suc n) x = (x % 256) ∷ bytes n (x / 256)

-- ---- a list

-- s with vs stored from index at on
unfoldable pub put : ℕ → List ℕ → List ℕ → List ℕ
put at vs s = sets s at vs

-- the list f 0, f 1, .., f (n - 1)
unfoldable pub tab : {A : Type 0} → ℕ → (ℕ → A) → List A
tab zero f = []
tab (suc n) f = tab n f ++ (f n ∷ [])

-- each element is a byte
unfoldable pub Bytes : List ℕ → Type 0
Bytes s = (i : ℕ) → get_or s i 0 < 256

-- each element is a word
unfoldable pub Words : List ℕ → Type 0
Words ws = (i : ℕ) → get_or ws i 0 < 2 ^ 32

-- ---- words in bytes

-- the words in the bytes s
unfoldable pub words_of : List ℕ → List ℕ
words_of s = tab (length s / 4) (λ i. num (i * 4) 4 s)

-- the bytes of the words, four for each
unfoldable pub bytes_of : List ℕ → List ℕ
bytes_of [] = []
bytes_of (w ∷ ws) = bytes 4 w ++ bytes_of ws
