-- The decimal digits of a number, as bytes, and lines of a word and numbers. Assumes nothing: these are definitions.
use Rattle.std.specs.Prelude.{ℕ, zero, suc, ◌+◌, ◌/◌, ◌%◌, cond, List, [], ◌∷◌, ◌++◌, ltb}

-- ---- numbers

-- the decimal digits of n, where it has at most k of them
unfoldable pub digits : ℕ → ℕ → List ℕ
digits zero n = []
digits (suc k) n = cond (ltb n 10) ((48 + n) ∷ []) (digits k (n / 10) ++ ((48 + n % 10) ∷ []))

-- a number of 64 bits has at most 20 digits
abbrev pub decimal : ℕ → List ℕ
decimal n = digits 20 n

-- ---- lines, with their line feed

-- a word and a number
unfoldable pub with_one : List ℕ → ℕ → List ℕ
with_one word a = word ++ (decimal a ++ (10 ∷ []))

-- a word and two numbers
unfoldable pub with_two : List ℕ → ℕ → ℕ → List ℕ
with_two word a b = word ++ (decimal a ++ ((32 ∷ []) ++ (decimal b ++ (10 ∷ []))))
