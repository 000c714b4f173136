-- Sets of names (document 01, "Instants, names, predicates"): a mask in which the name n is the bit of value 2 ^ n.
-- How many names a set holds is `lib.Count.ones`. Assumes nothing: these are definitions.
use Rattle.std.specs.Prelude.{ℕ, ◌-◌, ◌^◌, Bool, not, eqb}
use Rattle.std.specs.Int.Bits.{bit_and, bit_or}

-- the mask of no set, more than every set of names: 29 names, "0 to 28"
abbrev pub no_set : ℕ
no_set = 2 ^ 29

-- every name of t is in s
unfoldable pub subset : ℕ → ℕ → Bool
subset t s = eqb (bit_and t s) t

-- the names of s and those of t
unfoldable pub set_union : ℕ → ℕ → ℕ
set_union s t = bit_or s t

-- the names of s that are not in t
unfoldable pub minus : ℕ → ℕ → ℕ
minus s t = s - bit_and s t

-- the name n is in s
unfoldable pub has : ℕ → ℕ → Bool
has n s = not (eqb (bit_and s (2 ^ n)) 0)
