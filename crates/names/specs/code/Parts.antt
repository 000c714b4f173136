-- Definitions that serve the code alone: no statement of document 01 cites this file.
-- Parts of a set of names, as masks. Assumes nothing: these are definitions.
use Rattle.std.specs.Prelude.{ℕ, ◌-◌, ◌^◌, ◌/◌, ◌%◌}
use Rattle.std.specs.Int.Bits.{bit_and}
use Rattle.names.specs.Sets.{no_set, minus}

-- the names of s that are in t
unfoldable pub shared : ℕ → ℕ → ℕ
shared s t = bit_and s t

-- all names but n
unfoldable pub others : ℕ → ℕ
others n = minus (no_set - 1) (2 ^ n)

-- the least name of s, as a set of its own
unfoldable pub least_name : ℕ → ℕ
least_name s = s - bit_and s (s - 1)

-- the digit of name n: 1 if n is in s, else 0. The laws go through it; above them nothing mentions bits
abbrev pub digit : ℕ → ℕ → ℕ
digit s n = s / 2 ^ n % 2
