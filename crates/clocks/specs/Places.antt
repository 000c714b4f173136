-- The bytes of one sender's place (document 02, W-201): "29 places of 76 bytes by name: a 4-byte flag, 0, or 1 once saved, and the three triples in
-- the order named, each a, b, w in 8-byte numbers". Written, read, and in form. Assumes nothing: these are definitions.
use Rattle.std.specs.Prelude.{ℕ, ◌+◌, Bool, ◌&&◌, cond, List, ◌++◌, replicate, eqb}
use Rattle.numbers.specs.Numbers.{num, bytes}
use Rattle.clocks.specs.declared.Triple.{Triple}
use Rattle.clocks.specs.Clocks.{Saved, nothing, three, saved_ok}

-- how many bytes a triple and a place have
abbrev pub triple_size : ℕ
triple_size = 24

abbrev pub place_size : ℕ
place_size = 76

-- in a place: where the previous triple stands, and those with the largest a − b + w and b − a + w
abbrev pub previous_in : ℕ
previous_in = 4

abbrev pub ahead_in : ℕ
ahead_in = 28

abbrev pub behind_in : ℕ
behind_in = 52

-- ---- writing

-- "each a, b, w in 8-byte numbers"
unfoldable pub triple_bytes : Triple → List ℕ
triple_bytes t = bytes 8 t.there ++ (bytes 8 t.here ++ bytes 8 t.half)

-- "a 4-byte flag, 0, or 1 once saved, and the three triples in the order named"; what is unused is zero
unfoldable pub saved_bytes : Saved → List ℕ
saved_bytes nothing = replicate place_size 0
saved_bytes (three previous ahead behind) = bytes 4 1 ++ (triple_bytes previous ++ (triple_bytes ahead ++ triple_bytes behind))

-- ---- reading

unfoldable pub triple_at : ℕ → List ℕ → Triple
triple_at at s = record { there = num at 8 s; here = num (at + 8) 8 s; half = num (at + 16) 8 s }

unfoldable pub three_at : ℕ → List ℕ → Saved
three_at at s = three (triple_at (at + previous_in) s) (triple_at (at + ahead_in) s) (triple_at (at + behind_in) s)

unfoldable pub saved_at : ℕ → List ℕ → Saved
saved_at at s = cond (eqb (num at 4 s) 0) nothing (three_at at s)

-- ---- in form

-- each number of the triple is zero
abbrev pub blank : Triple → Bool
blank t = eqb t.there 0 && (eqb t.here 0 && eqb t.half 0)

-- each number of the place's three triples is zero
unfoldable pub blank_at : ℕ → List ℕ → Bool
blank_at at s = blank (triple_at (at + previous_in) s) && (blank (triple_at (at + ahead_in) s) && blank (triple_at (at + behind_in) s))

-- "0, or 1 once saved", "in form each is below 2^43, and no order among them is tested"; "zeros in all that is unused"
unfoldable pub place_fits : ℕ → List ℕ → Bool
place_fits at s = cond (eqb (num at 4 s) 0) (blank_at at s) (eqb (num at 4 s) 1 && saved_ok (three_at at s))
