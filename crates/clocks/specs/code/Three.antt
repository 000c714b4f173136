-- Definitions that serve the code alone: no statement of document 01 cites this file.
-- The three triples of a place as the code has them, a struct, or an `Option` where there may be none yet. Assumes nothing: these are definitions.
use Rattle.std.specs.Prelude.{ℕ, ◌+◌, Bool, ◌&&◌, List, Option, None, Some}
use Rattle.clocks.specs.declared.Triple.{Triple}
use Rattle.clocks.specs.declared.Saved.{Saved as SavedTriples}
use Rattle.clocks.specs.Clocks.{Fits, Saved, nothing, three}
use Rattle.clocks.specs.Places.{previous_in, ahead_in, behind_in, triple_at, blank}

-- a triple as the other clock gives it
abbrev pub turned : Triple → Triple
turned t = record { there = t.here; here = t.there; half = t.half }

-- the same in the definitions' words
abbrev pub three_of : SavedTriples → Saved
three_of v = three v.previous v.ahead v.behind

abbrev pub saved_as : Option SavedTriples → Saved
saved_as None = nothing
saved_as (Some v) = three_of v

-- each of the three fits
abbrev pub FitsThree : SavedTriples → Type 0
FitsThree v = Fits v.previous × Fits v.ahead × Fits v.behind

-- each number of the three is zero
abbrev pub three_blank : SavedTriples → Bool
three_blank v = blank v.previous && (blank v.ahead && blank v.behind)

-- the three that stand in a place
abbrev pub three_in : ℕ → List ℕ → SavedTriples
three_in at s =
    record { previous = triple_at (at + previous_in) s; ahead = triple_at (at + ahead_in) s; behind = triple_at (at + behind_in) s }
