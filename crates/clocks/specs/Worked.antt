-- Worked cases of the sender's clock (document 02, W-201), each proved by computation in proofs/WorkedClocks. Assumes nothing: these are definitions.
use Rattle.std.specs.Prelude.{ℕ, Bool, true, false, List, [], ◌∷◌}
use Rattle.clocks.specs.declared.Triple.{Triple}
use Rattle.clocks.specs.Clocks.{Saved, three}

abbrev pub triple : ℕ → ℕ → ℕ → Triple
triple a b w = record { there = a; here = b; half = w }

-- a sender's triples so far, own and sender's drift added, and a new one: whether it violates test (20), and what is saved then
pub record Row : Type 0 where
  pub given : List Triple
  pub drifts : ℕ
  pub new : Triple
  pub violation : Bool
  pub saved : Saved

abbrev pub rows : List Row
rows =
    -- the first readings are not tested, and are all three
    record { given = []; drifts = 0; new = triple 0 0 1; violation = false; saved = three (triple 0 0 1) (triple 0 0 1) (triple 0 0 1) }
    -- at the bound, and one past it
    ∷ record { given = triple 0 0 1 ∷ []; drifts = 0; new = triple 100 102 1; violation = false; saved = three (triple 100 102 1) (triple 0 0 1) (triple 100 102 1) }
    ∷ record { given = triple 0 0 1 ∷ []; drifts = 0; new = triple 100 103 1; violation = true; saved = three (triple 100 103 1) (triple 0 0 1) (triple 100 103 1) }
    -- drifts of 100 each: at the bound, and one past it
    ∷ record { given = triple 0 0 0 ∷ []; drifts = 200; new = triple 5000 5001 0; violation = false; saved = three (triple 5000 5001 0) (triple 0 0 0) (triple 5000 5001 0) }
    ∷ record { given = triple 0 0 0 ∷ []; drifts = 200; new = triple 4999 5000 0; violation = true; saved = three (triple 4999 5000 0) (triple 0 0 0) (triple 4999 5000 0) }
    -- both clocks back: the own one counts by its distance
    ∷ record { given = triple 10 10 0 ∷ []; drifts = 0; new = triple 0 0 0; violation = true; saved = three (triple 0 0 0) (triple 10 10 0) (triple 10 10 0) }
    ∷ record { given = triple 10 10 10 ∷ []; drifts = 0; new = triple 0 0 10; violation = false; saved = three (triple 0 0 10) (triple 10 10 10) (triple 10 10 10) }
    ∷ record { given = triple 0 10 0 ∷ []; drifts = 0; new = triple 10 0 0; violation = false; saved = three (triple 10 0 0) (triple 10 0 0) (triple 0 10 0) }
    -- ties: the earlier stays
    ∷ record { given = triple 0 0 0 ∷ triple 5 5 0 ∷ []; drifts = 0; new = triple 7 7 0; violation = false; saved = three (triple 7 7 0) (triple 0 0 0) (triple 0 0 0) }
    -- half widths that differ: both count, at the bound and one past it
    ∷ record { given = triple 0 0 1 ∷ []; drifts = 0; new = triple 100 104 3; violation = false; saved = three (triple 100 104 3) (triple 0 0 1) (triple 100 104 3) }
    ∷ record { given = triple 0 0 1 ∷ []; drifts = 0; new = triple 100 105 3; violation = true; saved = three (triple 100 105 3) (triple 0 0 1) (triple 100 105 3) }
    -- the half width decides which is the largest: it keeps the earlier one, ahead and behind, and it brings the later one
    ∷ record { given = triple 0 0 5 ∷ []; drifts = 0; new = triple 13 10 0; violation = false; saved = three (triple 13 10 0) (triple 0 0 5) (triple 0 0 5) }
    ∷ record { given = triple 0 0 5 ∷ []; drifts = 0; new = triple 10 13 0; violation = false; saved = three (triple 10 13 0) (triple 0 0 5) (triple 0 0 5) }
    ∷ record { given = triple 3 0 0 ∷ []; drifts = 0; new = triple 10 10 4; violation = false; saved = three (triple 10 10 4) (triple 10 10 4) (triple 10 10 4) }
    -- the previous triple alone shows it
    ∷ record { given = triple 0 0 10 ∷ triple 10 10 0 ∷ []; drifts = 0; new = triple 25 20 1; violation = true; saved = three (triple 25 20 1) (triple 0 0 10) (triple 0 0 10) }
    -- that of the largest b − a + w alone shows it
    ∷ record { given = triple 0 10 0 ∷ triple 20 20 10 ∷ []; drifts = 0; new = triple 45 40 1; violation = true; saved = three (triple 45 40 1) (triple 20 20 10) (triple 0 10 0) }
    -- the triple of the largest a − b + w shows it, with the previous one and alone
    ∷ record { given = triple 4 0 0 ∷ triple 10 8 2 ∷ []; drifts = 1000; new = triple 20 21 0; violation = true; saved = three (triple 20 21 0) (triple 4 0 0) (triple 20 21 0) }
    ∷ record { given = triple 4 0 0 ∷ triple 10 9 3 ∷ []; drifts = 1000; new = triple 20 21 0; violation = true; saved = three (triple 20 21 0) (triple 4 0 0) (triple 10 9 3) }
    -- a violating triple is saved: the next is quiet against it, but not against the first
    ∷ record { given = triple 0 0 0 ∷ triple 0 9 0 ∷ []; drifts = 0; new = triple 1 10 0; violation = true; saved = three (triple 1 10 0) (triple 0 0 0) (triple 0 9 0) }
    ∷ []
