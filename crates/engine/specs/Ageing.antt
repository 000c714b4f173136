-- Ageing (document 01, "Ageing"). Assumes nothing: these are definitions.
use Rattle.std.specs.Prelude.{ℕ, ◌+◌, ◌*◌, ◌-◌, map}
use Rattle.ends.specs.Ends.{million}
use Rattle.state.specs.Model.{Datum, Head, Store}

-- "With drift r parts per million and d local microseconds passed, true time advances by at least" d × (1,000,000 − r) millionths of a microsecond:
-- "an advance is exact" (document 02, W-205)
unfoldable pub least_advance : ℕ → ℕ → ℕ
least_advance r d = d * (million - r)

-- "and at most" d × (1,000,000 + r)
unfoldable pub greatest_advance : ℕ → ℕ → ℕ
greatest_advance r d = d * (million + r)

-- the two advances of an ageing to a reading
unfoldable pub slow : Head → ℕ → ℕ
slow h reading = least_advance h.drift (reading - h.reading)

unfoldable pub fast : Head → ℕ → ℕ
fast h reading = greatest_advance h.drift (reading - h.reading)

-- "Every left end gains the first, every right end the second."
unfoldable pub widened : ℕ → ℕ → Datum → Datum
widened lo hi d = record { left = d.left + lo; right = d.right + hi; terms = d.terms }

-- "Entries stay."
unfoldable pub aged : ℕ → ℕ → Store → Store
aged lo hi k = record { held = map (widened lo hi) k.held; entries = k.entries }
