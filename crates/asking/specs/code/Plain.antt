-- Definitions that serve the code alone: no statement of document 01 cites this file.
-- How the answer at limit 0 is told: by the greatest left end and the least right one. Assumes nothing: these are definitions.
use Rattle.std.specs.Prelude.{ℕ, min, max, List, [], ◌∷◌}
use Rattle.state.specs.Model.{Datum}

-- the greatest of m and the left ends
unfoldable pub greatest_left : ℕ → List Datum → ℕ
greatest_left m [] = m
greatest_left m (d ∷ ds) = greatest_left (max m d.left) ds

-- the least of m and the right ends
unfoldable pub least_right : ℕ → List Datum → ℕ
least_right m [] = m
least_right m (d ∷ ds) = least_right (min m d.right) ds
