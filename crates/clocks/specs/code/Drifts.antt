-- Definitions that serve the code alone: no statement of document 01 cites this file.
-- How large the test's products can be. Assumes nothing: these are definitions.
use Rattle.std.specs.Prelude.{ℕ, ◌+◌}
use Rattle.clocks.specs.Clocks.{drift_most}

-- own and sender's drift added
abbrev pub drifts_most : ℕ
drifts_most = drift_most + drift_most
