-- Definitions that serve the code alone: no statement of documents 01 and 02 cites this file.
-- The blamed name as a term, on what is held and known. Assumes nothing: these are definitions.
use Rattle.std.specs.Prelude.{ℕ, Option}
use Rattle.state.specs.Model.{Store}
use Rattle.settling.specs.code.Rows.{with_term}

-- what is held and known with the entry of this term placed, if there is one
unfoldable pub blamed_by : Option ℕ → Store → Store
blamed_by t k = record { held = k.held; entries = with_term t k.entries }
