-- Definitions that serve the code alone: no statement of document 01 cites this file.
-- Claims told by the names that they need: by their degree, and by the names that decide alone. Assumes nothing: these are definitions.
use Rattle.std.specs.Prelude.{ℕ, zero, suc, Bool, leb}
use Rattle.names.specs.code.Parts.{shared, others}
use Rattle.predicates.specs.Predicates.{degree}
use Rattle.predicates.specs.code.Marks.{singles}
use Rattle.state.specs.Model.{Store}
use Rattle.claims.specs.code.Tables.{claim_at}

-- so many names are enough for claim i
unfoldable pub degree_within : Store → ℕ → ℕ → Bool
degree_within k most i = leb (degree (claim_at k i).terms) most

-- the names, without the own one, that each make the first n claims true alone
unfoldable pub deciding : Store → ℕ → ℕ → ℕ
deciding k own zero = others own
deciding k own (suc n) = shared (deciding k own n) (singles (claim_at k n).terms)
