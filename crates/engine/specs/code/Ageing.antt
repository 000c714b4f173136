-- Definitions that serve the code alone: no statement of document 01 cites this file.
-- What ageing computes on the way. Assumes nothing: these are definitions.
use Rattle.std.specs.Prelude.{ℕ, ◌+◌, Bool, ltb}
use Rattle.std.specs.List.{list_all}
use Rattle.state.specs.Model.{Store, end_limit}

-- every right end can be stored after it gained hi
unfoldable pub stays_below : ℕ → Store → Bool
stays_below hi k = list_all (λ d. ltb (d.right + hi) end_limit) k.held
