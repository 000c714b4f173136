-- Definitions that serve the code alone: no statement of document 01 cites this file.
-- By rising limits to the fewest failures. Assumes nothing: these are definitions.
use Rattle.std.specs.Prelude.{ℕ, ◌≤◌, ◌<◌, not, T}
use Rattle.std.specs.Int.Count.{ones}
use Rattle.state.specs.Model.{State}
use Rattle.asking.specs.Fewest.{Works}
use Rattle.asking.specs.code.Claims.{hopeless}

-- r is the first limit from 2 to 4 that the entries do not rule out, or 5
pub record FirstLimit (st : State) (r : ℕ) : Type 0 where
  pub some : 2 ≤ r
  pub most : r ≤ 5
  pub before : (limit : ℕ) → 2 ≤ limit → limit < r → T (hopeless limit st)
  pub here : r < 5 → T (not (hopeless r st))

-- every set that works has so many names
pub record Floor (st : State) (limit : ℕ) : Type 0 where
  pub under : (s : ℕ) → Works st s → limit ≤ ones s
