-- `engine::ageing::stays_below` meets its contract: each held datum is tested.
use mathlib.Core.Path.{sym, ◌∙◌}
use Rattle.std.proofs.Common.{rules}
use Rattle.ends.specs.Ends.{count_of}
use Rattle.engine.proofs.AgeLaws.{stays_at, stays_below_lem}
use Rattle.engine.proofs.ageing.stays_below.Goals as goal

pub returns : goal.returns
returns c =
    let a = c.args in
    rw c.held.ensures.value at (c.each.ensures (stays_at (count_of a.hi) a.s.bytes.now) (λ i b h told. search rules))
    ∙ sym (stays_below_lem (count_of a.hi) a.s.bytes.now)
