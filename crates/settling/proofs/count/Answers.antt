-- `settling::count` meets its contract: the rows that have terms are as many as the data (`rows-live`).
use mathlib.Core.Path.{◌∙◌}
use Rattle.settling.proofs.OutcomeLaws.{rows-live}
use Rattle.settling.proofs.count.Goals as goal

pub returns : goal.returns
returns c = (c.live_rows.ensures ∙ rows-live c.args.held.now, c.live.ensures)
