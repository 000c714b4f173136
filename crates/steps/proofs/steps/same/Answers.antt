-- `steps::steps::same` meets its contract: slices are equal where they are the same lists (`same_is`).
use mathlib.Core.Path.{◌∙◌}
use Rattle.steps.proofs.HeldLaws.{same_is}
use Rattle.steps.proofs.steps.same.Goals as goal

pub returns : goal.returns
returns c = c.eq.ensures ∙ same_is c.args.p.now c.args.q.now
