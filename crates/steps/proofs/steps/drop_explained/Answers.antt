-- `steps::steps::drop_explained` meets its contract: the test tells whether the entries explain the terms in a row.
use Rattle.std.proofs.Common.{rules}
use Rattle.entries.specs.Entries.{explained}
use Rattle.entries.specs.code.Rows.{standing}
use Rattle.state.specs.code.Tables.{terms_of}
use Rattle.steps.proofs.steps.drop_explained.Goals as goal

pub returns : goal.returns
returns c = c.give_up.ensures (λ r. explained (standing c.args.entries.now) (terms_of r)) (λ i d r b h e p. search rules)
