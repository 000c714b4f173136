-- `steps::steps::drop_bettered` meets its contract: the test tells whether the new datum betters the one in a row.
use Rattle.std.proofs.Common.{rules}
use Rattle.steps.specs.Steps.{betters}
use Rattle.state.specs.code.Tables.{datum_of, datum_in}
use Rattle.steps.proofs.steps.drop_bettered.Goals as goal

pub returns : goal.returns
returns c = c.give_up.ensures (λ r. betters (datum_of c.args.new c.args.p.now) (datum_in r)) (λ i d r b h e p. search rules)
