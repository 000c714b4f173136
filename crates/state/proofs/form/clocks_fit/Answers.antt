-- `state::form::clocks_fit` meets its contract: each name's place is tested.
use Rattle.std.proofs.Common.{rules}
use Rattle.clocks.specs.Places.{place_fits}
use Rattle.state.specs.Layout.{clock_place}
use Rattle.state.specs.Form.{clocks_fit}
use Rattle.state.proofs.form.clocks_fit.Goals as goal

pub returns : goal.returns
unfolding clocks_fit
returns c = c.each.ensures (λ i. place_fits (clock_place i) c.args.s.now) (λ i b h told. search rules)
