-- `state::form::data_fit` meets its contract: each place in use is tested, and the others are one run of zeros.
use Rattle.std.proofs.Common.{rules, arith}
use Rattle.state.specs.Layout.{datum_place, data_most}
use Rattle.state.specs.Form.{datum_fits}
use Rattle.state.proofs.FormLoops.{zero-lent}
use Rattle.state.proofs.form.data_fit.Goals as goal

pub returns : goal.returns
returns c =
    let tested = c.each.ensures (datum_fits c.args.own c.args.s.now) (λ i b h told. search rules) in
    rw (tested, c.is_zero.ensures, zero-lent (datum_place c.args.n) (datum_place data_most) c.args.s.now (omega arith))
