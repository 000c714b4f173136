-- `state::form::entries_fit` meets its contract: each place in use is tested, and the others are one run of zeros.
use Rattle.std.proofs.Common.{rules, arith}
use Rattle.state.specs.Layout.{entry_place, entries_most}
use Rattle.state.specs.Form.{entry_fits}
use Rattle.state.proofs.FormLoops.{zero-lent}
use Rattle.state.proofs.form.entries_fit.Goals as goal

pub returns : goal.returns
returns c =
    let tested = c.each.ensures (entry_fits c.args.own c.args.s.now) (λ i b h told. search rules) in
    rw (tested, c.is_zero.ensures, zero-lent (entry_place c.args.n) (entry_place entries_most) c.args.s.now (omega arith))
