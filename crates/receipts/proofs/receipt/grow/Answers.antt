-- `receipts::receipt::grow` meets its contract: each end gains the advance of its delay; a message's ends have no millionths.
use mathlib.Core.Path.{◌∙◌}
use native.Mathlib.Omega.{arith}
use Rattle.state.specs.Layout.{head_of}
use Rattle.receipts.proofs.receipt.grow.Goals as goal

pub returns : goal.returns
unfolding head_of
returns c =
    let drift = c.from-drift.ensures ∙ c.drift.ensures.value in
    let lo = rw drift at c.least_advance-lo.ensures.0 in
    let hi = rw drift at c.greatest_advance-hi.ensures.0 in
    record { left_value = omega (arith, lo); right_value = omega (arith, hi); both_split = (c.least_advance-lo.ensures.1, c.greatest_advance-hi.ensures.1) }
