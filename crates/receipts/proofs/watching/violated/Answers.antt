-- `receipts::watching::violated` meets its contract: without readings nothing is violated; else the sender's place decides.
use Prim.Native.Nat.{◌<◌}
use mathlib.Core.Path.{sym, ◌∙◌}
use native.Mathlib.Omega.{arith}
use Rattle.state.specs.Layout.{clocks_most}
use Rattle.state.proofs.StateLaws.{form-place}
use Rattle.engine.proofs.AgeLaws.{drift-held}
use Rattle.engine.proofs.WatchLaws.{violated-none, with_fits, with_violated}
use Rattle.receipts.proofs.watching.violated.Goals as goal

pub returns-in_default : goal.returns-in_default
returns-in_default c = sym (violated-none _ _ _ c.in_default.is)

pub violated-requires : goal.violated-requires
violated-requires c =
    let s = c.args.state.now in
    let fit = with_fits _ _ c.in-Some.is c.requires.1.1 in
    let near : c.args.sender < clocks_most = omega (arith, c.requires.1.0) in
    (omega (arith, c.requires.0.0, near), form-place s c.requires.0.1 c.args.sender near, omega (arith, c.drift-own.ensures.value, drift-held s c.requires.0.1), fit.1, fit.0)

pub returns : goal.returns
returns c =
    let near : c.args.sender < clocks_most = omega (arith, c.requires.1.0) in
    c.violated.ensures ∙ with_violated c.args.state.now c.args.sender _ _ _ near c.in-Some.is c.drift-own.ensures.value
