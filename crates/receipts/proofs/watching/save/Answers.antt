-- `receipts::watching::save` meets its contract: without readings every byte stays; else the sender's place is the one part that changes.
use Prim.Native.Nat.{◌<◌}
use native.Mathlib.Omega.{arith}
use borrow.Author.Rules.{rules}
use Rattle.numbers.specs.Numbers.{Bytes}
use Rattle.state.specs.Layout.{clocks_most}
use Rattle.state.proofs.StateLaws.{form-place}
use Rattle.engine.proofs.WatchLaws.{with_fits, with_saved, without-saved}
use Rattle.receipts.proofs.watching.save.Goals as goal

pub returns-in_default : goal.returns-in_default
unfolding Bytes
returns-in_default c =
    without-saved c.args.state.now c.args.sender _ c.requires.0.1 (search rules) c.requires.0.0 c.in_default.is

pub save-requires : goal.save-requires
save-requires c =
    let near : c.args.sender < clocks_most = omega (arith, c.requires.1.0) in
    (omega (arith, c.requires.0.0, near), form-place c.args.state.now c.requires.0.1 c.args.sender near, (with_fits _ _ c.in-Some.is c.requires.1.1).0)

pub returns : goal.returns
unfolding Bytes
returns c =
    with_saved c.args.state.now _ c.args.sender _ _ c.requires.0.1 (search rules) c.requires.0.0 (omega (arith, c.requires.1.0))
    c.in-Some.is c.save.ensures
