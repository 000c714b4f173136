-- `epochs::known::raise` meets its contract: name by name (`raise-write`), each of another identifier than those before it.
use mathlib.Core.Path.{sym}
use mathlib.Core.Bool.{true, false}
use Rattle.epochs.specs.Epochs.{spoken}
use Rattle.epochs.proofs.EpochLaws.{put_known, raise-write}
use Rattle.epochs.proofs.known.raise.Goals as goal
use Rattle.epochs.proofs.known.raise.Goals.{else-n-own, then-n-own}

pub loop-w-init : goal.loop-w-init
unfolding spoken
loop-w-init c = put_known c.args.at c.args.s.now c.requires.0

pub loop-w-preserved : goal.loop-w-preserved
loop-w-preserved c =
    let a = c.args in
    let at = c.loop-w in
    let name = c.from-name.ensures in
    let known = c.epoch_of-known.ensures.0 in
    let write = raise-write a.own a.at a.words.now a.s.now at.s c.requires.1 c.requires.0 at.w-index c.loop-w-test.true at.invariant c.if-n-own.s in
    elim c.if-n-own.branch [ then-n-own x ↦ write true (rw (known, name.0, name.1) at (sym x.if-n-own.true)) (rw (name.0, name.1) at x.s-is) | else-n-own x ↦ write false (rw (known, name.0, name.1) at (sym x.if-n-own.false)) x.s-is ]
