-- `epochs::known::hear` meets its contract: name by name (`risen-turn`, `late-turn`), each of another identifier than those before it.
use mathlib.Core.Path.{sym}
use Rattle.epochs.specs.Epochs.{epochs_in, spoken}
use Rattle.epochs.proofs.EpochLaws.{length_known, older-none, risen-turn, late-turn}
use Rattle.epochs.proofs.known.hear.Goals as goal

pub loop-w-init : goal.loop-w-init
unfolding spoken
loop-w-init c = let none = older-none (epochs_in c.args.at c.args.s.now) in (sym none, sym none)

pub loop-w-preserved : goal.loop-w-preserved
loop-w-preserved c =
    let a = c.args in
    let at = c.loop-w in
    let more = c.loop-w-test.true in
    let ks = epochs_in a.at a.s.now in
    let long = length_known a.at a.s.now in
    let name = c.from-name.ensures in
    let known = c.epoch_of-known.ensures.0 in (
      rw (c.union-risen.ensures, c.bit_where.ensures, known, name.0, name.1, at.invariant.0) (sym (risen-turn a.own a.words.now ks c.requires.1 long at.w-index more)),
      rw (c.union-late.ensures, c.bit_where-in-loop-w.ensures, known, name.0, name.1, at.invariant.1) (sym (late-turn a.own a.words.now ks c.requires.1 long at.w-index more)),
    )
