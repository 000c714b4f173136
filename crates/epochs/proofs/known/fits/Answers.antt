-- `epochs::known::fits` meets its contract: the epochs are the bytes that stand there (`known_slice`).
use Prim.Native.Nat.{ℕ}
use mathlib.Core.Path.{sym, ap, ◌∙◌}
use mathlib.Core.List.{List}
use lib.Dec.{leb}
use lib.Seq.{take_all}
use Rattle.std.specs.List.{list_all}
use Rattle.epochs.specs.Epochs.{epoch_most}
use Rattle.epochs.proofs.EpochLaws.{known_part}
use Rattle.epochs.proofs.known.fits.Goals as goal

pub returns : goal.returns
returns c =
    let a = c.args in
    let at = c.loop-e in
    (rw (take_all at.e-index _ c.loop-e-test.false) at at.invariant) ∙ ap (λ (l : List ℕ). list_all (λ e. leb e epoch_most) l) (sym (known_part a.at a.s.now c.requires))
