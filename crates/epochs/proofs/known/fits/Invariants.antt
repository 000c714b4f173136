-- Invariant: whether the epochs before the index fit.
use mathlib.Core.Path.{◌≡◌}
use lib.Dec.{leb}
use lib.ListN.{take}
use Rattle.std.specs.List.{list_all}
use Rattle.epochs.specs.Epochs.{epoch_most}
use Rattle.epochs.proofs.known.fits.Given as goal

abbrev pub invariant-loop-e : goal.invariant-loop-e
invariant-loop-e l = l.ok ≡ list_all (λ e. leb e epoch_most) (take l.e-index l.e-items)
