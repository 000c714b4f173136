-- Invariant: the masks are those of the names before the index.
use mathlib.Core.Path.{◌≡◌}
use lib.ListN.{take}
use Rattle.epochs.specs.Epochs.{epochs_in, older, spoken}
use Rattle.epochs.proofs.known.hear.Given as goal

abbrev pub invariant-loop-w : goal.invariant-loop-w
invariant-loop-w l =
    (l.risen ≡ older (epochs_in l.at l.s) (spoken l.own (take l.w-index l.words) (epochs_in l.at l.s)))
    × (l.late ≡ older (spoken l.own (take l.w-index l.words) (epochs_in l.at l.s)) (epochs_in l.at l.s))
