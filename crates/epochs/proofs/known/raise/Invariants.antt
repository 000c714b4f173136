-- Invariant: the epochs are those known once the names before the index are heard.
use mathlib.Core.Path.{◌≡◌}
use lib.ListN.{take}
use Rattle.numbers.specs.Numbers.{put}
use Rattle.epochs.specs.Epochs.{epochs_in, raised, spoken}
use Rattle.epochs.proofs.known.raise.Given as goal

abbrev pub invariant-loop-w : goal.invariant-loop-w
invariant-loop-w l = l.s ≡ put l.at (raised (epochs_in l.at l.initial.s) (spoken l.own (take l.w-index l.words) (epochs_in l.at l.initial.s))) l.initial.s
