-- Invariant: the first i data are stored, widened, and all else is as it was.
use mathlib.Core.Path.{◌≡◌}
use lib.ListN.{length}
use Rattle.numbers.specs.Numbers.{put}
use Rattle.ends.specs.Ends.{count_of}
use Rattle.engine.proofs.WidenLaws.{front}
use Rattle.engine.proofs.ageing.widen.Given as goal

abbrev pub invariant-loop-i : goal.invariant-loop-i
invariant-loop-i l =
    (length l.s ≡ length l.initial.s) × (l.s ≡ put 24 (front l.initial.s (count_of l.lo) (count_of l.hi) l.i) l.initial.s)
