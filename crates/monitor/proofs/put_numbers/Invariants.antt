-- Invariant: what is stored, with the numbers from i on stored behind it, is the whole.
use Rattle.std.proofs.Common.{◌≡◌, ◌*◌, length, drop}
use Rattle.numbers.specs.Numbers.{put}
use Rattle.monitor.specs.Ask.{wide}
use Rattle.monitor.proofs.put_numbers.Given as goal

abbrev pub invariant-loop-i : goal.invariant-loop-i
invariant-loop-i l =
    (length l.out ≡ length l.initial.out) × (put (l.i * 8) (wide (drop l.i l.numbers)) l.out ≡ put 0 (wide l.numbers) l.initial.out)
