-- Invariant: out is what it was, with the bytes of the first i words stored from index at on.
use mathlib.Core.Path.{◌≡◌}
use lib.ListN.{take}
use Rattle.numbers.specs.Numbers.{put, bytes_of}
use Rattle.numbers.proofs.put_words.Given as goal

abbrev pub invariant-loop-i : goal.invariant-loop-i
invariant-loop-i l = l.out ≡ put l.at (bytes_of (take l.i l.words)) l.initial.out
