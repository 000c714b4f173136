-- Invariant: out is what it was, with the bytes of the first i words at its front.
use Rattle.std.proofs.Common.{◌≡◌, take}
use Rattle.numbers.specs.Numbers.{put, bytes_of}
use Rattle.fields.proofs.read.message_bytes.Given as goal

abbrev pub invariant-loop-i : goal.invariant-loop-i
invariant-loop-i l = l.out ≡ put 0 (bytes_of (take l.i l.words)) l.initial.out
