-- Invariant: what is kept, the count and the output are those behind the bytes so far, and no byte has printed more than an answer.
use Rattle.std.proofs.Common.{◌≡◌, ◌*◌, ◌≤◌, length, take}
use Rattle.numbers.specs.Numbers.{put}
use Rattle.lines.specs.code.Sizes.{answer_most}
use Rattle.stream.specs.Kept.{kept_after, text_after}
use Rattle.stream.proofs.Session.take_piece.Given as goal

abbrev pub invariant-loop-b : goal.invariant-loop-b
invariant-loop-b l = record {
  keeps : l.self ≡ kept_after l.fn.self (take l.b-index l.piece);
  long : l.filled ≡ length (text_after l.fn.self (take l.b-index l.piece));
  most : l.filled ≤ answer_most * l.b-index;
  prints : l.out ≡ put 0 (text_after l.fn.self (take l.b-index l.piece)) l.fn.out;
}
