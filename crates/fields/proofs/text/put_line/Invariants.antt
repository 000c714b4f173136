-- Invariant: the word and the numbers so far stand at the front of out.
use Rattle.std.proofs.Common.{◌≡◌, ◌++◌, length, take}
use Rattle.numbers.specs.Numbers.{put}
use Rattle.fields.specs.code.Lines.{spaced}
use Rattle.fields.proofs.text.put_line.Given as goal

abbrev pub invariant-loop-number : goal.invariant-loop-number
invariant-loop-number l = record {
  place : l.end ≡ length (l.word ++ spaced (take l.number-index l.numbers));
  stands : l.out ≡ put 0 (l.word ++ spaced (take l.number-index l.numbers)) l.fn.out;
}
