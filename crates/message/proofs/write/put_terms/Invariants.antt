-- Invariant: what is stored, with the words of the terms from i on stored behind it, is the whole.
use Rattle.std.proofs.Common.{◌≡◌, ◌+◌, map, length, drop}
use Rattle.numbers.specs.Numbers.{put}
use Rattle.message.specs.Words.{word, masks}
use Rattle.message.proofs.write.put_terms.Given as goal

abbrev pub invariant-loop-i : goal.invariant-loop-i
invariant-loop-i l =
    (length l.out ≡ length l.initial.out)
    × (put (l.at + l.i) (map (λ t. word 6 t) (masks (drop l.i l.terms))) l.out ≡ put l.at (map (λ t. word 6 t) (masks l.terms)) l.initial.out)
