-- Laws of `specs.Text`: how long the answer lines can be. No contract cites this file. Assumes nothing.
use Prim.Native.Nat.{ℕ, ◌≤◌}
use mathlib.Core.List.{List}
use native.Mathlib.Omega.{arith}
use lib.Dec.{eqb}
use lib.ListN.{length}
use Rattle.predicates.proofs.ListLaws.{cond_ind}
use Rattle.fields.proofs.DecimalLaws.{with_one-length, with_two-length}
use Rattle.asking.specs.declared.Answer.{Answer}
use Rattle.asking.specs.declared.Answer.TheVariants.{Contradicted, Open, Between}
use Rattle.asking.specs.Fewest.{Fewest, Over, Few}
use Rattle.lines.specs.code.Sizes.{answer_most}
use Rattle.lines.specs.Text.{number_text, answer_text, fewest_text, refused_word, between_word, fewest_word}

pub number-length : (number : ℕ) → length (number_text number) ≤ answer_most
unfolding number_text
number-length number =
    cond_ind (λ (l : List ℕ). length l ≤ answer_most) (eqb number 0) _ _ (λ _. omega arith) (λ _. omega (arith, with_one-length refused_word number))

pub answer-length : (a : Answer) → length (answer_text a) ≤ answer_most
unfolding answer_text
answer-length Contradicted = omega arith
answer-length Open = omega arith
answer-length (Between left right) = omega (arith, with_two-length between_word left right)

pub fewest-length : (f : Fewest) → length (fewest_text f) ≤ answer_most
unfolding fewest_text
fewest-length Over = omega arith
fewest-length (Few count mask) = omega (arith, with_two-length fewest_word count mask)
