-- `lines::text::put_answer` meets its contract: the first number tells the answer, and the other two are the ends. Assumes nothing.
use Rattle.std.proofs.Common.{ℕ, ◌≡◌, [], ◌∷◌, sym, ◌∙◌, arith}
use Rattle.std.specs.Prelude.{codes}
use Rattle.fields.specs.Decimal.{with_two}
use Rattle.fields.specs.code.Lines.{with_numbers}
use Rattle.fields.proofs.DecimalLaws.{with_numbers-two}
use borrow.Author.Tests.{eq-eqb, ne_eqb}
use Rattle.numbers.specs.Numbers.{num}
use Rattle.monitor.specs.Ask.{answer_in}
use Rattle.lines.specs.Text.{between_word, answer_text}
use Rattle.lines.proofs.text.put_answer.Goals as goal

-- the line of two ends
two : (left right : ℕ) → with_numbers (codes "between") (left ∷ (right ∷ [])) ≡ with_two between_word left right
two left right = with_numbers-two (codes "between") left right

pub returns-in-0 : goal.returns-in-0
unfolding answer_text answer_in
returns-in-0 c =
    let kind = eq-eqb _ _ (sym c.get64.ensures.0 ∙ c.in-0.is) in
    let printed = c.put_text.ensures in
    record { value = rw kind printed.value; out_after = rw kind printed.out_after }

pub returns-in-1 : goal.returns-in-1
unfolding answer_text answer_in
returns-in-1 c =
    let is : num 0 8 c.args.answer.now ≡ 1 = sym c.get64.ensures.0 ∙ c.in-1.is in
    let first = ne_eqb _ _ (λ (e : num 0 8 c.args.answer.now ≡ 0). omega arith) in
    let kind = eq-eqb _ _ is in
    let printed = c.put_text-in-1.ensures in
    record { value = rw (first, kind) printed.value; out_after = rw (first, kind) printed.out_after }

pub returns-in_default : goal.returns-in_default
unfolding answer_text answer_in
returns-in_default c =
    let first = ne_eqb _ _ (λ (e : num 0 8 c.args.answer.now ≡ 0). omega arith) in
    let second = ne_eqb _ _ (λ (e : num 0 8 c.args.answer.now ≡ 1). omega arith) in
    let left = c.get64-left.ensures.0 in
    let right = c.get64-right.ensures.0 in
    let printed = rw (two c.get64-left.result c.get64-right.result) at c.put_line.ensures in
    record { value = rw (first, second, ← left, ← right) printed.value; out_after = rw (first, second, ← left, ← right) printed.out_after }
