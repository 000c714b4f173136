-- `lines::text::put_fewest` meets its contract: a count of 5 stands for more than 4. Assumes nothing.
use Rattle.std.proofs.Common.{ℕ, ◌≡◌, [], ◌∷◌, sym, ◌∙◌, arith}
use Rattle.std.specs.Prelude.{codes}
use Rattle.fields.specs.Decimal.{with_two}
use Rattle.fields.specs.code.Lines.{with_numbers}
use Rattle.fields.proofs.DecimalLaws.{with_numbers-two}
use borrow.Author.Tests.{eq-eqb, ne_eqb}
use Rattle.numbers.specs.Numbers.{num}
use Rattle.monitor.specs.Ask.{fewest_in}
use Rattle.lines.specs.Text.{fewest_word, fewest_text}
use Rattle.lines.proofs.text.put_fewest.Goals as goal

-- the line of a count and a mask
two : (count mask : ℕ) → with_numbers (codes "fewest") (count ∷ (mask ∷ [])) ≡ with_two fewest_word count mask
two count mask = with_numbers-two (codes "fewest") count mask

pub returns-in-5 : goal.returns-in-5
unfolding fewest_text fewest_in
returns-in-5 c =
    let over = eq-eqb _ _ (sym c.get64.ensures.0 ∙ c.in-5.is) in
    let printed = c.put_text.ensures in
    record { value = rw over printed.value; out_after = rw over printed.out_after }

pub returns-in_default : goal.returns-in_default
unfolding fewest_text fewest_in
returns-in_default c =
    let few = ne_eqb _ _ (λ (e : num 0 8 c.args.answer.now ≡ 5). omega arith) in
    let count = c.get64.ensures.0 in
    let mask = c.get64-mask.ensures.0 in
    let printed = rw (two c.get64.result c.get64-mask.result) at c.put_line.ensures in
    record { value = rw (few, ← count, ← mask) printed.value; out_after = rw (few, ← count, ← mask) printed.out_after }
