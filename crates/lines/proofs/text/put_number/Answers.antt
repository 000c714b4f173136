-- `lines::text::put_number` meets its contract: `ok` for 0, and else `refused` and the number. Assumes nothing.
use borrow.Author.Tests.{eq-eqb, ne_eqb}
use Rattle.std.specs.Prelude.{ℕ, ◌≡◌, [], ◌∷◌, codes}
use Rattle.fields.specs.Decimal.{with_one}
use Rattle.fields.specs.code.Lines.{with_numbers}
use Rattle.fields.proofs.DecimalLaws.{with_numbers-one}
use Rattle.lines.specs.Text.{refused_word, number_text}
use Rattle.lines.proofs.text.put_number.Goals as goal

-- the line of one number
one : (number : ℕ) → with_numbers (codes "refused") (number ∷ []) ≡ with_one refused_word number
one number = with_numbers-one (codes "refused") number

pub returns-then-number-eq0 : goal.returns-then-number-eq0
unfolding number_text
returns-then-number-eq0 c =
    let taken = eq-eqb _ _ c.if-number-eq0.true in
    let printed = c.put_text.ensures in
    record { value = rw taken printed.value; out_after = rw taken printed.out_after }

pub returns : goal.returns
unfolding number_text
returns c =
    let refused = ne_eqb _ _ c.if-number-eq0.false in
    let from = c.from.ensures in
    let printed = c.put_line.ensures in
    record { value = rw (refused, ← (one c.args.number)) (rw from at printed.value); out_after = rw (refused, ← (one c.args.number)) (rw from at printed.out_after) }
