-- `lines::commands::fewest_line` meets its contract: the question, which has no field, is answered, or refused with its number; other fields are a bad line.
-- Assumes nothing.
use Rattle.std.proofs.Common.{◌≡◌, length, false, true, eqb, refl, sym, ◌∙◌}
use borrow.Author.Tests.{eq-eqb, ne_eqb}
use Rattle.lines.specs.Lines.{fewest_line, fewest_answer, answered_text, bad_line}
use Rattle.lines.proofs.commands.fewest_line.Goals as goal

pub returns-then-not-is_empty : goal.returns-then-not-is_empty
unfolding fewest_line bad_line
returns-then-not-is_empty c =
    let some : eqb (length c.args.values.now) 0 ≡ false = sym c.is_empty.ensures ∙ c.if-not-is_empty.true in
    (rw some, refl)

pub returns-then-number-ne0 : goal.returns-then-number-ne0
unfolding fewest_line fewest_answer answered_text bad_line
returns-then-number-ne0 c =
    let fits : eqb (length c.args.values.now) 0 ≡ true = sym c.is_empty.ensures ∙ c.if-not-is_empty.false in
    let number = c.monitor_fewest-number.ensures.value in
    let refused = ne_eqb _ _ c.if-number-ne0.true in
    let printed = c.put_number.ensures in
    (rw (fits, ← number, refused) printed.value, rw (fits, ← number, refused) printed.out_after)

pub returns : goal.returns
unfolding fewest_line fewest_answer answered_text bad_line
returns c =
    let fits : eqb (length c.args.values.now) 0 ≡ true = sym c.is_empty.ensures ∙ c.if-not-is_empty.false in
    let number = c.monitor_fewest-number.ensures.value in
    let taken = eq-eqb _ _ c.if-number-ne0.false in
    let output = c.monitor_fewest-number.ensures.answer_after in
    let printed = c.put_fewest.ensures in
    (rw (fits, ← number, taken, ← output) printed.value, rw (fits, ← number, taken, ← output) printed.out_after)
