-- `lines::commands::ask_line` meets its contract: a question with one field is answered, or refused with its number; other fields are a bad line.
-- Assumes nothing.
use Rattle.std.proofs.Common.{◌≡◌, length, refl, arith}
use borrow.Author.Tests.{eq-eqb, ne_eqb}
use Rattle.lines.specs.Lines.{ask_line, ask_text, answered_text, bad_line}
use Rattle.lines.proofs.commands.ask_line.Goals as goal

pub returns-in_default : goal.returns-in_default
unfolding ask_line bad_line
returns-in_default c = (rw (ne_eqb _ _ (λ (e : length c.args.values.now ≡ 1). omega arith)), refl)

pub returns-in_default-2 : goal.returns-in_default-2
unfolding ask_line bad_line
returns-in_default-2 c = (rw (ne_eqb _ _ (λ (e : length c.args.values.now ≡ 1). omega arith)), refl)

pub returns-then-number-ne0 : goal.returns-then-number-ne0
unfolding ask_line ask_text answered_text bad_line
returns-then-number-ne0 c =
    let is : length c.args.values.now ≡ 1 = omega arith in
    let fits = eq-eqb _ _ is in
    let number = c.monitor_ask-number.ensures.value in
    let refused = ne_eqb _ _ c.if-number-ne0.true in
    let printed = c.put_number.ensures in
    (rw (fits, ← number, refused) printed.value, rw (fits, ← number, refused) printed.out_after)

pub returns : goal.returns
unfolding ask_line ask_text answered_text bad_line
returns c =
    let is : length c.args.values.now ≡ 1 = omega arith in
    let fits = eq-eqb _ _ is in
    let number = c.monitor_ask-number.ensures.value in
    let taken = eq-eqb _ _ c.if-number-ne0.false in
    let output = c.monitor_ask-number.ensures.answer_after in
    let printed = c.put_answer.ensures in
    (rw (fits, ← number, taken, ← output) printed.value, rw (fits, ← number, taken, ← output) printed.out_after)
