-- `fields::text::put_one` meets its contract: the word, the number and the line feed, each behind the one before (`with_one_lem` of `proofs.DecimalLaws`).
-- Assumes nothing.
use Rattle.fields.proofs.DecimalLaws.{with_one_lem}
use Rattle.fields.proofs.text.put_one.Goals as goal

pub returns : goal.returns
returns c =
    let word = c.put_text-first.ensures in
    let number = c.put_decimal-second.ensures in
    let feed = c.put_text.ensures in
    let made = with_one_lem _ _ _ _ _ _ _ _ _ word.value word.out_after number.value.0 number.out_after feed.value feed.out_after in record { value = made.0; out_after = made.1 }
