-- `fields::text::put_two` meets its contract: the word, the two numbers with a space between and the line feed, each behind the one before
-- (`with_two_lem` of `proofs.DecimalLaws`). Assumes nothing.
use Rattle.fields.proofs.DecimalLaws.{with_two_lem}
use Rattle.fields.proofs.text.put_two.Goals as goal

pub returns : goal.returns
returns c =
    let word = c.put_text-first.ensures in
    let first = c.put_decimal-second.ensures in
    let space = c.put_text-third.ensures in
    let second = c.put_decimal-last.ensures in
    let feed = c.put_text.ensures in
    let made = with_two_lem _ _ _ _ _ _ _ _ _ _ _ _ _ _
    word.value word.out_after first.value.0 first.out_after space.value space.out_after second.value.0 second.out_after feed.value feed.out_after in record { value = made.0; out_after = made.1 }
