-- `lines::commands::get_line` meets its contract: the words behind the two delays are the message, as bytes; too few fields, or a number that is no
-- word, are a bad line. Assumes nothing.
use Rattle.std.proofs.Common.{◌≡◌, ◌-◌, length, take, drop, length-drop, refl, sym, ◌∙◌, arith}
use borrow.Author.Tests.{le-leb, lt-leb}
use lib.Seq.{length-take-le}
use Rattle.lines.specs.Lines.{get_line, bad_line}
use Rattle.lines.proofs.LineLaws.{behind_two, message_at_front}
use Rattle.lines.proofs.commands.get_line.Goals as goal

pub returns-in_default : goal.returns-in_default
unfolding get_line bad_line
returns-in_default c =
    let few = lt-leb _ _ c.in_default.len_below in
    (rw few, (rw few, refl))

pub returns-then-not-words_fit : goal.returns-then-not-words_fit
unfolding get_line bad_line
returns-then-not-words_fit c =
    let ns = c.args.values.now in
    let many = le-leb _ _ c.in-len2-up.len_at_least in
    let wide = rw (behind_two ns) at (sym c.words_fit.ensures ∙ c.if-not-words_fit.true) in
    (rw (many, wide), (rw (many, wide), refl))

pub slice_bounds-monitor_receive-end : goal.slice_bounds-monitor_receive-end
slice_bounds-monitor_receive-end c = sym (length-take-le _ _ (omega arith))

pub returns : goal.returns
unfolding get_line bad_line
returns c =
    let ns = c.args.values.now in
    let many = le-leb _ _ c.in-len2-up.len_at_least in
    let fit = rw (behind_two ns) at (sym c.words_fit.ensures ∙ c.if-not-words_fit.false) in
    let words = take (length ns - 2) (drop 2 ns) in
    let long : length words ≡ length ns - 2 = rw (behind_two ns) (length-drop 2 ns) in
    let message = message_at_front words _ _ (omega (arith, long)) c.message_bytes.ensures in
    let number = rw (message, behind_two ns) at c.monitor_receive-number.ensures.value in
    let state = rw (message, behind_two ns) at c.monitor_receive-number.ensures.state_after in
    let printed = c.put_number.ensures in
    (rw (many, fit) state, (rw (many, fit, ← number) printed.value, rw (many, fit, ← number) printed.out_after))
