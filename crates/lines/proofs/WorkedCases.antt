-- The tables of `specs.Cases` hold. The idea: each row is tested on bytes that are written out, so the tables compute, and a test that is passed is
-- the row's equation. Assumes nothing.
use Prim.Native.Nat.{ℕ}
use mathlib.Core.Path.{◌≡◌}
use mathlib.Core.Bool.{Bool, ◌&&◌, true, false, not, cond}
use mathlib.Core.List.{List, []}
use lib.Dec.{T}
use Rattle.std.specs.List.{list_all}
use Rattle.predicates.proofs.ListLaws.{both_l, both_r, T_true, T_false, all_out}
use Rattle.numbers.specs.Numbers.{tab}
use Rattle.state.specs.Refusal.{lent, after}
use Rattle.monitor.specs.Calls.{set_up_number, set_up_state, age_number, age_state}
use Rattle.monitor.specs.Receive.{receive_number, receive_state}
use Rattle.monitor.specs.Ask.{ask_number, fewest_number}
use Rattle.fields.specs.Fields.{onto, fields, value_from, value, is_number, same_bytes}
use Rattle.fields.specs.Decimal.{digits, with_one, with_two}
use Rattle.fields.proofs.FieldLaws.{same_bytes_out}
use Rattle.lines.specs.Text.{number_text, answer_text, fewest_text}
use Rattle.lines.specs.Lines.{LineResult, bad_line, set_line, age_line, get_line, answered_text, ask_text, ask_line}
use Rattle.lines.specs.Lines.{fewest_answer, fewest_line, later_line, word_line, fields_line, line_result}
use Rattle.lines.specs.Cases.{ascii, LineCase, printed_line, LineComes, early_lines, later_lines, EachLine, Printed, PrintedComes, answers, EachPrinted}

-- ---- good and bad lines

-- a line's result as it must be, as a test
unfoldable same_result : LineResult → Bool → List ℕ → List ℕ → Bool
same_result r begun s text = cond begun r.begun (not r.begun) && (same_bytes r.state s && same_bytes r.text text)

same-begun : (b begun : Bool) → T (cond begun b (not b)) → b ≡ begun
same-begun b true h = T_true b h
same-begun b false h = T_false b h

same_result_out : (r : LineResult) (begun : Bool) (s text : List ℕ) → T (same_result r begun s text) → r ≡ record { begun = begun; state = s; text = text }
unfolding same_result
same_result_out r begun s text h =
    let kept = both_r (cond begun r.begun (not r.begun)) _ h in
    rw (
      same-begun r.begun begun (both_l (cond begun r.begun (not r.begun)) _ h),
      same_bytes_out r.state s (both_l (same_bytes r.state s) _ kept),
      same_bytes_out r.text text (both_r (same_bytes r.state s) _ kept),
    )

unfoldable line_passes : Bool → LineCase → Bool
line_passes begun l = same_result (line_result (ascii l.line) begun []) begun [] (printed_line l.prints)

lines_pass : T (list_all (line_passes false) early_lines && list_all (line_passes true) later_lines)
unfolding tab lent after set_up_number set_up_state age_number age_state receive_number receive_state ask_number fewest_number digits with_one number_text
    onto fields value_from value is_number bad_line set_line age_line get_line answered_text ask_text ask_line
    fewest_answer fewest_line same_bytes later_line word_line fields_line line_result
    ascii same_result line_passes early_lines later_lines
lines_pass = tt

line-comes : (begun : Bool) (l : LineCase) → T (line_passes begun l) → LineComes l begun []
unfolding line_passes
line-comes begun l h = same_result_out (line_result (ascii l.line) begun []) begun [] (printed_line l.prints) h

pub each_line : EachLine
unfolding EachLine
each_line =
    let early = both_l (list_all (line_passes false) early_lines) _ lines_pass in
    let later = both_r (list_all (line_passes false) early_lines) _ lines_pass in
    (λ l i. line-comes false l (all_out (line_passes false) early_lines early l i), λ l i. line-comes true l (all_out (line_passes true) later_lines later l i))

-- ---- the lines that are printed

unfoldable printed_passes : Printed → Bool
printed_passes p = same_bytes p.text (printed_line p.line)

printed_pass : T (list_all printed_passes answers)
unfolding tab digits with_one with_two number_text answer_text fewest_text same_bytes ascii printed_passes answers
printed_pass = tt

printed-comes : (p : Printed) → T (printed_passes p) → PrintedComes p
unfolding printed_passes
printed-comes p h = same_bytes_out p.text (printed_line p.line) h

pub each-printed : EachPrinted
unfolding EachPrinted
each-printed p i = printed-comes p (all_out printed_passes answers printed_pass p i)
