-- `lines::carry_out` meets its contract: a line that is too long, or has a field behind the first that is no number, is a bad line; else the first field
-- is the command word, and the numbers of the others stand at the front of the table. The mathematics is `line-long` and `line-fields` of
-- `proofs.LineLaws`. Assumes nothing.
use Rattle.std.proofs.Common.{◌≡◌, ◌≤◌, true, map, length, take, length-take, refl, sym, ◌∙◌, arith, rules}
use native.Mathlib.Nat.{zero-add}
use lib.ListN.{length-map}
use lib.Seq.{length-take-le}
use Rattle.std.specs.List.{list_all}
use Rattle.predicates.proofs.ListLaws.{true_T}
use Rattle.numbers.proofs.NumberLaws.{take_put}
use Rattle.fields.specs.Fields.{fields, value, is_number}
use Rattle.fields.specs.code.Scan.{later, space_at}
use Rattle.fields.proofs.FieldLaws.{found, not-found, numbers-all}
use Rattle.lines.specs.Lines.{bad_line}
use Rattle.lines.specs.code.Sizes.{values_most}
use Rattle.lines.proofs.LineLaws.{line-long, line-fields}
use Rattle.lines.proofs.carry_out.Goals as goal
use Rattle.lines.proofs.carry_out.Goals.{In-Some}

pub returns-then-line-gt-LINE_MOST : goal.returns-then-line-gt-LINE_MOST
unfolding bad_line
returns-then-line-gt-LINE_MOST c =
    let long = line-long c.args.line.now c.args.state.now c.args.begun.now c.if-line-gt-LINE_MOST.true in
    (rw long, rw long, (rw long, refl))

pub returns-in_default : goal.returns-in_default
unfolding bad_line
returns-in_default c =
    let bad = not-found _ _ (sym c.numbers_behind.ensures.count.0 ∙ c.in_default.is) in
    let result = line-fields c.args.line.now c.args.state.now c.args.begun.now c.if-line-gt-LINE_MOST.false in
    (rw (result, bad), rw (result, bad), (rw (result, bad), refl))

-- behind the second test every field behind the first is a number, and so many they are
good : (c : In-Some) → let read = later (fields c.args.line.now) in (list_all is_number read ≡ true) × (length read ≡ c.in-Some.n)
good c = found _ _ _ (sym c.numbers_behind.ensures.count.0 ∙ c.in-Some.is)

few : (c : In-Some) → c.in-Some.n ≤ values_most
few c = c.in-Some.ensures.count.1

whole : (c : In-Some) → length c.numbers_behind.new.values ≡ values_most
whole c = c.numbers_behind.auto.values

-- the word before the first space, and the numbers of the fields behind it
word : (c : In-Some) → c.field_end-end.result ≡ space_at c.args.line.now
word c = c.field_end-end.ensures.0 ∙ zero-add _

numbers : (c : In-Some) → take c.in-Some.n c.numbers_behind.new.values ≡ map value (later (fields c.args.line.now))
numbers c =
    let read = later (fields c.args.line.now) in
    let stored = c.numbers_behind.ensures.values_after in
    rw (stored, numbers-all read (true_T _ (good c).0)) (take_put _ (map value read) _ (length-map read value ∙ (good c).1) (few c))

pub slice_bounds-word_line-end : goal.slice_bounds-word_line-end
slice_bounds-word_line-end c = sym (length-take-le _ _ c.field_end-end.ensures.2)

pub slice_bounds-values-end : goal.slice_bounds-values-end
slice_bounds-values-end c = omega (arith, few (goal.at.slice_bounds-values-end c).In-Some, whole (goal.at.slice_bounds-values-end c).In-Some)

pub slice_bounds-word_line-end-2 : goal.slice_bounds-word_line-end-2
slice_bounds-word_line-end-2 c = sym (length-take-le _ _ (omega (arith, few (goal.at.slice_bounds-word_line-end-2 c).In-Some, whole (goal.at.slice_bounds-word_line-end-2 c).In-Some)))

pub word_line-requires : goal.word_line-requires
word_line-requires c =
    (omega (arith, few (goal.at.word_line-requires c).In-Some, length-take c.in-Some.n c.numbers_behind.new.values), search rules)

pub returns : goal.returns
returns c =
    let a = c.args in
    let result = line-fields a.line.now a.state.now a.begun.now c.if-line-gt-LINE_MOST.false in
    let told = rw (numbers (goal.at.returns c).In-Some, word (goal.at.returns c).In-Some) at c.word_line.ensures in
    rw (result, (good (goal.at.returns c).In-Some).0) told
