-- `message::read::contents` meets its contract: each return is a case of the definition's tests, in their order.
-- The test for normal form is made on the term words themselves: being of one kind they stand in the order of their payloads.
use Rattle.std.proofs.Common.{◌≡◌, ◌+◌, ◌≤◌, eqb, length, get_or, sym, ap, ◌∙◌, arith, rules}
use Rattle.predicates.specs.Predicates.{is_normal}
use Rattle.message.specs.Words.{masks}
use Rattle.message.specs.Read.{sender_of, term_count, is_ends, middle, span, with_span, contents}
use Rattle.message.proofs.WordLaws.{normal-middle}
use Rattle.message.proofs.ReadLaws.{Shaped, shape_out, shaped_count, start_bounds}
use Rattle.message.proofs.read.contents.Goals as goal
use Rattle.message.proofs.read.contents.Goals.{After-is_normal, After-kind-ends, Else-not-check_fits, Start}

-- what the shape tells
shaped : (c : Start) → Shaped c.args.at c.args.words.now
shaped c = shape_out c.args.at c.args.words.now c.requires

fits : (c : Start) → c.args.at + 4 ≤ length c.args.words.now
fits c = omega (arith, shaped c, start_bounds c.args.at (is_ends c.args.at c.args.words.now))

-- the form, as the code tells it
told : (c : After-kind-ends) → let a = c.args in eqb c.kind-ends.result 2 ≡ is_ends a.at a.words.now
unfolding is_ends
told c = rw c.kind-ends.ensures.0

-- past the test of the check word
checked : (c : Else-not-check_fits) → let a = c.args in
    let words = a.words.now in
    let ends = is_ends a.at words in
    contents a.at words
    ≡ with_span (sender_of (get_or words 0 0)) (term_count (get_or words 0 0)) (is_normal (masks (middle a.at ends words))) (span a.at ends words)
unfolding contents
checked c = rw (← c.check_fits.ensures, c.if-not-check_fits.false)

-- the terms are in normal form where the part of the slice is
normal : (c : After-is_normal) → let a = c.args in
    Shaped a.at a.words.now → is_normal (masks (middle a.at (is_ends a.at a.words.now) a.words.now)) ≡ c.is_normal.result
normal c t = normal-middle c.args.at _ _ t.kinds ∙ sym (c.is_normal.ensures ∙ rw c.terms-terms.ensures)

pub returns-then-not-check_fits-clause-value : goal.returns-then-not-check_fits-clause-value
unfolding contents
returns-then-not-check_fits-clause-value c = rw (← c.check_fits.ensures, c.if-not-check_fits.true)

pub returns-in_default-clause-value : goal.returns-in_default-clause-value
unfolding with_span
returns-in_default-clause-value c =
    let at = goal.at.returns-in_default-clause-value c in
    sym (checked at.Else-not-check_fits ∙ rw (← (told at.After-kind-ends), ← c.span.ensures, c.in_default.is))

pub returns-then-not-is_normal-clause-value : goal.returns-then-not-is_normal-clause-value
unfolding with_span
returns-then-not-is_normal-clause-value c =
    let at = goal.at.returns-then-not-is_normal-clause-value c in
    let same = normal at.After-is_normal (shaped at.Start) in
    sym (checked at.Else-not-check_fits ∙ rw (same, ← (told at.After-kind-ends), ← c.span.ensures, c.in-Some.is, c.if-not-is_normal.true))

pub returns-clause-value : goal.returns-clause-value
unfolding with_span
returns-clause-value c =
    let at = goal.at.returns-clause-value c in
    let count = ap length c.terms-terms.ensures ∙ shaped_count (shaped at.Start) in
    let same = normal at.After-is_normal (shaped at.Start) in
    sym (checked at.Else-not-check_fits
    ∙ rw (same, ← (told at.After-kind-ends), ← c.span.ensures, c.in-Some.is, c.if-not-is_normal.false, count, c.sender.ensures))

pub offset_bounds-words-at : goal.offset_bounds-words-at
offset_bounds-words-at c = let h = fits (goal.at.offset_bounds-words-at c).Start in search rules

pub bounds-words-at : goal.bounds-words-at
bounds-words-at c = omega (arith, fits (goal.at.bounds-words-at c).Start)

pub check_fits-requires : goal.check_fits-requires
check_fits-requires c = omega (arith, fits (goal.at.check_fits-requires c).Start)

pub span-requires : goal.span-requires
span-requires c = fits (goal.at.span-requires c).Start

pub bounds-words-0 : goal.bounds-words-0
bounds-words-0 c = omega (arith, fits (goal.at.bounds-words-0 c).Start)
