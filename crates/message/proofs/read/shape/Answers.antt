-- `message::read::shape` meets its contract: each return is a case of the definition's tests, in their order.
use Rattle.std.proofs.Common.{◌≡◌, ◌+◌, true, cond, not, length, get_or, sym, ◌∙◌, arith, eq-eqb, ne_eqb}
use Rattle.std.proofs.lemmas.Result.{err_from_is_err_and}
use Rattle.message.specs.Read.{head_word_fits, start, term_count, kinds_fit, shape_refusal}
use Rattle.message.proofs.ReadLaws.{Opened, form_out, form_none}
use Rattle.message.proofs.read.shape.Goals as goal
use Rattle.message.proofs.read.shape.Goals.{In_ok-ends, Else-not-fits, Else-words-at}

head : (c : Else-not-fits) → head_word_fits (get_or c.args.words.now 0 0) ≡ true
head c = sym c.fits.ensures ∙ c.if-not-fits.false

opened : (c : In_ok-ends) → Opened c.args.at c.in_ok-ends.ends c.args.words.now
opened c = form_out _ _ _ (sym c.form.ensures ∙ c.in_ok-ends.was)

pub returns-then-not-fits : goal.returns-then-not-fits
unfolding shape_refusal
returns-then-not-fits c = rw (← c.fits.ensures, c.if-not-fits.true)

pub returns-in_err-ends : goal.returns-in_err-ends
unfolding shape_refusal
returns-in_err-ends c =
    let p = err_from_is_err_and c.from_residual.result c.from_residual.ensures.1 in
    let none = form_none c.args.at c.args.words.now _ (sym c.form.ensures ∙ c.in_err-ends.was) in
    rw (p.1, p.2, none.1, head (goal.at.returns-in_err-ends c).Else-not-fits, none.0)

pub overflow_sub-words-2 : goal.overflow_sub-words-2
overflow_sub-words-2 c = omega (arith, opened (goal.at.overflow_sub-words-2 c).In_ok-ends)

pub returns-then-words-at : goal.returns-then-words-at
unfolding shape_refusal
returns-then-words-at c =
    let words = c.args.words.now in
    let o = opened (goal.at.returns-then-words-at c).In_ok-ends in
    rw (
      head (goal.at.returns-then-words-at c).Else-not-fits,
      o.opened,
      ← o.told,
      ne_eqb (length words) (start c.args.at c.in_ok-ends.ends + term_count (get_or words 0 0) + 1) (λ e. omega (arith, o)),
    )

-- past the test of the count
past : (c : Else-words-at) → let a = c.args in
    let ends = c.in_ok-ends.ends in
    head_word_fits (get_or a.words.now 0 0) ≡ true → Opened a.at ends a.words.now
    → shape_refusal a.at a.words.now ≡ cond (not (kinds_fit a.at ends a.words.now)) 14 0
unfolding shape_refusal
past c fits o =
    let words = c.args.words.now in
    rw (
      fits,
      o.opened,
      ← o.told,
      eq-eqb (length words) (start c.args.at c.in_ok-ends.ends + term_count (get_or words 0 0) + 1) (omega (arith, o)),
    )

pub kinds_fit-requires : goal.kinds_fit-requires
kinds_fit-requires c = omega (arith, opened (goal.at.kinds_fit-requires c).In_ok-ends)

pub returns-then-not-kinds_fit : goal.returns-then-not-kinds_fit
returns-then-not-kinds_fit c =
    let at = goal.at.returns-then-not-kinds_fit c in
    sym (past at.Else-words-at (head at.Else-not-fits) (opened at.In_ok-ends) ∙ rw (← c.kinds_fit.ensures, c.if-not-kinds_fit.true))

pub returns : goal.returns
returns c =
    let at = goal.at.returns c in
    sym (past at.Else-words-at (head at.Else-not-fits) (opened at.In_ok-ends) ∙ rw (← c.kinds_fit.ensures, c.if-not-kinds_fit.false))
