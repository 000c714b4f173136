-- `radio::read::read` meets its contract: each return is a case of the definition's tests, in their order.
use Rattle.std.proofs.Common.{◌≡◌, sym, ◌∙◌, arith, ne_eqb}
use Rattle.std.proofs.lemmas.Result.{err_from_is_err_and}
use Rattle.refusals.specs.Refusals.{number_of}
use Rattle.message.specs.Read.{contents}
use Rattle.message.proofs.WordLaws.{part_slice}
use Rattle.message.proofs.ReadLaws.{number_above}
use Rattle.radio.specs.Read.{read_words}
use Rattle.radio.proofs.ReadLaws.{parts_read}
use Rattle.radio.proofs.read.read.Goals as goal
use Rattle.radio.proofs.read.read.Goals.{Else-not-epochs_fit}

pub returns-then-n-clause-value : goal.returns-then-n-clause-value
unfolding read_words
returns-then-n-clause-value c = rw c.if-n.true

pub returns-in_err-shape-clause-value : goal.returns-in_err-shape-clause-value
unfolding read_words
returns-in_err-shape-clause-value c =
    let p = err_from_is_err_and c.from_residual.result c.from_residual.ensures.1 in
    rw (
      p.1,
      p.2,
      c.if-n.false,
      ← c.opening-at.ensures.0,
      ← c.in_err-shape.ensures,
      ne_eqb (number_of c.in_err-shape.field-0.0) 0 (λ e. omega (arith, number_above c.in_err-shape.field-0.0)),
    )

pub returns-then-not-epochs_fit-clause-value : goal.returns-then-not-epochs_fit-clause-value
unfolding read_words
returns-then-not-epochs_fit-clause-value c =
    rw (c.if-n.false, ← c.opening-at.ensures.0, ← c.in_ok-shape.ensures, ← c.epochs_fit.ensures, c.if-not-epochs_fit.true)

-- past the test of the epoch words
past : (c : Else-not-epochs_fit) → read_words c.args.words.now ≡ contents c.opening-at.result c.args.words.now
unfolding read_words
past c = rw (c.if-n.false, ← c.opening-at.ensures.0, ← c.in_ok-shape.ensures, ← c.epochs_fit.ensures, c.if-not-epochs_fit.false)

pub returns-in_err-message-clause-value : goal.returns-in_err-message-clause-value
returns-in_err-message-clause-value c =
    let p = err_from_is_err_and c.from_residual-in_err-message.result c.from_residual-in_err-message.ensures.1 in
    rw (p.1, p.2) (c.in_err-message.ensures.value ∙ sym (past (goal.at.returns-in_err-message-clause-value c).Else-not-epochs_fit))

-- the reading of the words
pub returns-clause-value : goal.returns-clause-value
returns-clause-value c = c.in_ok-message.ensures.value ∙ sym (past (goal.at.returns-clause-value c).Else-not-epochs_fit)

pub returns-clause-parts : goal.returns-clause-parts
returns-clause-parts c =
    let ws = c.args.words.now in
    let told = c.in_ok-message.ensures in
    let there = parts_read ws (told.value ∙ sym (past (goal.at.returns-clause-parts c).Else-not-epochs_fit)) in
    (told.parts.0 ∙ rw c.opening-at.ensures.0 (sym there.0), part_slice 1 c.opening-at.result ws ∙ rw c.opening-at.ensures.0 (sym there.1))
