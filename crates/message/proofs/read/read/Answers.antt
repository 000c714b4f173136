-- `message::read::read` meets its contract: each return is a case of the definition's tests.
use Rattle.std.proofs.Common.{◌≡◌, arith, ne_eqb}
use Rattle.std.proofs.lemmas.Result.{err_from_is_err_and}
use Rattle.refusals.specs.Refusals.{number_of}
use Rattle.message.specs.Read.{read_from, read_plain}
use Rattle.message.specs.code.Told.{reading_of}
use Rattle.message.proofs.ReadLaws.{number_above, parts_read}
use Rattle.message.proofs.read.read.Goals as goal
use Rattle.message.proofs.read.read.Goals.{After-contents}

pub returns-then-n-clause-value : goal.returns-then-n-clause-value
unfolding read_plain
returns-then-n-clause-value c = rw c.if-n.true

pub returns-in_err-shape-clause-value : goal.returns-in_err-shape-clause-value
unfolding read_plain read_from
returns-in_err-shape-clause-value c =
    let p = err_from_is_err_and c.from_residual.result c.from_residual.ensures.1 in
    rw (
      p.1,
      p.2,
      c.if-n.false,
      ← c.in_err-shape.ensures,
      ne_eqb (number_of c.in_err-shape.field-0.0) 0 (λ e. omega (arith, number_above c.in_err-shape.field-0.0)),
    )

-- document 01's reading of the words
value : (c : After-contents) → reading_of c.contents.result ≡ read_plain c.args.words.now
unfolding read_plain read_from
value c = rw (c.if-n.false, ← c.in_ok-shape.ensures) c.contents.ensures.value

pub returns-clause-value : goal.returns-clause-value
returns-clause-value c = value (goal.at.returns-clause-value c).After-contents

pub returns-clause-parts : goal.returns-clause-parts
returns-clause-parts c = parts_read _ _ (value (goal.at.returns-clause-parts c).After-contents) c.contents.ensures.parts
