-- `fields::read::numbers_behind` meets its contract: a line with no space has no field behind the first, and else they start behind that space.
-- Assumes nothing.
use Rattle.std.proofs.Common.{◌≡◌, length, refl, sym, ◌∙◌, arith}
use Rattle.numbers.specs.Numbers.{put}
use Rattle.fields.specs.code.Scan.{space_at, numbers_in}
use Rattle.fields.proofs.FieldLaws.{later-none, later-some}
use Rattle.fields.proofs.read.numbers_behind.Goals as goal

pub returns-then-end-line-clause-count : goal.returns-then-end-line-clause-count
returns-then-end-line-clause-count c =
    let none = later-none c.args.line.now (sym c.requires.0 ∙ c.if-end-line.true) in
    (rw none refl, omega arith)

pub returns-then-end-line-clause-values_after : goal.returns-then-end-line-clause-values_after
unfolding put numbers_in
returns-then-end-line-clause-values_after c =
    rw (later-none c.args.line.now (sym c.requires.0 ∙ c.if-end-line.true)) refl

pub returns : goal.returns
returns c =
    let line = c.args.line.now in
    let e : c.args.end ≡ space_at line = c.requires.0 in
    let some = rw (← e) at (later-some line (λ (f : space_at line ≡ length line). c.if-end-line.false (omega arith))) in
    record { count = rw some c.numbers_from.ensures.count; values_after = rw some c.numbers_from.ensures.values_after }
