-- `fields::read::numbers_from` meets its contract: each turn reads the field up to the next space. The mathematics is `numbers_bad`, `numbers-last`
-- and `numbers_more` of `proofs.FieldLaws`. Assumes nothing.
use Rattle.std.proofs.Common.{◌≡◌, ◌+◌, ◌-◌, ◌≤◌, length, true, false, drop, take, refl, sym, ◌∙◌, arith, rules}
use lib.ListN.{length-set}
use Rattle.fields.specs.Fields.{fields, is_number, value}
use Rattle.fields.proofs.FieldLaws.{found, not-found, numbers_bad, numbers-last, numbers_more, field_some}
use Rattle.fields.proofs.read.numbers_from.Goals as goal
use Rattle.fields.proofs.read.numbers_from.Goals.{After-from_residual, In_ok-values}

pub loop-values-init : goal.loop-values-init
loop-values-init c = (search rules, search rules, refl, refl, search rules, refl)

-- a field that is no number
bad : (c : After-from_residual) → let l = c.args.line.now in is_number (take (c.field_end-end.result - c.loop-values.at) (drop c.loop-values.at l)) ≡ false
bad c = not-found _ _ (sym c.number.ensures ∙ c.in_err-values.was)

pub returns-in_err-values-clause-count : goal.returns-in_err-values-clause-count
returns-in_err-values-clause-count c =
    let head = c.loop-values in
    let read = numbers_bad c.args.line.now head.at c.field_end-end.result head.n head.values head.invariant.0 c.field_end-end.ensures.0 (bad c) in
    let none = sym head.invariant.3 ∙ read.0 in
    (rw none c.from_residual.ensures, rw c.from_residual.ensures tt)

pub returns-in_err-values-clause-values_after : goal.returns-in_err-values-clause-values_after
returns-in_err-values-clause-values_after c =
    let head = c.loop-values in
    let read = numbers_bad c.args.line.now head.at c.field_end-end.result head.n head.values head.invariant.0 c.field_end-end.ensures.0 (bad c) in
    sym read.1 ∙ head.invariant.5

-- a field that is one
good : (c : In_ok-values) → let l = c.args.line.now in let f = take (c.field_end-end.result - c.loop-values.at) (drop c.loop-values.at l) in (is_number f ≡ true) × (value f ≡ c.in_ok-values.field-0)
good c = found _ _ _ (sym c.number.ensures ∙ c.in_ok-values.was)

some : (c : In_ok-values) → 1 ≤ c.field_end-end.result - c.loop-values.at
some c = field_some (c.field_end-end.result - c.loop-values.at) (drop c.loop-values.at c.args.line.now) (good c).0

pub offset_bounds-values-n : goal.offset_bounds-values-n
offset_bounds-values-n c = omega (arith, some c)

pub bounds-values-n : goal.bounds-values-n
bounds-values-n c = omega (arith, some c)

pub loop-values-smaller : goal.loop-values-smaller
loop-values-smaller c = omega arith

pub returns-then-end-line-clause-count : goal.returns-then-end-line-clause-count
returns-then-end-line-clause-count c =
    let head = c.loop-values in
    let is = good (goal.at.returns-then-end-line-clause-count c).In_ok-values in
    let last = numbers-last c.args.line.now head.at c.field_end-end.result head.n head.values head.invariant.0 c.field_end-end.ensures.0 is.0 c.if-end-line.true in
    let all-good = sym head.invariant.3 ∙ last.0 in
    let count : head.n + 1 ≡ length (fields (drop c.args.from c.args.line.now)) = omega arith in
    (rw (all-good, count) refl, omega (arith, some (goal.at.returns-then-end-line-clause-count c).In_ok-values))

pub returns-then-end-line-clause-values_after : goal.returns-then-end-line-clause-values_after
returns-then-end-line-clause-values_after c =
    let head = c.loop-values in
    let is = good (goal.at.returns-then-end-line-clause-values_after c).In_ok-values in
    let last = numbers-last c.args.line.now head.at c.field_end-end.result head.n head.values head.invariant.0 c.field_end-end.ensures.0 is.0 c.if-end-line.true in
    rw (← is.1) (sym last.2 ∙ head.invariant.5)

pub loop-values-preserved : goal.loop-values-preserved
loop-values-preserved c =
    let head = c.loop-values in
    let is = good (goal.at.loop-values-preserved c).In_ok-values in
    let more = numbers_more c.args.line.now head.at c.field_end-end.result head.n head.values head.invariant.0 c.field_end-end.ensures.0 is.0 c.if-end-line.false in (
      omega arith,
      omega (arith, some (goal.at.loop-values-preserved c).In_ok-values),
      simp length-set head.invariant.2,
      sym more.0 ∙ head.invariant.3,
      omega arith,
      rw (← is.1) (sym more.2 ∙ head.invariant.5),
    )
