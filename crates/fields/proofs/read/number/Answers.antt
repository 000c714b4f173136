-- `fields::read::number` meets its contract: the loop leaves at a byte that is no digit, and where the number would pass 64 bits, since the digits
-- behind never make it smaller. The mathematics is `value_ge`, `value_next` and the laws of `is_number` of `proofs.FieldLaws`. Assumes nothing.
use Rattle.std.proofs.Common.{◌≡◌, ℕ, ◌+◌, ◌*◌, ◌-◌, ◌^◌, ◌<◌, ◌≤◌, List, length, get_or, drop, true, false, refl, sym, ◌∙◌, arith, rules}
use Rattle.std.proofs.lemmas.Grind.{common_steps}
use Rattle.predicates.proofs.LoopLaws.{all_here, all_next, all_done}
use Rattle.fields.specs.Fields.{is_digit, value_from, value, is_number}
use Rattle.fields.proofs.FieldLaws.{value_ge, value_next, value-done, number-empty, number_long, number_digits, number_large, number_good}
use Rattle.fields.proofs.read.number.Goals as goal
use Rattle.fields.proofs.read.number.Goals.{then-is_empty-via-then-is_empty, then-is_empty-via-else-is_empty+then-field-gt-DIGITS_MOST}
use Rattle.fields.proofs.read.number.Goals.{In_ok-checked_mul}

pub returns-then-is_empty : goal.returns-then-is_empty
returns-then-is_empty c =
    let f = c.args.field.now in
    let none : is_number f ≡ false =
    elim c.then-is_empty.branch [
      | then-is_empty-via-then-is_empty w ↦ (let empty : length f ≡ 0 = grind (arith, common_steps) in number-empty f empty)
      | then-is_empty-via-else-is_empty+then-field-gt-DIGITS_MOST w ↦ number_long f w.if-field-gt-DIGITS_MOST.true
    ] in
    rw none

pub loop-b-init : goal.loop-b-init
unfolding value
loop-b-init c = record { fits = omega arith; digits = refl; writes = refl }

pub returns-then-not-is_ascii_digit : goal.returns-then-not-is_ascii_digit
returns-then-not-is_ascii_digit c =
    let f = c.args.field.now in
    let other : is_digit (get_or f c.loop-b.b-index 0) ≡ false = sym c.if-not-is_ascii_digit.ensures.value in
    let none = number_digits f (sym c.loop-b.invariant.digits ∙ all_here is_digit f c.loop-b.b-index c.loop-b-test.true other) in
    rw none (search rules)

-- a digit, and what the digits behind it make of the number
module _ (f : List ℕ) (number i : ℕ) (below : i < length f) (writes : value_from number (drop i f) ≡ value f) where
  next : value_from (number * 10 + (get_or f i 0 - 48)) (drop (i + 1) f) ≡ value f
  next = sym (value_next number f i below) ∙ writes

  most : number * 10 + (get_or f i 0 - 48) ≤ value f
  most = omega (arith, next, value_ge (number * 10 + (get_or f i 0 - 48)) (drop (i + 1) f))

pub returns-in_err-checked_mul : goal.returns-in_err-checked_mul
returns-in_err-checked_mul c =
    let f = c.args.field.now in
    let over : 2 ^ 64 ≤ c.loop-b.number * 10 = search rules in
    let large = number_large f (omega (arith, most f c.loop-b.number c.loop-b.b-index c.loop-b-test.true c.loop-b.invariant.writes)) in
    rw large (search rules)

pub returns-in_err-number : goal.returns-in_err-number
returns-in_err-number c =
    let f = c.args.field.now in
    let over : 2 ^ 64 ≤ c.loop-b.number * 10 + (get_or f c.loop-b.b-index 0 - 48) = search rules in
    let large = number_large f (omega (arith, most f c.loop-b.number c.loop-b.b-index c.loop-b-test.true c.loop-b.invariant.writes)) in
    rw large (search rules)

pub loop-b-preserved : goal.loop-b-preserved
loop-b-preserved c =
    let f = c.args.field.now in
    let i = c.loop-b.b-index in
    let digit : is_digit (get_or f i 0) ≡ true = sym c.if-not-is_ascii_digit.ensures.value in
    let is : c.in_ok-number.number ≡ c.loop-b.number * 10 + (get_or f i 0 - 48) = search rules in
    record {
      fits = search rules;
      digits = sym (all_next is_digit f i c.loop-b-test.true digit) ∙ c.loop-b.invariant.digits;
      writes = rw is (next f c.loop-b.number i c.loop-b-test.true c.loop-b.invariant.writes);
    }

pub returns : goal.returns
returns c =
    let f = c.args.field.now in
    let whole : c.loop-b.number ≡ value f = sym (value-done c.loop-b.number f c.loop-b.b-index c.loop-b-test.false) ∙ c.loop-b.invariant.writes in
    let digits = sym c.loop-b.invariant.digits ∙ all_done is_digit f c.loop-b.b-index c.loop-b-test.false in
    let some : 1 ≤ length f = grind (arith, common_steps) in
    let good = number_good f some c.if-field-gt-DIGITS_MOST.false digits (rw (← whole) c.loop-b.invariant.fits) in
    rw (good, whole) refl
