-- `fields::text::put_digits` meets its contract: the digits of the tenth, by a call of itself, and then the last one.
-- The mathematics is `digits-one`, `digits-put` and `tenth_fits` of `proofs.DecimalLaws`. Assumes nothing.
use native.Mathlib.Omega.{arith}
use Rattle.numbers.specs.Numbers.{put}
use Rattle.fields.specs.Decimal.{digits}
use Rattle.fields.proofs.DecimalLaws.{digits-one, tenth_fits, digits-put}
use Rattle.fields.proofs.text.+put_digits.Goals as goal

pub returns-then-k-eq0 : goal.returns-then-k-eq0
unfolding put digits
returns-then-k-eq0 t c = record { value = (rw c.if-k-eq0.true (omega arith), omega arith); out_after = rw c.if-k-eq0.true }

pub returns-then-n-lt10 : goal.returns-then-n-lt10
unfolding put
returns-then-n-lt10 t c =
    let one = digits-one c.args.k c.args.n (omega arith) c.if-n-lt10.true in
    record { value = (rw one (omega arith), omega arith); out_after = rw (one, c.glyph.ensures) }

pub put_digits-end-requires : goal.put_digits-end-requires
put_digits-end-requires t c = (omega arith, (omega arith, tenth_fits c.args.k c.args.n (omega arith) c.requires.1))

pub returns : goal.returns
returns t c =
    let a = c.args in
    let call = c.put_digits-end in
    let both = digits-put a.at a.k a.n call.result _ _ (omega arith) (omega arith) call.ensures.value.0 call.ensures.out_after in
    record { value = (both.0, omega arith); out_after = rw c.glyph-2.ensures both.1 }
