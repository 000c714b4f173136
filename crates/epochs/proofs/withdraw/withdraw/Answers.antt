-- `epochs::withdraw::withdraw` meets its contract: a predicate that names none of r stays (`withdraw_stays`), one with an empty term left is true
-- (`withdraw_gone`), any other is put in normal form without them, which is the definition.
use native.Mathlib.Omega.{arith}
use mathlib.Core.Path.{◌≡◌, sym, ap, ◌∙◌}
use mathlib.Core.List.{List}
use Prim.Native.Nat.{ℕ}
use lib.ListN.{length}
use Rattle.predicates.specs.Lists.{padded}
use Rattle.predicates.specs.Predicates.{normal}
use Rattle.epochs.specs.Epochs.{withdraw}
use Rattle.epochs.proofs.WithdrawLaws.{withdraw_stays, withdraw_gone}
use Rattle.epochs.proofs.withdraw.withdraw.Goals as goal

pub returns-then-untouched : goal.returns-then-untouched
returns-then-untouched c =
    let stays = withdraw_stays c.args.r c.args.terms.now c.requires (sym c.untouched.ensures ∙ c.if-untouched.true) in
    record { value = (stays.0, omega arith); terms_after = stays.1 }

-- a term is left empty
pub returns-then-holds : goal.returns-then-holds
returns-then-holds c =
    let made = withdraw_gone c.args.r c.args.terms.now c.take_out.new.terms _ c.take_out.ensures (sym c.holds.ensures ∙ c.if-holds.true) (c.fill.ensures.after (λ y e. e)) in
    record { value = made.0; terms_after = made.1 }

pub returns : goal.returns
unfolding withdraw
returns c =
    let l = c.args.terms.now in
    let made = c.normal_form.ensures in
    let taken = c.take_out.ensures in
    let long : length c.take_out.new.terms ≡ length l = omega arith in
    record { value = (made.value.0 ∙ ap (λ (x : List ℕ). length (normal x)) taken, omega (arith, made.value.1)); terms_after = made.terms_after ∙ ap (λ (n : ℕ). padded n (normal c.take_out.new.terms)) long ∙ ap (λ (x : List ℕ). padded (length l) (normal x)) taken }
