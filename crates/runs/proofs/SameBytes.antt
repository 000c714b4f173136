-- Two taken calls that leave every byte: an ageing to an equal reading, and a receipt without readings and without a rise, whose predicate
-- is true.
-- The idea: the crate `engine` has that the state stays (`age-same`, `receive-same`), and storing the state that is there changes nothing
-- (`put-state-same`). Assumes nothing.
use Prim.Native.Nat.{ℕ, ◌≤◌}
use mathlib.Core.Path.{◌≡◌, refl, sym, ap, subst, ◌∙◌}
use mathlib.Core.Bool.{false}
use mathlib.Core.List.{List}
use lib.Dec.{T, eqb}
use lib.ListN.{length}
use Rattle.numbers.specs.Numbers.{Bytes, put}
use Rattle.predicates.proofs.ListLaws.{cond_ind, T_false}
use Rattle.state.specs.Model.{State}
use Rattle.state.specs.Layout.{state_size, state_bytes, state_of}
use Rattle.state.specs.Form.{in_form}
use Rattle.state.specs.Refusal.{after}
use Rattle.state.proofs.StateLaws.{form_ok, put-state-same}
use Rattle.state.proofs.LentLaws.{lent_next}
use Rattle.std.specs.Prelude.{Option, None}
use Rattle.clocks.specs.declared.Readings.{Readings}
use Rattle.clocks.specs.Clocks.{readings_fail}
use Rattle.engine.specs.Refusals.{delays_fail}
use Rattle.engine.proofs.SameLaws.{age-same, receive-same, receive_true}
use Rattle.monitor.specs.Calls.{age_number, age_state}
use Rattle.monitor.specs.Receive.{delivered, delivered_number, delivered_state, receive_number, receive_state}
use Rattle.monitor.proofs.FormKept.{brought_readings}
use Rattle.runs.specs.Demand1.{EqualReading, TrueReceipt}

-- the state that is there, stored or not
after_same : (number : ℕ) (st : State) (s : List ℕ) → Bytes s → state_size ≤ length s → T (in_form s) → st ≡ state_of s
    → after number (state_bytes st) s ≡ s
unfolding after
after_same number st s b h t e =
    cond_ind (λ (u : List ℕ). u ≡ s) (eqb number 0) (put 0 (state_bytes st) s) s
    (λ z. ap (λ (x : State). put 0 (state_bytes x) s) e ∙ put-state-same s t b h) (λ z. refl)

pub equal_reading : EqualReading
unfolding EqualReading age_number age_state state_of
equal_reading s b h t =
    let a = age-same (state_of s) (form_ok s t) in
    (lent_next s _ h t ∙ a.0, after_same _ _ s b h t a.1)

readings-none : (r : Option Readings) → r ≡ None → readings_fail r ≡ false
unfolding readings_fail
readings-none r e = subst (λ (x : Option Readings). readings_fail x ≡ false) (sym e) refl

pub true_receipt : TrueReceipt
unfolding TrueReceipt receive_number receive_state delivered_number delivered_state state_of
true_receipt s b h t g d w e q true =
    let none = brought_readings g d e ∙ w in (
      after_same _ (delivered_state (state_of s) (delivered g)) s b h t (rw e (receive-same (state_of s) (form_ok s t) d none q true)),
      λ delays other below.
          lent_next s _ h t
          ∙ rw (T_false (delays_fail g.least g.greatest) delays, readings-none g.readings w, e)
          (receive_true (state_of s) (form_ok s t) d none q true other below),
    )
