-- Ageing in two calls leaves the bytes of ageing in one, and one that is taken may be parted (document 02, W-205).
-- The idea: they make one state (`age_once`, `age-parted` of the crate `engine`), and a state is stored over another (`put-over`). Assumes nothing.
use Prim.Native.Nat.{ℕ, ◌≤◌}
use mathlib.Core.Path.{◌≡◌, sym, ap, ◌∙◌}
use mathlib.Core.List.{List}
use lib.Dec.{T}
use lib.ListN.{length}
use Rattle.numbers.specs.Numbers.{put}
use Rattle.state.specs.Model.{State}
use Rattle.state.specs.Layout.{state_size, state_bytes, head_of, state_of}
use Rattle.state.specs.Form.{in_form, state_ok}
use Rattle.state.specs.Refusal.{after}
use Rattle.state.proofs.LentLaws.{lent_next, lent_passed}
use Rattle.state.proofs.PartLaws.{put-over}
use Rattle.state.proofs.StateLaws.{form_ok, length-state, put-state}
use Rattle.engine.specs.Calls.{age, done}
use Rattle.engine.specs.Refusals.{age_refusal}
use Rattle.engine.proofs.CallLaws.{age_ok}
use Rattle.engine.proofs.TwiceLaws.{age_once, age-parted}
use Rattle.monitor.specs.Calls.{age_number, age_state}
use Rattle.monitor.proofs.FormKept.{age-form, length-age}
use Rattle.runs.specs.Runs.{AgedOnce}

-- a taken ageing: its state is stored
module _ (s : List ℕ) (t : ℕ) (e : age_number s t ≡ 0) where
  passed : (state_size ≤ length s) × T (in_form s) × (age_refusal (state_of s) t ≡ 0)
  unfolding age_number
  passed = lent_passed s (age_refusal (state_of s) t) e

  made : State
  made = done (state_of s) (age t)

  right : T (state_ok made)
  unfolding made
  right = let p = passed in age_ok (state_of s) t (form_ok s p.1) p.2

  stored : age_state s t ≡ put 0 (state_bytes made) s
  unfolding age_state after made
  stored = rw e

  read : state_of (age_state s t) ≡ made
  read = rw stored (put-state made s right passed.0)

taken-age : (s : List ℕ) (u : ℕ) → state_size ≤ length s → T (in_form s) → age_refusal (state_of s) u ≡ 0 → age_number s u ≡ 0
unfolding age_number
taken-age s u h t e = lent_next s (age_refusal (state_of s) u) h t ∙ e

-- two that are taken and the one that is: they make one state, so they leave the same bytes
same_bytes_lem : (s : List ℕ) (t u : ℕ) → age_number s t ≡ 0 → age_number (age_state s t) u ≡ 0 → age_number s u ≡ 0
    → done (done (state_of s) (age t)) (age u) ≡ done (state_of s) (age u) → age_state (age_state s t) u ≡ age_state s u
unfolding made
same_bytes_lem s t u e f g same =
    let second : made (age_state s t) u f ≡ made s u g = ap (λ (st : State). done st (age u)) (read s t e) ∙ same in
    stored (age_state s t) u f
    ∙ rw (second, stored s t e) (put-over 0 (state_bytes (made s u g)) (state_bytes (made s t e)) s
    (length-state (made s u g) (right s u g) ∙ sym (length-state (made s t e) (right s t e))))
    ∙ sym (stored s u g)

module _ (s : List ℕ) (t u : ℕ) where
  two_are_one : age_number s t ≡ 0 → age_number (age_state s t) u ≡ 0 → (age_number s u ≡ 0) × (age_state (age_state s t) u ≡ age_state s u)
  unfolding made
  two_are_one e f =
      let p = passed s t e in
      let once = age_once (state_of s) t u p.2 (rw (read s t e) at (passed (age_state s t) u f).2) in
      let g = taken-age s u p.0 p.1 once.0 in
      (g, same_bytes_lem s t u e f g once.1)

  one_is_two : age_number s u ≡ 0 → (head_of s).reading ≤ t → t ≤ u
      → (age_number s t ≡ 0) × (age_number (age_state s t) u ≡ 0) × (age_state (age_state s t) u ≡ age_state s u)
  unfolding made state_of
  one_is_two g low high =
      let p = passed s u g in
      let apart = age-parted (state_of s) t u low high p.2 in
      let e = taken-age s t p.0 p.1 apart.0 in
      let left = read s t e in
      let f = taken-age (age_state s t) u (rw (length-age s t) p.0) (age-form s t p.1) (rw left apart.1) in
      (e, f, same_bytes_lem s t u e f g (age_once (state_of s) t u apart.0 apart.1).1)

pub aged_once : AgedOnce
unfolding AgedOnce
aged_once s t u = record { joined = two_are_one s t u; parted = one_is_two s t u }
