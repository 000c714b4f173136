-- Runs by the states that their bytes hold: on bytes in form, a request's number and the state that it leaves are those of the state read from them.
-- So a run with written-out requests computes on a few numbers instead of 5,393 bytes.
-- The idea: a taken call stores a right state, which is read back as it was stored (`put-state`); a refused one leaves the bytes. Assumes nothing.
use Prim.Native.Nat.{ℕ, ◌≤◌}
use mathlib.Core.Path.{◌≡◌, refl, ap, ◌∙◌}
use mathlib.Core.Bool.{Bool, true, false, cond}
use mathlib.Core.List.{List, [], ◌∷◌}
use native.Mathlib.Omega.{arith}
use borrow.Author.Tests.{le-ltb}
use lib.Dec.{T, eqb, eqb→eq, ltb, nltb→le}
use lib.ListN.{length}
use Rattle.numbers.specs.Numbers.{put}
use Rattle.state.specs.Model.{State}
use Rattle.state.specs.Layout.{state_size, state_bytes, state_of}
use Rattle.state.specs.Form.{in_form, state_ok}
use Rattle.state.specs.Refusal.{after}
use Rattle.state.proofs.StateLaws.{form_ok, put-state}
use Rattle.state.proofs.LentLaws.{refuse-none, lent_next, lent_passed}
use Rattle.engine.specs.Calls.{Setup, set_up, age, done}
use Rattle.engine.specs.Refusals.{set_up_refusal, age_refusal}
use Rattle.engine.proofs.CallLaws.{set_up_ok, age_ok}
use Rattle.monitor.specs.Calls.{set_up_number, set_up_state, age_number, age_state}
use Rattle.monitor.specs.Receive.{delivered, delivered_state, receipt_number, receive_number, receive_state}
use Rattle.monitor.proofs.FormKept.{set_up-form, length-set_up, age-form, length-age, delivered_ok, receive_passed, receive-form}
use Rattle.monitor.proofs.FormKept.{length-receive}
use Rattle.runs.specs.Book.{Request, ageing, receipt, Step}
use Rattle.runs.specs.Runs.{request_number, bytes_after, bytes_run, steps, Run, begin, state_after, steps_of}

-- ---- requests on a state

-- the number of a request on a state in form
unfoldable pub number_on : State → Request → ℕ
number_on st (ageing reading) = age_refusal st reading
number_on st (receipt g) = receipt_number st g

-- the state that a taken one makes
unfoldable pub done_by : State → Request → State
done_by st (ageing reading) = done st (age reading)
done_by st (receipt g) = delivered_state st (delivered g)

-- "A refusal is its number alone; state and output stay as they were."
unfoldable pub next : State → Request → State
next st q = cond (eqb (number_on st q) 0) (done_by st q) st

-- the requests with their numbers, and the state after them
unfoldable pub steps_from : State → List Request → List Step
steps_from st [] = []
steps_from st (q ∷ qs) = record { request = q; number = number_on st q } ∷ steps_from (next st q) qs

unfoldable pub state_from : State → List Request → State
state_from st [] = st
state_from st (q ∷ qs) = state_from (next st q) qs

-- ---- bytes in form

-- what a call leaves, by its number
after-state : (number : ℕ) (st : State) (s : List ℕ) → state_size ≤ length s → (number ≡ 0 → T (state_ok st))
    → state_of (after number (state_bytes st) s) ≡ cond (eqb number 0) st (state_of s)
unfolding after
after-state number st s h ok = go (eqb number 0) (λ e. ok (eqb→eq number 0 e))
  where
    go : (b : Bool) → (T b → T (state_ok st)) → state_of (cond b (put 0 (state_bytes st) s) s) ≡ cond b st (state_of s)
    go true f = put-state st s (f tt) h
    go false f = refl

module _ (s : List ℕ) (h : state_size ≤ length s) (t : T (in_form s)) where
  pub number_on_lem : (q : Request) → request_number s q ≡ number_on (state_of s) q
  unfolding request_number number_on age_number receive_number
  number_on_lem (ageing reading) = lent_next s (age_refusal (state_of s) reading) h t
  number_on_lem (receipt g) = lent_next s (receipt_number (state_of s) g) h t

  pub state_on : (q : Request) → state_of (bytes_after s q) ≡ next (state_of s) q
  unfolding bytes_after next done_by request_number age_number age_state receive_state
  state_on (ageing reading) =
      rw (← (number_on_lem (ageing reading)))
      (after-state (age_number s reading) (done (state_of s) (age reading)) s h
      (λ z. age_ok (state_of s) reading (form_ok s t) (lent_passed s (age_refusal (state_of s) reading) z).2))
  state_on (receipt g) =
      rw (← (number_on_lem (receipt g)))
      (after-state (receive_number s g) (delivered_state (state_of s) (delivered g)) s h
      (λ z. let k = receive_passed s g z in delivered_ok s g t k.1 k.2 k.3))

  pub form_on : (q : Request) → T (in_form (bytes_after s q))
  unfolding bytes_after
  form_on (ageing reading) = age-form s reading t
  form_on (receipt g) = receive-form s g t

  pub long_on : (q : Request) → state_size ≤ length (bytes_after s q)
  unfolding bytes_after
  long_on (ageing reading) = rw (length-age s reading) h
  long_on (receipt g) = rw (length-receive s g) h

-- ---- a list of requests

pub steps_run : (qs : List Request) (s : List ℕ) → state_size ≤ length s → T (in_form s) → steps s qs ≡ steps_from (state_of s) qs
unfolding steps steps_from
steps_run [] s h t = refl
steps_run (q ∷ qs) s h t =
    rw (number_on_lem s h t q, steps_run qs (bytes_after s q) (long_on s h t q) (form_on s h t q), state_on s h t q)

pub state_run : (qs : List Request) (s : List ℕ) → state_size ≤ length s → T (in_form s) → state_of (bytes_run s qs) ≡ state_from (state_of s) qs
unfolding bytes_run state_from
state_run [] s h t = refl
state_run (q ∷ qs) s h t = state_run qs (bytes_after s q) (long_on s h t q) (form_on s h t q) ∙ ap (λ (st : State). state_from st qs) (state_on s h t q)

pub form_run : (qs : List Request) (s : List ℕ) → state_size ≤ length s → T (in_form s) → T (in_form (bytes_run s qs))
unfolding bytes_run
form_run [] s h t = t
form_run (q ∷ qs) s h t = form_run qs (bytes_after s q) (long_on s h t q) (form_on s h t q)

pub long_run : (qs : List Request) (s : List ℕ) → state_size ≤ length s → T (in_form s) → state_size ≤ length (bytes_run s qs)
unfolding bytes_run
long_run [] s h t = h
long_run (q ∷ qs) s h t = long_run qs (bytes_after s q) (long_on s h t q) (form_on s h t q)

-- ---- a run

pub set_up_number_lem : (s : List ℕ) (u : Setup) → state_size ≤ length s → set_up_number s u ≡ set_up_refusal u
unfolding set_up_number
set_up_number_lem s u h = rw (le-ltb (length s) state_size h)

pub set_up-taken : (s : List ℕ) (u : Setup) → state_size ≤ length s → set_up_refusal u ≡ 0 → set_up_number s u ≡ 0
set_up-taken s u h e = set_up_number_lem s u h ∙ e

module _ (r : Run) where
  passed : (state_size ≤ length r.buffer) × (set_up_refusal r.setup ≡ 0)
  unfolding set_up_number
  passed =
      let a = refuse-none (ltb (length r.buffer) state_size) 24 (set_up_refusal r.setup) (omega arith) r.taken in
      (nltb→le (length r.buffer) state_size a.0, a.1)

  begun-long : state_size ≤ length (begin r)
  unfolding begin
  begun-long = rw (length-set_up r.buffer r.setup) passed.0

  begun-form : T (in_form (begin r))
  unfolding begin
  begun-form = set_up-form r.buffer r.setup r.taken

  begun-state : state_of (begin r) ≡ set_up r.setup
  unfolding begin set_up_state after
  begun-state = rw r.taken (put-state (set_up r.setup) r.buffer (set_up_ok r.setup passed.1) passed.0)

  pub run_steps : steps_of r ≡ steps_from (set_up r.setup) r.requests
  unfolding steps_of
  run_steps = steps_run r.requests (begin r) begun-long begun-form ∙ ap (λ (st : State). steps_from st r.requests) begun-state

  pub run_state : state_of (state_after r) ≡ state_from (set_up r.setup) r.requests
  unfolding state_after
  run_state = state_run r.requests (begin r) begun-long begun-form ∙ ap (λ (st : State). state_from st r.requests) begun-state
