-- Runs over the bytes that C lends: after every list of calls the state bytes agree with the book, for every set of failed names, of any size.
-- The idea: the invariant `Sound` is kept by each call. A refused one leaves the bytes and enters nothing. A taken one stores in front the state
-- that the model's call makes of the state there; the crate `engine` has that it is right, so it is read back as it was stored, and it agrees with
-- the book by `call_agrees`. Assumes nothing.
use Prim.Native.Nat.{ℕ, zero, suc, ◌≤◌}
use mathlib.Core.Path.{◌≡◌, refl, sym, ap, subst, ◌∙◌}
use mathlib.Core.Logic.{◌↔◌}
use mathlib.Core.Bool.{not}
use mathlib.Core.List.{List, [], ◌∷◌}
use native.Mathlib.Omega.{arith}
use lib.Dec.{T, ltb, nltb→le, eqb-suc-zero}
use lib.ListN.{length}
use lib.IntN.{ℤ}
use Rattle.numbers.specs.Numbers.{put}
use Rattle.numbers.proofs.NumberLaws.{length-put}
use Rattle.message.specs.Read.{Reading}
use Rattle.message.specs.Read.{Message, Refused}
use Rattle.clocks.specs.Clocks.{readings_fail}
use Rattle.state.specs.Model.{Head, State}
use Rattle.state.specs.Layout.{state_size, state_bytes, head_of, store_of, state_of}
use Rattle.state.specs.Form.{in_form, state_ok}
use Rattle.state.proofs.StateLaws.{form_ok, put-form, put-state}
use Rattle.engine.specs.Calls.{begun, set_up, Call, age, receive, moved, done}
use Rattle.state.specs.Refusal.{lent}
use Rattle.engine.specs.Refusals.{set_up_refusal, age_refusal}
use Rattle.state.specs.Refusal.{after}
use Rattle.state.proofs.LentLaws.{refuse-none, lent_passed}
use Rattle.engine.proofs.CallLaws.{set_up_ok, age_ok, receive_ok}
use Rattle.asking.specs.Instants.{Allowed, Counts}
use Rattle.monitor.specs.Messages.{read_bytes}
use Rattle.monitor.specs.Calls.{set_up_number, set_up_state, age_number, age_state}
use Rattle.monitor.specs.Receive.{Receipt, delivered, delivered_as, delivered_number, delivered_state, receive_number, receive_state}
use Rattle.runs.specs.Book.{Request, ageing, receipt, Book, opened, entered, entered_request, noted, book_of, sees, Possible, entered_delivery}
use Rattle.runs.specs.Runs.{request_number}
use Rattle.runs.specs.Runs.{bytes_after, bytes_run, steps, Run, begin, state_after, steps_of, book, SetBySet}
use Rattle.monitor.proofs.FormKept.{heard_in, receive_passed}
use Rattle.runs.proofs.Agreement.{Agrees, agrees_none, Given, Known, call_known, call_agrees}

-- ---- the invariant

pub record Sound (s : List ℕ) (b : Book) : Type 0 where
  pub long : state_size ≤ length s
  pub form : T (in_form s)
  pub head : b.head ≡ head_of s
  pub known : Known b.head.epochs b.lines
  pub each : (f : ℕ) → Agrees (sees b.head.epochs f) f (store_of s) b.lines

-- a right state that agrees with the book, stored in front
put_sound : (st : State) (s : List ℕ) (b : Book) → T (state_ok st) → state_size ≤ length s → b.head ≡ st.head
    → Known b.head.epochs b.lines → ((f : ℕ) → Agrees (sees b.head.epochs f) f st.store b.lines) → Sound (put 0 (state_bytes st) s) b
unfolding state_of
put_sound st s b t h e known ag =
    let u = put 0 (state_bytes st) s in
    let same : state_of u ≡ st = put-state st s t h in
    record {
      long = rw length-put h;
      form = put-form st s t h;
      head = e ∙ sym (ap (λ (z : State). z.head) same);
      known = known;
      each = λ f. subst (λ (z : State). Agrees (sees b.head.epochs f) f z.store b.lines) (sym same) (ag f);
    }

-- ---- a call

module _ (s : List ℕ) (b : Book) (so : Sound s b) where
  -- a taken call, as the model has it
  taken_sound : (c : Call) → Given c → T (state_ok (done (state_of s) c)) → Sound (put 0 (state_bytes (done (state_of s) c)) s) (entered b c)
  unfolding done entered state_of
  taken_sound c g t =
      put_sound (done (state_of s) c) s (entered b c) t so.long (ap (λ (h : Head). moved h c) so.head)
      (call_known b.head c b.lines so.known)
      (λ f. rw (← so.head) (call_agrees b.head c g (store_of s) b.lines so.known so.each f))

  -- what a call leaves and what the book has then
  abbrev Noted : Request → ℕ → List ℕ → Type 0
  Noted q number u = Sound u (noted number b q)

  after_sound : (q : Request) (number : ℕ) (st : State) → (number ≡ 0 → Sound (put 0 (state_bytes st) s) (entered_request b q))
      → Noted q number (after number (state_bytes st) s)
  unfolding after noted
  after_sound q zero st f = f refl
  after_sound q (suc n) st f = rw (eqb-suc-zero n) so

  -- a taken receipt, by what its message delivers
  receipt_sound : (g : Receipt) → g.least ≤ g.greatest → T (not (readings_fail g.readings)) → delivered_number (state_of s) (delivered g) ≡ 0
      → Sound (put 0 (state_bytes (delivered_state (state_of s) (delivered g))) s) (entered_delivery b (delivered g))
  unfolding delivered delivered_as delivered_number delivered_state entered_delivery state_of
  receipt_sound g d f = go (read_bytes g.message) refl
    where
      go : (r : Reading) → read_bytes g.message ≡ r → delivered_number (state_of s) (delivered_as g r) ≡ 0
          → Sound (put 0 (state_bytes (delivered_state (state_of s) (delivered_as g r))) s) (entered_delivery b (delivered_as g r))
      go (Refused number) e z = put_sound (state_of s) s b (form_ok s so.form) so.long so.head so.known so.each
      go (Message sender left right n) e z =
          let heard = heard_in g.least g.greatest g.readings g.message d f e in
          taken_sound (receive _) heard (receive_ok (state_of s) _ (form_ok s so.form) heard z)

  pub step_sound : (q : Request) → Noted q (request_number s q) (bytes_after s q)
  unfolding request_number bytes_after age_number age_state receive_state entered_request
  step_sound (ageing reading) =
      after_sound (ageing reading) (lent s (age_refusal (state_of s) reading)) (done (state_of s) (age reading))
      (λ z. taken_sound (age reading) tt (age_ok (state_of s) reading (form_ok s so.form) (lent_passed s (age_refusal (state_of s) reading) z).2))
  step_sound (receipt g) =
      after_sound (receipt g) (receive_number s g) (delivered_state (state_of s) (delivered g))
      (λ z. let k = receive_passed s g z in receipt_sound g k.1 k.2 k.3)

-- ---- a run

pub run_sound : (qs : List Request) (s : List ℕ) (b : Book) → Sound s b → Sound (bytes_run s qs) (book_of b (steps s qs))
unfolding bytes_run book_of steps
run_sound [] s b so = so
run_sound (q ∷ qs) s b so = run_sound qs (bytes_after s q) (noted (request_number s q) b q) (step_sound s b so q)

-- a taken setting up
begin_sound : (r : Run) → Sound (begin r) (opened r.setup)
unfolding begin set_up_number set_up_state after opened set_up begun
begin_sound r =
    let s = r.buffer in
    let a = refuse-none (ltb (length s) state_size) 24 (set_up_refusal r.setup) (omega arith) r.taken in
    rw r.taken
    (put_sound (set_up r.setup) s (opened r.setup) (set_up_ok r.setup a.1) (nltb→le (length s) state_size a.0) refl tt
    (λ f. agrees_none (sees (begun r.setup).epochs f) f))

pub reached : (r : Run) → Sound (state_after r) (book r)
unfolding state_after book steps_of
reached r = run_sound r.requests (begin r) (opened r.setup) (begin_sound r)

-- ---- what a run gives: set by set, and so for every limit

pub set_by_set : SetBySet
unfolding SetBySet
set_by_set r s x = let ag = (reached r).each s in (ag.forth x, ag.back x)

-- a set is allowed by the state where it is allowed by the book
pub allowed_same : (r : Run) (limit s : ℕ) → Allowed limit (head_of (state_after r)).own s ↔ Allowed limit (book r).head.own s
allowed_same r limit s = let e = (reached r).head in (λ a. rw e a, λ a. rw e at a)

pub counts_possible : (r : Run) (limit : ℕ) (x : ℤ) → Counts limit (state_of (state_after r)) x ↔ Possible limit (book r) x
unfolding state_of SetBySet
counts_possible r limit x = (
  λ h. (h.0, (allowed_same r limit h.0).0 h.1, (set_by_set r h.0 x).0 h.2),
  λ h. (h.0, (allowed_same r limit h.0).1 h.1, (set_by_set r h.0 x).1 h.2),
)
