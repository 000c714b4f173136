-- What the calls make is in form, over the bytes that C lends: a taken setting up leaves a state in form, and ageing and receiving, taken or
-- refused, leave in form what was in form. The length of the lent bytes stays.
-- The idea: a refused call leaves the bytes as they were. A taken one stores a state at their front, in at least 5,393 bytes; this state is right
-- by `set_up_ok`, `age_ok` and `receive_ok` of the crate `engine`, and a right state in front is in form, whatever lies beyond (`encode_form`).
-- What `receive_ok` asks of the message is what a taken reading tells. No contract cites this file. Assumes nothing.
use Prim.Native.Nat.{ℕ, ◌≤◌}
use mathlib.Core.Path.{◌≡◌, refl, sym, ap, ◌∙◌}
use mathlib.Core.Bool.{not}
use mathlib.Core.List.{List}
use native.Mathlib.Omega.{arith}
use lib.Dec.{T, eqb, eqb→eq, ltb, nltb→le}
use lib.ListN.{length}
use Rattle.numbers.specs.Numbers.{put, words_of}
use Rattle.predicates.proofs.ListLaws.{neither, cond_ind}
use Rattle.message.specs.Words.{masks}
use Rattle.message.specs.Read.{term_words}
use Rattle.radio.specs.Read.{read_words, epoch_words}
use Rattle.message.specs.Read.{Reading}
use Rattle.message.specs.Read.{Message, Refused}
use Rattle.radio.proofs.ReadLaws.{read_out}
use Rattle.radio.proofs.HeardNames.{heard-names}
use Rattle.state.specs.Model.{State}
use Rattle.state.specs.Layout.{state_size, state_bytes, state_of}
use Rattle.state.specs.Form.{in_form, state_ok}
use Rattle.state.proofs.StateLaws.{put-form, form_ok}
use Rattle.engine.specs.Receiving.{Delivery, delivery}
use Rattle.engine.specs.Calls.{Setup, set_up, age, done}
use Rattle.engine.specs.Refusals.{set_up_refusal, age_refusal, delays_fail, delay_most}
use Rattle.state.specs.Refusal.{after}
use Rattle.state.proofs.LentLaws.{refuse-none}
use Rattle.engine.proofs.CallLaws.{set_up_ok, age_ok, Heard, receive_ok}
use Rattle.receipts.proofs.ReceiptCalls.{masks-small}
use Rattle.std.specs.Prelude.{Option}
use Rattle.clocks.specs.declared.Readings.{Readings}
use Rattle.clocks.specs.Clocks.{readings_fail}
use Rattle.state.specs.Refusal.{lent}
use Rattle.state.proofs.LentLaws.{length-after, lent_passed}
use Rattle.monitor.specs.Messages.{read_bytes}
use Rattle.monitor.specs.Calls.{set_up_number, set_up_state, age_number, age_state}
use Rattle.monitor.specs.Receive.{Receipt, Delivered, refused, brings, delivered, delivered_as, delivered_number, delivered_state, receive_number, receive_state}
use Rattle.monitor.proofs.MessageCalls.{read_words_in, words_in-taken}

-- ---- the lent bytes after a call

-- what a call leaves is in form, where it was refused and where it was taken with a right state
after-form : (number : ℕ) (st : State) (s : List ℕ) → T (in_form s) → (number ≡ 0 → (state_size ≤ length s) × T (state_ok st))
    → T (in_form (after number (state_bytes st) s))
unfolding after
after-form number st s t ok =
    cond_ind (λ (u : List ℕ). T (in_form u)) (eqb number 0) (put 0 (state_bytes st) s) s
    (λ e. let k = ok (eqb→eq number 0 e) in put-form st s k.1 k.0) (λ e. t)

-- ---- setting up

module _ (s : List ℕ) (u : Setup) where
  -- a taken setting up
  pub set_up-form : set_up_number s u ≡ 0 → T (in_form (set_up_state s u))
  unfolding set_up_number set_up_state after
  set_up-form e =
      let a = refuse-none (ltb (length s) state_size) 24 (set_up_refusal u) (omega arith) e in
      rw e (put-form (set_up u) s (set_up_ok u a.1) (nltb→le (length s) state_size a.0))

  pub length-set_up : length (set_up_state s u) ≡ length s
  unfolding set_up_state
  length-set_up = length-after (set_up_number s u) (state_bytes (set_up u)) s

-- ---- ageing

module _ (s : List ℕ) (reading : ℕ) where
  -- taken or refused
  pub age-form : T (in_form s) → T (in_form (age_state s reading))
  unfolding age_number age_state
  age-form t =
      after-form (lent s (age_refusal (state_of s) reading)) (done (state_of s) (age reading)) s t
      (λ e. let k = lent_passed s (age_refusal (state_of s) reading) e in (k.0, age_ok (state_of s) reading (form_ok s t) k.2))

  pub length-age : length (age_state s reading) ≡ length s
  unfolding age_state
  length-age = length-after (age_number s reading) (state_bytes (done (state_of s) (age reading))) s

-- ---- receiving

-- a taken reading, with delays and readings that fit, tells what receiving asks
pub heard_in : {sender left right n : ℕ} (least greatest : ℕ) (readings : Option Readings) (m : List ℕ) → least ≤ greatest → T (not (readings_fail readings))
    → read_bytes m ≡ Message sender left right n
    → Heard (delivery least greatest readings sender (epoch_words (Message sender left right n) (words_of m)) left right
    (masks (term_words (Message sender left right n) (words_of m))))
heard_in {sender} {left} {right} {n} least greatest readings m d f e =
    let ws = words_of m in
    let read : read_words ws ≡ Message sender left right n = rw (words_in-taken m e) at (read_words_in m ∙ e) in
    let t = read_out ws read in
    record {
      delays = d;
      sender_le = t.taken.sender_le;
      ends = t.taken.left_le;
      small = masks-small (term_words (Message sender left right n) ws);
      names = heard-names t;
      readings = f;
    }

-- a message brings the receipt's readings
pub brought_readings : (g : Receipt) (d : Delivery) → delivered g ≡ brings d → d.readings ≡ g.readings
unfolding delivered delivered_as
brought_readings g d e = go (read_bytes g.message) e
  where
    readings_in : Delivered → Option Readings
    readings_in (refused number) = g.readings
    readings_in (brings b) = b.readings

    go : (r : Reading) → delivered_as g r ≡ brings d → d.readings ≡ g.readings
    go (Refused number) p = ap readings_in (sym p)
    go (Message sender left right n) p = ap readings_in (sym p)

-- what a taken receipt has passed: its delays, its readings, and the tests behind them
pub receive_passed : (s : List ℕ) (g : Receipt) → receive_number s g ≡ 0
    → (state_size ≤ length s) × (g.least ≤ g.greatest) × T (not (readings_fail g.readings)) × (delivered_number (state_of s) (delivered g) ≡ 0)
unfolding receive_number
receive_passed s g e =
    let a = lent_passed s _ e in
    let b = refuse-none (delays_fail g.least g.greatest) 21 _ (omega arith) a.2 in
    let c = refuse-none (readings_fail g.readings) 40 _ (omega arith) b.1 in
    (a.0, nltb→le g.greatest g.least (neither (ltb g.greatest g.least) (ltb delay_most g.greatest) b.0).0, c.0, c.1)

module _ (s : List ℕ) (g : Receipt) where
  pub delivered_ok : T (in_form s) → g.least ≤ g.greatest → T (not (readings_fail g.readings)) → delivered_number (state_of s) (delivered g) ≡ 0 → T (state_ok (delivered_state (state_of s) (delivered g)))
  unfolding delivered delivered_as delivered_number delivered_state
  delivered_ok t d f = go (read_bytes g.message) refl
    where
      go : (r : Reading) → read_bytes g.message ≡ r → delivered_number (state_of s) (delivered_as g r) ≡ 0 → T (state_ok (delivered_state (state_of s) (delivered_as g r)))
      go (Refused number) e z = form_ok s t
      go (Message sender left right n) e z = receive_ok (state_of s) _ (form_ok s t) (heard_in g.least g.greatest g.readings g.message d f e) z

  -- taken or refused
  pub receive-form : T (in_form s) → T (in_form (receive_state s g))
  unfolding receive_state
  receive-form t =
      after-form (receive_number s g) (delivered_state (state_of s) (delivered g)) s t
      (λ e. let k = receive_passed s g e in (k.0, delivered_ok t k.1 k.2 k.3))

  pub length-receive : length (receive_state s g) ≡ length s
  unfolding receive_state
  length-receive = length-after (receive_number s g) (state_bytes (delivered_state (state_of s) (delivered g))) s
