-- The parts of a state that a call does not name stay as bytes: ageing leaves the entries and all behind them, a receipt own name, drift and reading,
-- and the own epoch, and without readings and without a rise the names' clocks and the epochs.
-- The idea: bytes in form are the parts of their state, one behind the other, and two states that share their first or their last parts share the
-- bytes of these. Assumes nothing.
use Prim.Native.Nat.{ℕ}
use mathlib.Core.Path.{◌≡◌, refl, ap, ◌∙◌}
use mathlib.Core.List.{List}
use lib.Dec.{eqb, eqb→eq}
use lib.ListN.{get_or, take, drop}
use Rattle.numbers.specs.Numbers.{put}
use Rattle.predicates.proofs.ListLaws.{cond_ind}
use Rattle.state.specs.Model.{State}
use Rattle.state.specs.Layout.{entries_at, clocks_at, held_at, parts, state_bytes, head_of, state_of}
use Rattle.state.specs.Refusal.{after}
use Rattle.state.proofs.StoredLaws.{behind-same, before_same}
use Rattle.state.proofs.StateLaws.{form_ok, put-state}
use Rattle.state.proofs.LentLaws.{lent_passed}
use Rattle.epochs.specs.Epochs.{NotAbove}
use Rattle.engine.specs.Ageing.{aged}
use Rattle.engine.specs.Receiving.{Delivery}
use Rattle.engine.specs.Hearing.{spoken_by, hearing, heeded}
use Rattle.engine.specs.Calls.{age, moved, made, done}
use Rattle.engine.specs.Refusals.{age_refusal}
use Rattle.engine.proofs.CallLaws.{age_ok}
use Rattle.engine.proofs.WatchLaws.{watched-none}
use Rattle.engine.proofs.HearingLaws.{heeded-none, quiet-hearing, own-epoch-heard}
use Rattle.monitor.specs.Calls.{age_number, age_state}
use Rattle.monitor.specs.Receive.{Receipt, Delivered, refused, brings, delivered, delivered_state, receipt_number, receive_number, receive_state}
use Rattle.monitor.proofs.FormKept.{brought_readings, receive_passed, delivered_ok}
use Rattle.std.specs.Prelude.{None}
use Rattle.runs.specs.Demand1.{EntriesStay, HeadStays, ClocksStay, OwnEpochStays}

-- ---- parts one behind the other

-- ---- the calls

pub entry_bytes_stay : EntriesStay
unfolding EntriesStay age_number age_state after done moved made aged parts
entry_bytes_stay s b reading =
    cond_ind (λ (u : List ℕ). drop entries_at u ≡ drop entries_at s) (eqb (age_number s reading) 0) _ s
    (λ e.
    let k = lent_passed s (age_refusal (state_of s) reading) (eqb→eq (age_number s reading) 0 e) in
    behind-same s b k.1 k.0 (done (state_of s) (age reading)) (age_ok (state_of s) reading (form_ok s k.1) k.2) 6 refl) (λ e. refl)

head_of-delivered : (st : State) (d : Delivered) → take 3 (parts (delivered_state st d)) ≡ take 3 (parts st)
unfolding delivered_state done moved parts hearing
head_of-delivered st (refused number) = refl
head_of-delivered st (brings g) = refl

pub head-bytes_stay : HeadStays
unfolding HeadStays receive_number receive_state after
head-bytes_stay s b g =
    cond_ind (λ (u : List ℕ). take held_at u ≡ take held_at s) (eqb (receive_number s g) 0) _ s
    (λ e.
    let z = eqb→eq (receive_number s g) 0 e in
    let l = lent_passed s (receipt_number (state_of s) g) z in
    let k = receive_passed s g z in
    before_same s b l.1 l.0 (delivered_state (state_of s) (delivered g)) (delivered_ok s g l.1 k.1 k.2 k.3) 3
    (head_of-delivered (state_of s) (delivered g)))
    (λ e. refl)

clocks-of_delivered : (st : State) (g : Receipt) → g.readings ≡ None
    → ((d : Delivery) → delivered g ≡ brings d → NotAbove (spoken_by st.head d) st.head.epochs)
    → drop 7 (parts (delivered_state st (delivered g))) ≡ drop 7 (parts st)
unfolding delivered_state done moved parts
clocks-of_delivered st g e q = go (delivered g) refl
  where
    go : (d : Delivered) → delivered g ≡ d → drop 7 (parts (delivered_state st d)) ≡ drop 7 (parts st)
    go (refused number) p = refl
    go (brings b) p =
        rw (quiet-hearing st.head b (q b p), watched-none (heeded st.head b) b.sender st.head.clocks (heeded-none st.head b (brought_readings g b p ∙ e)))

pub clock_bytes_stay : ClocksStay
unfolding ClocksStay receive_number receive_state after state_of
clock_bytes_stay s b g w q =
    cond_ind (λ (u : List ℕ). drop clocks_at u ≡ drop clocks_at s) (eqb (receive_number s g) 0) _ s
    (λ e.
    let z = eqb→eq (receive_number s g) 0 e in
    let l = lent_passed s (receipt_number (state_of s) g) z in
    let k = receive_passed s g z in
    behind-same s b l.1 l.0 (delivered_state (state_of s) (delivered g)) (delivered_ok s g l.1 k.1 k.2 k.3) 7
    (clocks-of_delivered (state_of s) g w q))
    (λ e. refl)

-- ---- the own epoch

own-of_delivered : (st : State) (d : Delivered) → get_or (delivered_state st d).head.epochs st.head.own 0 ≡ get_or st.head.epochs st.head.own 0
unfolding delivered_state done moved
own-of_delivered st (refused number) = refl
own-of_delivered st (brings g) = own-epoch-heard st.head g

pub own-epoch_stays : OwnEpochStays
unfolding OwnEpochStays receive_state after state_of
own-epoch_stays s g t h =
    cond_ind
    (λ (u : List ℕ). get_or (head_of u).epochs (head_of s).own 0 ≡ get_or (head_of s).epochs (head_of s).own 0)
    (eqb (receive_number s g) 0)
    (put 0 (state_bytes (delivered_state (state_of s) (delivered g))) s)
    s
    (λ e.
    let k = receive_passed s g (eqb→eq (receive_number s g) 0 e) in
    let st = delivered_state (state_of s) (delivered g) in
    let same = put-state st s (delivered_ok s g t k.1 k.2 k.3) h in
    ap (λ (x : State). get_or x.head.epochs (head_of s).own 0) same ∙ own-of_delivered (state_of s) (delivered g))
    (λ e. refl)
