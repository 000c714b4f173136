-- Taken calls leave a right state (`state_ok` of `state.specs.Form`): setting up, ageing and receiving.
-- The idea: a refusal of 0 says that no test of its chain passed, and what a call could break of the state is what these tests keep. Ageing, and
-- a message's delays, keep left at most right since the least advance is at most the greatest; what receiving does to the store is in
-- `steps.proofs`, and to the clocks in `proofs.WatchLaws`.
-- No contract cites this file. Assumes nothing.
use Prim.Native.Nat.{ℕ, ◌+◌, ◌*◌, ◌-◌, ◌^◌, ◌≤◌, ◌<◌}
use mathlib.Core.Path.{◌≡◌, refl, sym, subst}
use mathlib.Core.Bool.{Bool, true, false, not}
use mathlib.Core.List.{List, [], ◌∷◌, map}
use native.Mathlib.Nat.{le_refl, mul-le-mul_left, mul-le-mul_right}
use native.Mathlib.Omega.{arith}
use lib.Dec.{T, T_not, not_T, eqb, eqb→eq, eqb_refl, leb, le→leb, nleb→lt, ltb, lt→ltb, nltb→le}
use lib.ListN.{length, set, replicate, length-set, length-map}
use Rattle.clocks.specs.Clocks.{saved_ok, readings_fail, watched}
use Rattle.state.specs.Layout.{datum_terms, clocks_most}
use Rattle.std.specs.List.{list_any, list_all}
use Rattle.predicates.specs.Lists.{In}
use Rattle.predicates.specs.Predicates.{implies, is_true, is_normal, formed}
use Rattle.predicates.proofs.ListLaws.{both, both_l, both_r, neither}
use Rattle.epochs.specs.Epochs.{epoch_most, epochs_most, withdraw}
use Rattle.epochs.specs.code.Known.{Named}
use Rattle.epochs.proofs.WithdrawLaws.{withdraw-normal, withdraw-some, withdraw_true, withdraw-implies}
use Rattle.predicates.proofs.PredicateLaws.{formed-some}
use Rattle.state.specs.Model.{Datum, Head, Store, State, with_clocks, end_limit, reading_limit, name_most}
use Rattle.state.specs.Form.{head_ok, datum_ok, store_ok, counts_ok, state_ok}
use Rattle.engine.specs.Ageing.{least_advance, greatest_advance, slow, fast, widened, aged}
use Rattle.engine.specs.Receiving.{Delivery, grown}
use Rattle.engine.specs.Hearing.{risen, late, hearing, heeded, arrived}
use Rattle.engine.specs.Calls.{Setup, begun, set_up, age, receive, violated, moved, made, done}
use Rattle.engine.specs.Refusals.{set_up_refusal, an_end_passes, passes_end, age_refusal, receipt_refusal}
use Rattle.steps.specs.Steps.{judged, too_many}
use Rattle.steps.specs.Withdrawn.{withdrawn}
use Rattle.state.proofs.OkLaws.{ok_datum_out, ok_datum_in}
use Rattle.steps.proofs.ReceiveLaws.{formed_fit, received_ok}
use Rattle.steps.proofs.WithdrawnLaws.{withdraw_fit, withdrawn_ok}
use Rattle.steps.proofs.BlameLaws.{formed-single, judged-violated, swept-blamed_ok}
use Rattle.engine.proofs.WatchLaws.{all_set, watched_ok, length-watched}
use Rattle.engine.proofs.HearingLaws.{hearing_ok, heeded-fits}
use Rattle.state.proofs.LentLaws.{refuse-none}
use Rattle.names.specs.Sets.{no_set}

-- ---- setting up

pub set_up_ok : (u : Setup) → set_up_refusal u ≡ 0 → T (state_ok (set_up u))
unfolding set_up_refusal set_up begun state_ok head_ok store_ok counts_ok saved_ok
set_up_ok u e =
    let a = refuse-none (ltb 28 u.own) 1 _ (omega arith) e in
    let d = refuse-none (ltb 15 u.epoch) 41 _ (omega arith) a.1 in
    let b = refuse-none (ltb 1_000 u.drift) 2 _ (omega arith) d.1 in
    let c = refuse-none (leb reading_limit u.reading) 3 _ (omega arith) b.1 in
    let epoch = le→leb u.epoch 15 (nltb→le 15 u.epoch d.0) in
    let epochs : T (list_all (λ e. leb e epoch_most) (set (replicate epochs_most 0) u.own u.epoch)) =
    all_set (λ e. leb e epoch_most) (replicate epochs_most 0) u.own u.epoch tt epoch in
    let known : T (eqb (length (set (replicate epochs_most 0) u.own u.epoch)) epochs_most) = rw length-set tt in
    let own = le→leb u.own 28 (nltb→le 28 u.own a.0) in
    let drift = le→leb u.drift 1_000 (nltb→le 1_000 u.drift b.0) in
    let reading = lt→ltb u.reading reading_limit (nleb→lt reading_limit u.reading c.0) in
    search both depth 12

-- ---- ageing

-- the least advance of a time is at most the greatest of the same or a longer one
pub least-greatest : (r short long : ℕ) → short ≤ long → least_advance r short ≤ greatest_advance r long
unfolding least_advance greatest_advance
least-greatest r short long h =
    let slower : short * (1_000_000 - r) ≤ short * (1_000_000 + r) = mul-le-mul_left short (omega arith) in
    let longer : short * (1_000_000 + r) ≤ long * (1_000_000 + r) = mul-le-mul_right (1_000_000 + r) h in
    omega arith

pub slow-fast : (h : Head) (reading : ℕ) → slow h reading ≤ fast h reading
unfolding slow fast
slow-fast h reading = let passed = reading - h.reading in least-greatest h.drift passed passed (le_refl passed)

-- right data that are widened, none beyond the last end
widened_ok : (own lo hi : ℕ) (ds : List Datum) → lo ≤ hi → T (list_all (datum_ok own) ds)
    → T (not (list_any an_end_passes (map (widened lo hi) ds))) → T (list_all (datum_ok own) (map (widened lo hi) ds))
unfolding widened
widened_ok own lo hi [] l h k = tt
widened_ok own lo hi (d ∷ ds) l h k =
    let o = ok_datum_out own d (both_l (datum_ok own d) (list_all (datum_ok own) ds) h) in
    let low = neither (an_end_passes (widened lo hi d)) (list_any an_end_passes (map (widened lo hi) ds)) k in
    let below = (neither (leb end_limit (d.left + lo)) (leb end_limit (d.right + hi)) low.0).1 in
    both (datum_ok own (widened lo hi d)) (list_all (datum_ok own) (map (widened lo hi) ds))
    (ok_datum_in own (widened lo hi d) record { ends = omega arith; below = nleb→lt end_limit (d.right + hi) below; fit = o.fit })
    (widened_ok own lo hi ds l (both_r (datum_ok own d) (list_all (datum_ok own) ds) h) low.1)

-- "Entries stay."
pub entries_stay : (lo hi : ℕ) (k : Store) → (aged lo hi k).entries ≡ k.entries
unfolding aged
entries_stay lo hi k = refl

held_widened : (lo hi : ℕ) (k : Store) → (aged lo hi k).held ≡ map (widened lo hi) k.held
unfolding aged
held_widened lo hi k = refl

pub age_ok : (st : State) (reading : ℕ) → T (state_ok st) → age_refusal st reading ≡ 0 → T (state_ok (done st (age reading)))
unfolding age_refusal passes_end done moved made state_ok head_ok store_ok counts_ok
age_ok st reading h e =
    let own = st.head.own in
    let ds = st.store.held in
    let lo = slow st.head reading in
    let hi = fast st.head reading in
    let a = refuse-none (leb reading_limit reading) 3 _ (omega arith) e in
    let b = refuse-none (ltb reading st.head.reading) 20 _ (omega arith) a.1 in
    let c = refuse-none (list_any an_end_passes (aged lo hi st.store).held) 30 _ (omega arith) b.1 in
    let now = lt→ltb reading reading_limit (nleb→lt reading_limit reading a.0) in
    let old : T (list_all (datum_ok own) ds) = search (both_l, both_r) depth 9 in
    let held = widened_ok own lo hi ds (slow-fast st.head reading) old (rw (held_widened lo hi st.store) at c.0) in
    rw (held_widened lo hi st.store, entries_stay lo hi st.store, length-map ds (widened lo hi)) (search (both, both_l, both_r) depth 12)

-- ---- receiving

-- what holds of a message that has been read, of the delays and of the readings, once 21, 40 and 10 to 17 are passed
pub record Heard (g : Delivery) : Type 0 where
  pub delays : g.least ≤ g.greatest
  pub sender_le : g.sender ≤ name_most
  pub ends : g.left ≤ g.right
  pub small : (t : ℕ) → In t g.terms → t < no_set
  pub names : Named g.names
  pub readings : T (not (readings_fail g.readings))

-- the new datum has passed 18, 30 and 31
pub record Passed (h : Head) (g : Delivery) : Type 0 where
  pub other : g.sender ≡ h.own → ⊥
  pub below : (grown h g).right < end_limit
  pub few : length (arrived h g).terms ≤ 8

pub receipt_passed : (st : State) (g : Delivery) → receipt_refusal st g ≡ 0
    → Passed st.head g × T (counts_ok (made st.head st.store (receive g)))
unfolding receipt_refusal too_many counts_ok
receipt_passed st g e =
    let own = st.head.own in
    let n = grown st.head g in
    let p = (arrived st.head g).terms in
    let k = made st.head st.store (receive g) in
    let a = refuse-none (eqb g.sender own) 18 _ (omega arith) e in
    let b = refuse-none (an_end_passes n) 30 _ (omega arith) a.1 in
    let c = refuse-none (ltb 8 (length p)) 31 _ (omega arith) b.1 in
    let d = refuse-none (too_many k) 32 _ (omega arith) c.1 in
    let few = neither (ltb 16 (length k.held)) (ltb 32 (length k.entries)) d.0 in (
      record {
        other = λ s. T_not (eqb g.sender own) a.0 (rw s (eqb_refl own));
        below = nleb→lt end_limit n.right (neither (leb end_limit n.left) (leb end_limit n.right) b.0).1;
        few = nltb→le 8 (length p) c.0;
      },
      both (leb (length k.held) 16) (leb (length k.entries) 32) (le→leb (length k.held) 16 (nltb→le 16 (length k.held) few.0))
          (le→leb (length k.entries) 32 (nltb→le 32 (length k.entries) few.1)),
    )

-- the grown interval is not empty
pub grown-ends : (h : Head) (g : Delivery) → Heard g → (grown h g).left ≤ (grown h g).right
unfolding grown
grown-ends h g e = omega (arith, least-greatest h.drift g.least g.greatest e.delays, e.ends)

-- a new datum that is not true is right
pub arrived_ok : (h : Head) (g : Delivery) → Heard g → Passed h g → T (not (is_true (arrived h g).terms)) → T (datum_ok h.own (arrived h g))
unfolding arrived grown
arrived_ok h g e p n =
    let terms = formed h.own g.sender g.terms in
    let before : T (not (is_true terms)) = not_T (is_true terms) (λ t. T_not (is_true (withdraw (late h g) terms)) n (withdraw_true (late h g) terms t)) in
    ok_datum_in h.own (arrived h g)
    record {
      ends = grown-ends h g e;
      below = p.below;
      fit = withdraw_fit h.own (length terms) datum_terms (late h g) terms
          (formed_fit h.own g.sender g.terms e.sender_le p.other e.small before) n p.few;
    }

-- it has terms, in normal form
pub arrived-some : (h : Head) (g : Delivery) → 0 < length (arrived h g).terms
unfolding arrived grown
arrived-some h g = withdraw-some (late h g) (formed h.own g.sender g.terms) (formed-some h.own g.sender g.terms)

pub arrived-normal : (h : Head) (g : Delivery) → T (is_normal (arrived h g).terms)
unfolding arrived
arrived-normal h g = withdraw-normal (late h g) (grown h g).terms

-- the sender's name implies its predicate
pub arrived-single : (h : Head) (g : Delivery) → T (implies (2 ^ g.sender ∷ []) (arrived h g).terms)
unfolding arrived grown
arrived-single h g =
    withdraw-implies (late h g) (2 ^ g.sender ∷ []) (formed h.own g.sender g.terms) (formed-single h.own g.sender g.terms)

-- what a receipt leaves is right, violated or not
judged_ok : (own : ℕ) (violation : Bool) (sender : ℕ) (n : Datum) (k : Store) → sender ≤ name_most → (sender ≡ own → ⊥)
    → T (implies (2 ^ sender ∷ []) n.terms) → T (store_ok own k) → (T (not (is_true n.terms)) → T (datum_ok own n))
    → T (store_ok own (judged violation sender n k))
unfolding judged
judged_ok own true sender n k s f i h d =
    subst (λ (j : Store). T (store_ok own j)) (sym (judged-violated sender n k i)) (swept-blamed_ok own sender k s f h)
judged_ok own false sender n k s f i h d = received_ok own n k h d

pub made_ok : (st : State) (g : Delivery) → T (state_ok st) → Heard g → Passed st.head g
    → T (store_ok st.head.own (made st.head st.store (receive g)))
unfolding made state_ok
made_ok st g t h p =
    let own = st.head.own in
    let old : T (store_ok own st.store) = search (both_l, both_r) depth 9 in
    judged_ok own (violated st.head g) g.sender (arrived st.head g) (withdrawn (risen st.head g) st.store) h.sender_le p.other
    (arrived-single st.head g) (withdrawn_ok own (risen st.head g) st.store old) (arrived_ok st.head g h p)

-- the same, before the readings are saved
pub unsaved_ok : (st : State) (g : Delivery) → T (state_ok st) → Heard g → receipt_refusal st g ≡ 0
    → T (state_ok (record { head = st.head; store = made st.head st.store (receive g) }))
unfolding state_ok
unsaved_ok st g t h e =
    let p = receipt_passed st g e in
    let new = made_ok st g t h p.0 in
    let counts = p.1 in
    search (both, both_l) depth 9

-- the head of a taken receipt
moved_ok : (h : Head) (g : Delivery) → T (head_ok h) → Heard g
    → T (head_ok (with_clocks (hearing h g) (watched (heeded h g) g.sender (hearing h g).clocks)))
unfolding head_ok
moved_ok h g t e =
    let k = hearing_ok h g t e.names in
    let cs = (hearing h g).clocks in
    let right : T (list_all saved_ok cs) = search (both_l, both_r) depth 9 in
    let there : length cs ≡ clocks_most = eqb→eq (length cs) clocks_most (search (both_l, both_r) depth 9) in
    let clocks-there : T (eqb (length (watched (heeded h g) g.sender cs)) clocks_most) = rw (length-watched (heeded h g) g.sender cs, there) tt in
    let clocks = watched_ok (heeded h g) g.sender cs (heeded-fits h g e.readings) (omega (arith, there, e.sender_le)) right in
    search (both, both_l, both_r) depth 14

pub receive_ok : (st : State) (g : Delivery) → T (state_ok st) → Heard g → receipt_refusal st g ≡ 0 → T (state_ok (done st (receive g)))
unfolding done moved state_ok head_ok hearing
receive_ok st g t h e =
    let p = receipt_passed st g e in
    let new = made_ok st g t h p.0 in
    let counts = p.1 in
    let head = moved_ok st.head g (both_l (head_ok st.head) _ t) h in
    search both depth 12
