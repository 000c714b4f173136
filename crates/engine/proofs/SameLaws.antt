-- Two taken calls that change nothing: an ageing to the last reading, and a receipt whose predicate is true.
-- The idea: no time has passed, so both advances are 0, and every end of a right state fits as it did; a predicate that is true has the empty term
-- alone in normal form, and the store stays. No contract cites this file. Assumes nothing.
use Prim.Native.Nat.{ℕ, ◌≤◌, ◌<◌}
use mathlib.Core.Path.{◌≡◌, refl}
use mathlib.Core.Logic.{⊎_elim}
use mathlib.Core.Bool.{false, not}
use mathlib.Core.List.{List, [], ◌∷◌, map}
use native.Mathlib.Nat.{add-zero, zero-mul, sub_self}
use native.Mathlib.Omega.{arith}
use borrow.Author.Tests.{lt-leb, le-ltb}
use lib.Dec.{T, T_not, eqb, eqb→eq, ltb, ltb→lt}
use lib.ListN.{length}
use Rattle.names.specs.Sets.{subset}
use Rattle.names.proofs.SetLaws.{empty-subset}
use Rattle.std.specs.List.{list_any, list_all}
use Rattle.predicates.specs.Predicates.{is_true, is_normal, precedes}
use Rattle.predicates.proofs.ListLaws.{both_l, both_r, or_cases, any_out, all_out, T_true, T_false}
use Rattle.epochs.specs.Epochs.{NotAbove, withdraw}
use Rattle.epochs.proofs.WithdrawLaws.{withdraw-normal}
use Rattle.state.specs.Model.{Datum, Head, Store, State, end_limit, reading_limit}
use Rattle.state.specs.Layout.{datum_terms, data_most, entries_most}
use Rattle.state.specs.Form.{datum_ok, store_ok, state_ok}
use Rattle.state.proofs.OkLaws.{ok_datum_out}
use Rattle.state.proofs.StateLaws.{state_out}
use Rattle.steps.specs.Steps.{judged, received, too_many}
use Rattle.steps.specs.Withdrawn.{withdrawn}
use Rattle.steps.proofs.WithdrawnLaws.{withdrawn-none}
use Rattle.engine.specs.Ageing.{least_advance, greatest_advance, slow, fast, widened, aged}
use Rattle.engine.specs.Receiving.{Delivery}
use Rattle.engine.specs.Hearing.{spoken_by, risen, late, hearing, heeded, arrived}
use Rattle.engine.specs.Calls.{age, receive, clock_of, violated, moved, made, done}
use Rattle.engine.specs.Refusals.{an_end_passes, passes_end, age_refusal, from_self, grows_past, receipt_refusal}
use Rattle.engine.proofs.WatchLaws.{watched-none, violated-none}
use Rattle.std.specs.Prelude.{None}
use Rattle.engine.proofs.HearingLaws.{heeded-none, quiet-risen, quiet-hearing}

-- ---- an ageing to the last reading: "An equal reading is fine and changes nothing."

slow-none : (h : Head) → slow h h.reading ≡ 0
unfolding slow least_advance
slow-none h = rw (sub_self h.reading, zero-mul)

fast-none : (h : Head) → fast h h.reading ≡ 0
unfolding fast greatest_advance
fast-none h = rw (sub_self h.reading, zero-mul)

widened_none : (ds : List Datum) → map (widened 0 0) ds ≡ ds
unfolding widened
widened_none [] = refl
widened_none (d ∷ ds) = rw (add-zero d.left, add-zero d.right, widened_none ds)

aged-none : (k : Store) → aged 0 0 k ≡ k
unfolding aged
aged-none k = rw (widened_none k.held)

ends-below : (own : ℕ) (ds : List Datum) → T (list_all (datum_ok own) ds) → list_any an_end_passes ds ≡ false
ends-below own [] t = refl
ends-below own (d ∷ ds) t =
    let o = ok_datum_out own d (both_l (datum_ok own d) (list_all (datum_ok own) ds) t) in
    let left : d.left < end_limit = omega (arith, o.ends, o.below) in
    rw (lt-leb end_limit d.left left, lt-leb end_limit d.right o.below) (ends-below own ds (both_r (datum_ok own d) (list_all (datum_ok own) ds) t))

module _ (st : State) (t : T (state_ok st)) where
  pub age-same : (age_refusal st st.head.reading ≡ 0) × (done st (age st.head.reading) ≡ st)
  unfolding age_refusal passes_end done moved made
  age-same =
      let o = state_out st t in
      let last = st.head.reading in (
        rw (
          lt-leb reading_limit last o.reading_lt,
          le-ltb last last (omega arith),
          slow-none st.head,
          fast-none st.head,
          aged-none st.store,
          ends-below st.head.own st.store.held o.held,
        ),
        rw (slow-none st.head, fast-none st.head, aged-none st.store),
      )

-- ---- a receipt without readings and without a rise, whose predicate is true: "the receipt is taken and changes nothing"

store_ok_lem : (st : State) → T (state_ok st) → T (store_ok st.head.own st.store)
unfolding state_ok
store_ok_lem st t = search (both_l, both_r) depth 9

-- in normal form the empty term stands alone
empty-alone : (p : List ℕ) → T (list_all (λ u. precedes 0 u) p) → length p ≤ 0
empty-alone [] a = omega arith
empty-alone (u ∷ p) a =
    absurd (T_not (subset 0 u) (both_r (ltb 0 u) (not (subset 0 u)) (both_l (precedes 0 u) (list_all (λ v. precedes 0 v) p) a)) (empty-subset u))

true_alone : (p : List ℕ) → T (is_normal p) → T (is_true p) → length p ≤ 1
unfolding is_normal is_true
true_alone [] n h = omega arith
true_alone (t ∷ p) n h =
    let first = both_l (list_all (λ u. precedes t u) p) (is_normal p) n in
    ⊎_elim (λ z. omega (arith, empty-alone p (rw (eqb→eq t 0 z) at first))) (λ z.
    let k = any_out (λ u. eqb u 0) p z in
    let less = ltb→lt t k.0 (both_l (ltb t k.0) _ (all_out (λ u. precedes t u) p first k.0 k.1)) in
    absurd (omega (arith, eqb→eq k.0 0 k.2))) (or_cases (eqb t 0) (list_any (λ u. eqb u 0) p) h)

module _ (st : State) (t : T (state_ok st)) (g : Delivery) (w : g.readings ≡ None) (q : NotAbove (spoken_by st.head g) st.head.epochs)
    (h : T (is_true (arrived st.head g).terms)) where
  quiet : violated st.head g ≡ false
  unfolding violated
  quiet = violated-none st.head.drift (clock_of (hearing st.head g) g.sender) (heeded st.head g) (heeded-none st.head g w)

  stays : withdrawn (risen st.head g) st.store ≡ st.store
  stays = rw (quiet-risen st.head g q) (withdrawn-none st.head.own st.store (store_ok_lem st t))

  pub receive-same : done st (receive g) ≡ st
  unfolding done moved made judged received
  receive-same =
      rw (quiet, stays, quiet-hearing st.head g q, watched-none (heeded st.head g) g.sender st.head.clocks (heeded-none st.head g w), T_true (is_true (arrived st.head g).terms) h)

  few-terms : length (arrived st.head g).terms ≤ 1
  unfolding arrived
  few-terms = true_alone (withdraw (late st.head g) _) (withdraw-normal (late st.head g) _) h

  -- 18 and 30 may come; nothing else does
  pub receive_true : T (not (from_self st g)) → T (not (grows_past st g)) → receipt_refusal st g ≡ 0
  unfolding receipt_refusal made judged received too_many
  receive_true other below =
      let o = state_out st t in
      rw (
        quiet,
        stays,
        T_false (from_self st g) other,
        T_false (grows_past st g) below,
        le-ltb datum_terms (length (arrived st.head g).terms) (omega (arith, few-terms)),
        T_true (is_true (arrived st.head g).terms) h,
        le-ltb data_most (length st.store.held) o.held_le,
        le-ltb entries_most (length st.store.entries) o.entries_le,
      )
