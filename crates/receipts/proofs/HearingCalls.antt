-- The calls that store what a receipt makes of the head (`src/hearing.rt`), on plain values: places cleared one after the other, the epochs behind
-- them, and the readings over both. The idea: each call gives the bytes with a state stored in front, and of two states stored there the later
-- one is left.
-- No contract cites this file. Assumes nothing.
use Prim.Native.Nat.{ℕ, zero, suc, ◌+◌, ◌-◌, ◌≤◌, ◌<◌}
use mathlib.Core.Path.{◌≡◌, refl, sym, ap, ◌∙◌}
use mathlib.Core.Logic.{⊎_elim}
use mathlib.Core.Bool.{Bool, true, false, not, cond}
use mathlib.Core.List.{List}
use native.Mathlib.Numerals.{add-one}
use native.Mathlib.Decide.{ℕ_discrete}
use native.Mathlib.Omega.{arith}
use lib.Dec.{T, eqb}
use lib.ListN.{length, get_or, set, length-set}
use lib.Seq.{get_or-set_same, get_or-set_other}
use Rattle.numbers.specs.Numbers.{put, Bytes}
use Rattle.numbers.proofs.NumberLaws.{tab_ext}
use Rattle.names.specs.Sets.{has}
use Rattle.names.specs.code.Parts.{digit}
use Rattle.names.proofs.SetLaws.{digit-empty}
use Rattle.std.specs.List.{list_all}
use Rattle.predicates.proofs.ListLaws.{both, both_l, both_r, cond_ind}
use Rattle.epochs.specs.Epochs.{epochs_most, epochs_in, older, raised, NotAbove, spoken}
use Rattle.epochs.specs.code.Known.{Named}
use Rattle.epochs.proofs.EpochLaws.{below, digit-older, length-raised, raised-same}
use Rattle.std.specs.Prelude.{Option}
use Rattle.clocks.specs.declared.Readings.{Readings}
use Rattle.clocks.specs.Clocks.{Saved, nothing, saved_ok, readings_fail, watched}
use Rattle.clocks.specs.Places.{place_size, saved_bytes}
use Rattle.state.specs.Model.{Head, State, with_clocks, name_most}
use Rattle.state.specs.Layout.{state_size, clocks_most, clock_place, epochs_at, zeros, parts, state_bytes, head_of, store_of, state_of}
use Rattle.state.specs.Form.{in_form, head_ok, state_ok}
use Rattle.state.proofs.PartLaws.{put-over, part_stored}
use Rattle.state.proofs.StateLaws.{state_out, length-state, parts_sized, form_ok, put-form, put-state, put-state-same, place-put}
use Rattle.engine.specs.Hearing.{cleared}
use Rattle.engine.specs.code.Hearing.{heard_head, cleared_below}
use Rattle.engine.proofs.WatchLaws.{all_set, length-watched, watched_ok}
use Rattle.engine.proofs.HearingLaws.{length-cleared, cleared_ok, cleared-none, heard_ok}

-- ---- places cleared one after the other

module _ (r : ℕ) (cs : List Saved) where
  length-below : (n : ℕ) → length (cleared_below n r cs) ≡ length cs
  unfolding cleared_below
  length-below zero = refl
  length-below (suc n) =
      cond_ind (λ l. length l ≡ length cs) (has n r) (set (cleared_below n r cs) n nothing) (cleared_below n r cs)
      (λ _. length-set (cleared_below n r cs) n nothing ∙ length-below n) (λ _. length-below n)

  below_ok : (n : ℕ) → T (list_all saved_ok cs) → T (list_all saved_ok (cleared_below n r cs))
  unfolding cleared_below saved_ok
  below_ok zero t = t
  below_ok (suc n) t =
      cond_ind (λ l. T (list_all saved_ok l)) (has n r) (set (cleared_below n r cs) n nothing) (cleared_below n r cs)
      (λ _. all_set saved_ok (cleared_below n r cs) n nothing (below_ok n t) tt) (λ _. below_ok n t)

  -- those that are still to come stay
  below-ahead : (n k : ℕ) → n ≤ k → get_or (cleared_below n r cs) k nothing ≡ get_or cs k nothing
  unfolding cleared_below
  below-ahead zero k h = refl
  below-ahead (suc n) k h =
      cond_ind (λ l. get_or l k nothing ≡ get_or cs k nothing) (has n r) (set (cleared_below n r cs) n nothing) (cleared_below n r cs)
      (λ _. get_or-set_other (cleared_below n r cs) n k nothing nothing (λ e. omega (arith, h, e)) ∙ below-ahead n k (omega arith))
      (λ _. below-ahead n k (omega arith))

  -- those that were passed are as they are to be
  below_passed : (n k : ℕ) → k < n → k < length cs → get_or (cleared_below n r cs) k nothing ≡ cond (has k r) nothing (get_or cs k nothing)
  unfolding cleared_below
  below_passed zero k h l = absurd (omega arith)
  below_passed (suc n) k h l = go (ℕ_discrete k n) (λ m. below_passed n k m l)
    where
      before : List Saved
      before = cleared_below n r cs

      here : n < length cs → (b : Bool) → get_or (cond b (set before n nothing) before) n nothing ≡ cond b nothing (get_or cs n nothing)
      here l true = get_or-set_same before n nothing nothing (omega (arith, l, length-below n))
      here l false = below-ahead n n (omega arith)

      go : Dec (k ≡ n) → (k < n → get_or before k nothing ≡ cond (has k r) nothing (get_or cs k nothing))
          → get_or (cond (has n r) (set before n nothing) before) k nothing ≡ cond (has k r) nothing (get_or cs k nothing)
      go (yes e) f = rw e (here (omega arith) (has n r))
      go (no d) f =
          let old = f (omega (arith, h, d)) in
          cond_ind (λ x. get_or x k nothing ≡ cond (has k r) nothing (get_or cs k nothing)) (has n r) (set before n nothing) before
          (λ _. get_or-set_other before n k nothing nothing d ∙ old) (λ _. old)

  below_all : cleared_below (length cs) r cs ≡ cleared r cs
  unfolding cleared
  below_all = sym (tab_ext nothing (length cs) _ (cleared_below (length cs) r cs) (length-below (length cs)) (λ k l. sym (below_passed (length cs) k l l)))

-- ---- epochs where none has risen

none-risen : (ks es : List ℕ) → older ks es ≡ 0 → NotAbove es ks
none-risen ks es z n =
    ⊎_elim
    (λ b. absurd (omega (arith, b.1, digit-older ks es n, ap (λ (x : ℕ). digit x n) z, digit-empty n)))
    (λ b. b.0)
    (below (get_or ks n 0) (get_or es n 0))

heard-none : (own : ℕ) (names : List ℕ) (r : ℕ) (h : Head) → r ≡ older h.epochs (spoken own names h.epochs) → r ≡ 0 → heard_head own names r h ≡ h
unfolding heard_head
heard-none own names r h e z =
    let quiet = none-risen h.epochs (spoken own names h.epochs) (sym e ∙ z) in
    rw (z, cleared-none h.clocks, raised-same h.epochs (spoken own names h.epochs) quiet)

-- ---- states stored in front

-- a right head with other clocks
clocks_ok : (h : Head) (cs : List Saved) → T (head_ok h) → length cs ≡ clocks_most → T (list_all saved_ok cs) → T (head_ok (with_clocks h cs))
unfolding head_ok
clocks_ok h cs t e k =
    let there : T (eqb (length cs) clocks_most) = rw e tt in
    search (both, both_l, both_r) depth 14

-- of two the later one is left
stored-over : (a b : State) (s t u : List ℕ) → T (state_ok a) → T (state_ok b) → t ≡ put 0 (state_bytes a) s → u ≡ put 0 (state_bytes b) t
    → u ≡ put 0 (state_bytes b) s
stored-over a b s t u p q e f = f ∙ rw e (put-over 0 (state_bytes b) (state_bytes a) s (length-state b q ∙ sym (length-state a p)))

module _ (s : List ℕ) (f : T (in_form s)) (h : state_size ≤ length s) where
  -- what is lent is right, also with another right head
  lent_ok : T (head_ok (head_of s))
  unfolding state_ok state_of
  lent_ok = both_l (head_ok (head_of s)) _ (form_ok s f)

  with_head : (g : Head) → g.own ≡ (head_of s).own → T (head_ok g) → T (state_ok (record { head = g; store = store_of s }))
  unfolding state_ok state_of
  with_head g e n = both (head_ok g) _ n (rw e (both_r (head_ok (head_of s)) _ (form_ok s f)))

  lent-clocks : (length (head_of s).clocks ≡ clocks_most) × T (list_all saved_ok (head_of s).clocks)
  unfolding state_of
  lent-clocks = let o = state_out (state_of s) (form_ok s f) in (o.clocks-all, o.clocks)

  -- ---- the clocks of risen identifiers
  module _ (r : ℕ) where
    -- the lent state where the places of the first n identifiers are cleared
    abbrev forgotten : ℕ → State
    forgotten n = record { head = with_clocks (head_of s) (cleared_below n r (head_of s).clocks); store = store_of s }

    forgotten_ok : (n : ℕ) → T (state_ok (forgotten n))
    forgotten_ok n =
        let cs = (head_of s).clocks in
        with_head (with_clocks (head_of s) (cleared_below n r cs)) refl
        (clocks_ok (head_of s) (cleared_below n r cs) lent_ok (length-below r cs n ∙ lent-clocks.0) (below_ok r cs n lent-clocks.1))

    pub forget-start : Bytes s → s ≡ put 0 (state_bytes (forgotten 0)) s
    unfolding state_of cleared_below
    forget-start b = sym (put-state-same s f b h)

    pub forget-place : (i : ℕ) (t u : List ℕ) → i < clocks_most → has i r ≡ true → t ≡ put 0 (state_bytes (forgotten i)) s
        → u ≡ put (clock_place i) (zeros (clock_place i + place_size - clock_place i)) t → u ≡ put 0 (state_bytes (forgotten (i + 1))) s
    unfolding cleared_below saved_bytes
    forget-place i t u l e p q =
        let long : clock_place i + place_size - clock_place i ≡ place_size = omega arith in
        q ∙ rw (long, add-one i, e, p) (place-put (forgotten i) s (forgotten_ok i) h i nothing l)

    pub forget-none : (i : ℕ) (t : List ℕ) → has i r ≡ false → t ≡ put 0 (state_bytes (forgotten i)) s → t ≡ put 0 (state_bytes (forgotten (i + 1))) s
    unfolding cleared_below
    forget-none i t e p = p ∙ rw (add-one i, e)

    pub forget-done : (i : ℕ) (t : List ℕ) → i ≡ clocks_most → t ≡ put 0 (state_bytes (forgotten i)) s
        → t ≡ put 0 (state_bytes (record { head = with_clocks (head_of s) (cleared r (head_of s).clocks); store = store_of s })) s
    forget-done i t e p = let All-there = e ∙ sym lent-clocks.0 in p ∙ rw (All-there, below_all r (head_of s).clocks)

  -- ---- the epochs
  module _ (own : ℕ) (names : List ℕ) (named : Named names) (r : ℕ) where
    abbrev heard : State
    heard = record { head = heard_head own names r (head_of s); store = store_of s }

    heard-right : T (state_ok heard)
    unfolding heard_head
    heard-right = with_head (heard_head own names r (head_of s)) refl (heard_ok own names r (head_of s) lent_ok named)

    -- they are the last part, behind the clocks
    pub epochs-stored : (t u : List ℕ) → t ≡ put 0 (state_bytes (record { head = with_clocks (head_of s) (cleared r (head_of s).clocks); store = store_of s })) s
        → u ≡ put epochs_at (raised (epochs_in epochs_at t) (spoken own names (epochs_in epochs_at t))) t → u ≡ put 0 (state_bytes heard) s
    unfolding state_bytes parts head_of state_of heard_head
    epochs-stored t u p q =
        let cs = cleared r (head_of s).clocks in
        let st : State = record { head = with_clocks (head_of s) cs; store = store_of s } in
        let ok : T (state_ok st) =
        with_head (with_clocks (head_of s) cs) refl
        (clocks_ok (head_of s) cs lent_ok (length-cleared r (head_of s).clocks ∙ lent-clocks.0) (cleared_ok r (head_of s).clocks lent-clocks.1)) in
        let known : epochs_in epochs_at t ≡ (head_of s).epochs = ap (λ (x : State). x.head.epochs) (ap state_of p ∙ put-state st s ok h) in
        let es = raised (head_of s).epochs (spoken own names (head_of s).epochs) in
        let long : length es ≡ epochs_most = length-raised (head_of s).epochs _ ∙ (state_out (state_of s) (form_ok s f)).epochs-all in
        (part_stored 8 es (parts st) s t u (omega arith) long (q ∙ rw known) (record { sized = parts_sized st ok; stored = p })).stored

    -- where none has risen nothing moves
    pub epochs_stay : Bytes s → r ≡ older (head_of s).epochs (spoken own names (head_of s).epochs) → r ≡ 0 → s ≡ put 0 (state_bytes heard) s
    unfolding state_of
    epochs_stay b e z = rw (heard-none own names r (head_of s) e z) (sym (put-state-same s f b h))

    -- ---- the readings, over both
    module _ (t : List ℕ) (p : t ≡ put 0 (state_bytes heard) s) where
      pub heard-form : T (in_form t)
      heard-form = rw p (put-form heard s heard-right h)

      pub close-stored : (sender : ℕ) (readings : Option Readings) (u : List ℕ) → sender ≤ name_most → T (not (readings_fail readings))
          → u ≡ put 0 (state_bytes (record { head = with_clocks (head_of t) (watched readings sender (head_of t).clocks); store = store_of t })) t
          → u ≡ put 0 (state_bytes (record { head = with_clocks heard.head (watched readings sender heard.head.clocks); store = store_of s })) s
      unfolding state_of heard_head
      close-stored sender readings u l k q =
          let same : state_of t ≡ heard = ap state_of p ∙ put-state heard s heard-right h in
          let head : head_of t ≡ heard.head = ap (λ (x : State). x.head) same in
          let store : store_of t ≡ store_of s = ap (λ (x : State). x.store) same in
          let cs = heard.head.clocks in
          let o = state_out heard heard-right in
          let new = with_clocks heard.head (watched readings sender cs) in
          let ok = with_head new refl
          (clocks_ok heard.head (watched readings sender cs) (heard_ok own names r (head_of s) lent_ok named) (length-watched readings sender cs ∙ o.clocks-all)
          (watched_ok readings sender cs k (omega (arith, o.clocks-all)) o.clocks)) in
          stored-over heard (record { head = new; store = store_of s }) s t u heard-right ok p (rw (head, store) at q)
