-- By rising limits to the fewest failures.
-- The idea: the sets that a search over the arrays tries are those within the limit for which an instant counts; so a limit without one shows that a
-- set that works has more names. No contract cites this file. Assumes nothing.
use Prim.Native.Nat.{ℕ, ◌+◌, ◌-◌, ◌≤◌, ◌<◌}
use mathlib.Core.Path.{◌≡◌, sym, ap, subst, ◌∙◌}
use mathlib.Core.Bool.{Bool, true, false}
use mathlib.Core.Logic.{inl, inr, ⊎_elim}
use mathlib.Core.List.{List, []}
use native.Mathlib.Decide.{dec_lt}
use native.Mathlib.Omega.{arith}
use lib.Count.{ones}
use lib.Dec.{T, not_T}
use lib.ListN.{length, get_or}
use Rattle.names.specs.Sets.{no_set}
use Rattle.names.specs.code.Parts.{others}
use Rattle.state.specs.Model.{Datum, Store, State}
use Rattle.state.specs.Layout.{state_of}
use Rattle.state.specs.Form.{in_form, state_ok}
use Rattle.search.specs.code.Search.{Rows}
use Rattle.asking.specs.Instants.{Allowed}
use Rattle.claims.specs.code.Tables.{entry_claim, claim_at, Loaded, Bounded}
use Rattle.search.specs.code.LeftEnds.{Complete, LeastSet}
use Rattle.asking.specs.Asking.{answer}
use Rattle.asking.specs.Fewest.{Over, Few, not_contradicted, fewest, Works}
use Rattle.fewest.specs.code.Limits.{FirstLimit, Floor}
use Rattle.asking.specs.code.Claims.{hopeless}
use Rattle.asking.specs.code.One.{FewestOne}
use Rattle.asking.proofs.QuickLaws.{hopeless-none}
use Rattle.predicates.proofs.ListLaws.{true_T}
use Rattle.predicates.proofs.IndexLaws.{at_in}
use Rattle.claims.proofs.TableLaws.{claim_datum}
use Rattle.asking.proofs.ArrayLaws.{fits_allowed, allowed_fits, order-everything, everything-order, needs_needed, needed_needs, left-outside}
use Rattle.predicates.proofs.IndexLaws.{in_at}
use Rattle.claims.specs.code.Keys.{keyed_state}
use Rattle.claims.proofs.ReadyLaws.{Prepared}
use Rattle.asking.proofs.MappedLaws.{keyed-works}
use Rattle.asking.proofs.FewestLaws.{Seen, works-ends, ends-works, fewest-found, fewest-over, works_failed}
use Rattle.search.proofs.LeastLaws.{Tried, least_out}

-- ---- the limits that the entries rule out

-- the limits from 2 on and below this one are ruled out
pub record RuledOut (st : State) (limit : ℕ) : Type 0 where
  pub some : 2 ≤ limit
  pub most : limit ≤ 5
  pub before : (l : ℕ) → 2 ≤ l → l < limit → T (hopeless l st)

module _ (st : State) where
  pub ruled_none : RuledOut st 2
  ruled_none = record { some = omega arith; most = omega arith; before = λ l a b. absurd (omega arith) }

  module _ (limit : ℕ) (w : RuledOut st limit) where
    pub ruled_next : limit < 5 → hopeless limit st ≡ true → RuledOut st (limit + 1)
    ruled_next h e = record { some = omega (arith, w.some); most = omega arith; before = λ l a b. go l a b (dec_lt l limit) }
      where
        go : (l : ℕ) → 2 ≤ l → l < limit + 1 → Dec (l < limit) → T (hopeless l st)
        go l a b (yes c) = w.before l a c
        go l a b (no c) = let z : limit ≡ l = omega arith in subst (λ (m : ℕ). T (hopeless m st)) z (true_T (hopeless limit st) e)

    pub ruled_first : (limit < 5 → hopeless limit st ≡ false) → FirstLimit st limit
    ruled_first f =
        record {
          some = w.some;
          most = w.most;
          before = w.before;
          here = λ h. not_T (hopeless limit st) (λ t. subst (λ (b : Bool). T b) (f h) t);
        }

-- ---- the sets tried, and those that work

module _ (k : Store) (n rows : ℕ) (table : Rows) (order lefts rights : List ℕ) (loaded : Loaded k n rows table)
    (bounded : Bounded k rows lefts rights) (complete : Complete rows order) (limit own u : ℕ) where
  -- a row behind the entries has a held datum
  row-datum : (i : ℕ) → n ≤ i → claim_at k i ≡ get_or k.held (i - n) (entry_claim [])
  row-datum i h =
      let place : i ≡ length k.entries + (i - n) = omega (arith, loaded.entries_are) in ap (claim_at k) place ∙ claim_datum k (i - n)

  tried_seen : Tried n rows lefts rights table order limit (others own) u → Allowed limit own u × Seen u k
  tried_seen (inl f) = (fits_allowed limit own u _ f, inl (order-everything k n rows table order loaded complete u f.holding))
  tried_seen (inr t) =
      let i = t.0 in
      let f = t.3 in
      let end : get_or lefts i 0 ≡ (get_or k.held (i - n) (entry_claim [])).left = rw (sym (row-datum i t.1)) (bounded.left_is i t.2) in
      let outside = left-outside k rows lefts rights bounded (get_or lefts i 0) in
      let needed = needs_needed k n rows table order loaded complete u lefts rights _ _ outside f.holding in
      let there = at_in k.held (entry_claim []) (i - n) (omega (arith, t.1, t.2, loaded.rows_are)) in
      (fits_allowed limit own u _ f, inr (get_or k.held (i - n) (entry_claim []), there, rw end at needed))

  seen_tried : Allowed limit own u → Seen u k → Tried n rows lefts rights table order limit (others own) u
  seen_tried a (inl t) = inl (allowed_fits limit own u _ a (everything-order k n rows table order loaded complete u t))
  seen_tried a (inr t) =
      let w = in_at k.held (entry_claim []) t.0 t.1 in
      let i = n + w.0 in
      let l : i < rows = omega (arith, w.1, loaded.rows_are) in
      let place : w.0 ≡ i - n = omega arith in
      let same : t.0 ≡ claim_at k i =
      w.2 ∙ ap (λ (j : ℕ). get_or k.held j (entry_claim [])) place ∙ sym (row-datum i (omega arith)) in
      let end : t.0.left ≡ get_or lefts i 0 = ap (λ (d : Datum). d.left) same ∙ sym (bounded.left_is i l) in
      let outside = left-outside k rows lefts rights bounded (get_or lefts i 0) in
      let needed = needed_needs k n rows table order loaded complete u lefts rights _ _ outside (rw end at t.2) in
      inr (i, omega arith, l, allowed_fits limit own u _ a needed)

-- ---- by rising limits

pub floor_one : (st : State) → not_contradicted (answer 0 st) ≡ false → Floor st 1
floor_one st e = record { under = λ s w. omega (arith, works_failed st e s w) }

-- the same sets work where keys stand for ends
pub floor_keyed : (s : List ℕ) → T (in_form s) → (limit : ℕ) → Floor (state_of s) limit → Floor (keyed_state s) limit
floor_keyed s t limit f = record { under = λ u w. f.under u (keyed-works s t u w) }

-- a name that works alone is the fewest; else two names are needed
pub one-fewest : (st : State) (r n : ℕ) → Floor st 1 → FewestOne st r → r < no_set → n ≡ ones r → Few n r ≡ fewest st
one-fewest st r n f w h e =
    let o = w.one h in
    ap (λ (m : ℕ). Few m r) (e ∙ o.1)
    ∙ fewest-found st 1 r o.0 (omega (arith, o.1)) f.under (λ s v l. w.least s v (omega (arith, f.under s v)))

pub floor_two : (st : State) (r : ℕ) → Floor st 1 → FewestOne st r → no_set ≤ r → Floor st 2
floor_two st r f w h = record { under = λ s v. go s v (dec_lt 1 (ones s)) }
  where
    go : (s : ℕ) → Works st s → Dec (1 < ones s) → 2 ≤ ones s
    go s v (yes l) = omega arith
    go s v (no l) = absurd (omega (arith, w.least s v (omega (arith, f.under s v)), v.0.names))

-- the limits that the entries rule out are below it
pub floor_first : (st : State) → T (state_ok st) → Floor st 2 → (from : ℕ) → FirstLimit st from → Floor st from
floor_first st ok f from w = record { under = λ s v. go s v (dec_lt (ones s) from) }
  where
    go : (s : ℕ) → Works st s → Dec (ones s < from) → from ≤ ones s
    go s v (no l) = omega arith
    go s v (yes l) =
        let a : Allowed (ones s) st.head.own s = record { names = v.0.names; few = omega arith; others = v.0.others } in
        absurd (hopeless-none (ones s) st ok (w.before (ones s) (f.under s v) l) s a v.1.1.0)

pub floor_over : (st : State) → Floor st 5 → Over ≡ fewest st
floor_over st f = fewest-over st (λ s w. omega (arith, f.under s w, w.0.few))

module _ {st : State} {n rows : ℕ} {table : Rows} {order lefts rights : List ℕ} (p : Prepared st n rows table order lefts rights) {limit r : ℕ}
    (small : limit ≤ 4) (w : LeastSet n rows lefts rights table order limit (others st.head.own) r) (floor : Floor st limit) where
  abbrev own : ℕ
  own = st.head.own

  -- a set of so few names that works was tried
  least-works : (s : ℕ) → Works st s → ones s ≤ limit → r ≤ s
  least-works s v h =
      let a : Allowed limit own s = record { names = v.0.names; few = h; others = v.0.others } in
      (least_out n rows lefts rights table order limit (others own) r w).least s
      (seen_tried st.store n rows table order lefts rights p.loaded p.bounded p.complete limit own s a (works-ends st s v))

  pub floor_found : r < no_set → (count : ℕ) → count ≡ ones r → Few count r ≡ fewest st
  floor_found h count c =
      let t = tried_seen st.store n rows table order lefts rights p.loaded p.bounded p.complete limit own r
      (⊎_elim (λ e. absurd (omega arith)) (λ t. t) w.from) in
      let a : Allowed 4 own r = record { names = t.0.names; few = omega (arith, t.0.few); others = t.0.others } in
      let works = ends-works st r a t.1 in
      let size : count ≡ limit = omega (arith, t.0.few, floor.under r works) in
      rw size (fewest-found st limit r works t.0.few floor.under least-works)

  pub floor_next : no_set ≤ r → Floor st (limit + 1)
  floor_next h = record { under = λ s v. go s v (dec_lt limit (ones s)) }
    where
      go : (s : ℕ) → Works st s → Dec (limit < ones s) → limit + 1 ≤ ones s
      go s v (yes l) = omega arith
      go s v (no l) = absurd (omega (arith, least-works s v (omega arith), v.0.names))
