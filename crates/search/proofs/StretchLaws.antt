-- Stretches of left ends, with no right end between them.
-- The idea: the last end of a stretch needs the fewest predicates; so where no set explains it, none explains any end of the stretch. And a set that
-- explains an end explains those before it, down to the latest left end of the rows that it leaves false. No contract cites this file. Assumes nothing.
use Prim.Native.Nat.{ℕ, ◌+◌, ◌-◌, ◌≤◌, ◌<◌}
use mathlib.Core.Path.{◌≡◌, refl, sym, ap, subst, ◌∙◌}
use mathlib.Core.Logic.{◌⊎◌, inl, inr, ⊎_elim}
use mathlib.Core.Bool.{not}
use mathlib.Core.List.{List, []}
use native.Mathlib.Decide.{dec_lt, dec_le}
use native.Mathlib.Omega.{arith}
use borrow.Author.Tests.{lt-ltb}
use lib.Dec.{T, T_not, eqb, eqb→eq, ltb, ltb→lt}
use lib.ListN.{length, get_or, take}
use Rattle.numbers.specs.Numbers.{tab}
use Rattle.numbers.proofs.NumberLaws.{length-tab, get_or-tab}
use Rattle.names.specs.Sets.{set_union, no_set}
use Rattle.names.proofs.SetLaws.{subset_le}
use Rattle.names.proofs.PartLaws.{union_add}
use Rattle.std.proofs.Common.{Option, None, Some, IsSome}
use Rattle.std.specs.List.{filter}
use Rattle.predicates.specs.Lists.{In}
use Rattle.predicates.specs.Predicates.{holds}
use Rattle.predicates.proofs.ListLaws.{true_T, or_l, or_r, or_cases, all_in, all_out, any_out, keep_in, keep_out, map_in, map_out}
use Rattle.search.specs.code.Search.{Rows, Fits, Best, row_terms, pred_at, preds}
use Rattle.search.specs.code.Tables.{FirstIn}
use Rattle.search.specs.declared.stretches.Table.{Table}
use Rattle.search.specs.declared.stretches.Reached.{Reached}
use Rattle.search.specs.code.LeftEnds.{outside, no_end, Next, Last, IsEnd, Unbroken, Latest, Ready, needs, FirstEnd, FirstStretch, Unexplained, lefts_of, rights_of}
use Rattle.predicates.proofs.IndexLaws.{in_take, at_in}
use Rattle.search.proofs.EndSteps.{outside-test}

-- ---- rows that lack an instant

module _ (lefts rights : List ℕ) (x k : ℕ) where
  out_left : x < get_or lefts k 0 → T (outside lefts rights x k)
  out_left h =
      rw (sym (outside-test lefts rights x k))
      (or_l (ltb x (get_or lefts k 0)) (ltb (get_or rights k 0) x) (true_T _ (lt-ltb x (get_or lefts k 0) h)))

  out_right : get_or rights k 0 < x → T (outside lefts rights x k)
  out_right h =
      rw (sym (outside-test lefts rights x k))
      (or_r (ltb x (get_or lefts k 0)) (ltb (get_or rights k 0) x) (true_T _ (lt-ltb (get_or rights k 0) x h)))

  out_cases : T (outside lefts rights x k) → (x < get_or lefts k 0) ⊎ (get_or rights k 0 < x)
  out_cases t =
      ⊎_elim (λ a. inl (ltb→lt x (get_or lefts k 0) a)) (λ a. inr (ltb→lt (get_or rights k 0) x a))
      (or_cases (ltb x (get_or lefts k 0)) (ltb (get_or rights k 0) x) (rw (sym (outside-test lefts rights x k)) at t))

-- ---- where a stretch ends

module _ (n rows : ℕ) (lefts rights : List ℕ) (x roof r : ℕ) where
  pub stretch_in : Next rights n rows x roof → Last lefts n rows x roof r → Unbroken n rows rights x r
  stretch_in next last =
      record {
        rising = last.over;
        clear = λ k a b c. ⊎_elim (λ e. omega arith) (λ w. go k a b c w.4 (dec_lt (get_or rights k 0) x)) last.one;
      }
    where
      go : (k : ℕ) → n ≤ k → k < rows → get_or rights k 0 < r → r ≤ roof → Dec (get_or rights k 0 < x) → get_or rights k 0 < x
      go k a b c high (yes l) = l
      go k a b c high (no l) = absurd (omega (arith, next.least k a b (omega arith)))

pub stretch_at : (n rows : ℕ) (lefts : List ℕ) (x roof r : ℕ) → Last lefts n rows x roof r → (r ≡ x) ⊎ IsEnd n rows lefts r
stretch_at n rows lefts x roof r last = ⊎_elim (λ e. inl e) (λ w. inr (w.0, w.1, w.2, w.3)) last.one

module _ (n rows : ℕ) (lefts rights : List ℕ) (table : Rows) (order : List ℕ) (ready : Ready n rows lefts rights table order) where
  -- an empty interval lacks every instant
  pub out_empty : (x k : ℕ) → k < n → T (outside lefts rights x k)
  out_empty x k h = go (dec_lt x (get_or lefts k 0))
    where
      go : Dec (x < get_or lefts k 0) → T (outside lefts rights x k)
      go (yes a) = out_left lefts rights x k a
      go (no a) = out_right lefts rights x k (omega (arith, ready.empty k h))

  -- row k is in the order
  pub in_order : (k : ℕ) → k < rows → In k (take rows order)
  in_order k h =
      let r = any_out (λ x. eqb k x) (take rows order) (ready.present k h) in rw (eqb→eq k r.0 r.2) r.1

  pub end_below : (x : ℕ) → IsEnd n rows lefts x → x < no_end
  end_below x e = omega (arith, e.3, ready.below e.0 e.2)

  -- ---- the next stretch: from the next end on, to x

  module _ (floor from : ℕ) (next : Next lefts n rows floor from) where
    -- an end below the next one is below the floor
    pub under_floor : (k : ℕ) → n ≤ k → k < rows → get_or lefts k 0 < from → get_or lefts k 0 < floor
    under_floor k a b c = go (dec_lt (get_or lefts k 0) floor)
      where
        go : Dec (get_or lefts k 0 < floor) → get_or lefts k 0 < floor
        go (yes l) = l
        go (no l) = absurd (omega (arith, next.least k a b (omega arith)))

    module _ (some : from ≡ no_end → ⊥) (x : ℕ) (stretch : Unbroken n rows rights from x) (at : (x ≡ from) ⊎ IsEnd n rows lefts x) where
      from_end : IsEnd n rows lefts from
      from_end = ⊎_elim (λ e. absurd (some e)) (λ w. (w.0, w.1, w.2, w.3)) next.one

      pub stretch-is_end : IsEnd n rows lefts x
      stretch-is_end = ⊎_elim (λ e. subst (λ (y : ℕ). IsEnd n rows lefts y) (sym e) from_end) (λ w. w) at

      pub stretches_room : (x < no_end) × (floor ≤ x)
      stretches_room = (end_below x stretch-is_end, ⊎_elim (λ e. absurd (some e)) (λ w. omega (arith, w.4, stretch.rising)) next.one)

  module _ (limit free : ℕ) where
    abbrev pub Explains : ℕ → ℕ → Type 0
    Explains x u = Fits limit 0 free (needs rows lefts rights table order x) u

    -- what makes true what x needs does so for y, if y needs no more than that and what is true anyhow
    fits-fewer : (x y u : ℕ)
        → ((k : ℕ) → k < rows → T (outside lefts rights y k) → T (outside lefts rights x k) ⊎ T (holds u (row_terms table k)))
        → Explains x u → Explains y u
    unfolding needs
    fits-fewer x y u more f =
        record {
          above = f.above;
          within = f.within;
          few = f.few;
          holding = all_in (holds u) (needs rows lefts rights table order y) (λ p m.
              go p (map_out (row_terms table) (filter (outside lefts rights y) (take rows order)) p m));
        }
      where
        go : (p : List ℕ) → (k : ℕ) × In k (filter (outside lefts rights y) (take rows order)) × (p ≡ row_terms table k) → T (holds u p)
        go p w =
            let k = w.0 in
            let there = keep_out (outside lefts rights y) (take rows order) k w.1 in
            let j = in_take rows order k there.0 in
            let row : k < rows = omega (arith, j.2, ready.placed j.0 j.1) in
            rw w.2
            (⊎_elim
            (λ o. all_out (holds u) (needs rows lefts rights table order x) f.holding (row_terms table k)
            (map_in (row_terms table) (filter (outside lefts rights x) (take rows order)) k (keep_in (outside lefts rights x) (take rows order) k there.0 o)))
            (λ h. h) (more k row there.1))

    -- what makes all predicates true explains every instant
    pub all_explains : (x u : ℕ) → Fits limit 0 free (preds rows order table) u → Explains x u
    unfolding needs preds pred_at
    all_explains x u f =
        record {
          above = f.above;
          within = f.within;
          few = f.few;
          holding = all_in (holds u) (needs rows lefts rights table order x) (λ p m.
              go p (map_out (row_terms table) (filter (outside lefts rights x) (take rows order)) p m));
        }
      where
        terms : ℕ → List ℕ
        terms j = row_terms table (get_or order j 0)

        go : (p : List ℕ) → (k : ℕ) × In k (filter (outside lefts rights x) (take rows order)) × (p ≡ row_terms table k) → T (holds u p)
        go p w =
            let there = keep_out (outside lefts rights x) (take rows order) w.0 w.1 in
            let j = in_take rows order w.0 there.0 in
            let at : get_or (tab rows terms) j.0 [] ≡ p = get_or-tab rows j.0 terms [] j.1 ∙ ap (row_terms table) (sym j.2) ∙ sym w.2 in
            rw at at (all_out (holds u) (tab rows terms) f.holding _ (at_in (tab rows terms) [] j.0 (rw length-tab j.1)))

    -- ---- the last end of a stretch

    module _ (x y : ℕ) (stretch : Unbroken n rows rights x y) where
      pub stretch-needs : (z u : ℕ) → x ≤ z → z ≤ y → Explains z u → Explains y u
      stretch-needs z u a b = fits-fewer z y u (λ k h o. inl (go k h (out_cases lefts rights y k o) (dec_lt k n)))
        where
          go : (k : ℕ) → k < rows → (y < get_or lefts k 0) ⊎ (get_or rights k 0 < y) → Dec (k < n) → T (outside lefts rights z k)
          go k h w (yes c) = out_empty z k c
          go k h (inl w) (no c) = out_left lefts rights z k (omega arith)
          go k h (inr w) (no c) = out_right lefts rights z k (omega (arith, stretch.clear k (omega arith) h w))

      -- with no set for the last end, there is none for any of the stretch
      pub stretch-fails : Unexplained n rows lefts rights table order limit free x → ((u : ℕ) → Explains y u → ⊥)
          → Unexplained n rows lefts rights table order limit free (y + 1)
      stretch-fails before fails k a b c u f = go (dec_lt (get_or lefts k 0) x)
        where
          go : Dec (get_or lefts k 0 < x) → ⊥
          go (yes l) = before k a b l u f
          go (no l) = fails u (stretch-needs (get_or lefts k 0) u (omega arith) (omega arith) f)

      pub stretch_part : (z : ℕ) → x ≤ z → z ≤ y → Unbroken n rows rights x z
      stretch_part z a b = record { rising = a; clear = λ k c d e. stretch.clear k c d (omega arith) }

    module _ (small : free < no_set) where
      -- a set that explains an instant is one
      pub explains_below : (x u : ℕ) → Explains x u → u < no_set
      explains_below x u f = omega (arith, subset_le u (set_union 0 free) f.within, union_add 0 free)

      -- a search that found no set
      pub no_set_lem : (x r : ℕ) → Best no_set limit 0 free (needs rows lefts rights table order x) no_set r → no_set ≤ r
          → (u : ℕ) → Explains x u → ⊥
      no_set_lem x r b h u g =
          let low = explains_below x u g in
          ⊎_elim (λ e. absurd (omega arith)) (λ e. absurd (omega arith)) (b.least u g)

      -- ---- one stretch after the other

      module _ (floor from : ℕ) (before : Unexplained n rows lefts rights table order limit free floor) (next : Next lefts n rows floor from) where
        passed : Unexplained n rows lefts rights table order limit free from
        passed k a b c = before k a b (under_floor floor from next k a b c)

        pub stretches_none : from ≡ no_end → FirstStretch n rows lefts rights table order limit free 0 0 no_set
        stretches_none e =
            record {
              stretch = λ h. absurd (omega arith);
              begins = λ h. absurd (omega arith);
              reached = λ h. absurd (omega arith);
              earlier = λ h. absurd (omega arith);
              never = λ _. rw e at passed;
            }

        module _ (some : from ≡ no_end → ⊥) (x : ℕ) (stretch : Unbroken n rows rights from x) (at : (x ≡ from) ⊎ IsEnd n rows lefts x) where
          pub stretches_found : (r : ℕ) → Best no_set limit 0 free (needs rows lefts rights table order x) no_set r → r < no_set
              → FirstStretch n rows lefts rights table order limit free from x r
          stretches_found r b l =
              record {
                stretch = λ _. stretch;
                begins = λ _. from_end floor from next some x stretch at;
                reached = λ _. (stretch-is_end floor from next some x stretch at, ⊎_elim (λ e. absurd (omega arith)) (λ f. f) b.from);
                earlier = λ _. passed;
                never = λ h. absurd (omega arith);
              }

          pub stretches_next : Best no_set limit 0 free (needs rows lefts rights table order x) no_set no_set
              → Unexplained n rows lefts rights table order limit free (x + 1)
          stretches_next b = stretch-fails from x stretch passed (no_set_lem x no_set b (omega arith))

    pub no_first : (from end set : ℕ) → FirstStretch n rows lefts rights table order limit free from end set → no_set ≤ set
        → FirstEnd n rows lefts rights table order limit free 0 no_set
    no_first from end set first h =
        record { found = λ l. absurd (omega arith); others = λ k a b c. first.never h k a b (ready.below k b) }

    -- ---- from an end that a set explains to the first that it does

    needed_true : (x u k : ℕ) → Explains x u → k < rows → T (outside lefts rights x k) → T (holds u (row_terms table k))
    unfolding needs
    needed_true x u k f h o =
        all_out (holds u) (needs rows lefts rights table order x) f.holding (row_terms table k)
        (map_in (row_terms table) (filter (outside lefts rights x) (take rows order)) k (keep_in (outside lefts rights x) (take rows order) k (in_order k h) o))

    module _ (x u l e : ℕ) (f : Explains x u) (end : IsEnd n rows lefts x) (latest : Latest n rows lefts table u l)
        (next : Next lefts n rows l e) where
      latest_le : l ≤ x
      latest_le = ⊎_elim (λ z. omega arith) (λ w. go w (dec_le (get_or lefts w.0 0) x)) latest.one
        where
          go : (w : (k : ℕ) × (n ≤ k) × (k < rows) × (l ≡ get_or lefts k 0) × T (not (holds u (row_terms table k))))
              → Dec (get_or lefts w.0 0 ≤ x) → l ≤ x
          go w (yes h) = omega (arith, w.3)
          go w (no h) =
              absurd (T_not (holds u (row_terms table w.0)) w.4
              (needed_true x u w.0 f w.2 (out_left lefts rights x w.0 (omega arith))))

      pub back_le : e ≤ x
      back_le = omega (arith, end.3, latest_le, next.least end.0 end.1 end.2 (omega (arith, end.3, latest_le)))

      pub back_end : IsEnd n rows lefts e
      back_end = ⊎_elim (λ q. absurd (omega (arith, back_le, end_below x end))) (λ w. (w.0, w.1, w.2, w.3)) next.one

      pub back_explains : Explains e u
      back_explains = fits-fewer x e u (λ k h o. go k h (out_cases lefts rights e k o) (dec_lt k n)) f
        where
          far : l ≤ e
          far = ⊎_elim (λ q. absurd (omega (arith, back_le, end_below x end))) (λ w. w.4) next.one

          go : (k : ℕ) → k < rows → (e < get_or lefts k 0) ⊎ (get_or rights k 0 < e) → Dec (k < n)
              → T (outside lefts rights x k) ⊎ T (holds u (row_terms table k))
          go k h w (yes c) = inl (out_empty x k c)
          go k h (inl w) (no c) = ⊎_elim (λ m. absurd (omega (arith, far))) (λ t. inr t) (latest.most k (omega arith) h)
          go k h (inr w) (no c) = inl (out_right lefts rights x k (omega (arith, back_le)))

    module _ (small : free < no_set) (from found by : ℕ) (first : FirstStretch n rows lefts rights table order limit free from found by)
        (some : by < no_set) (end set : ℕ) (is-end : IsEnd n rows lefts end) (f : Explains end set) where
      -- no end before this one is explained
      back_first : Unexplained n rows lefts rights table order limit free end → FirstEnd n rows lefts rights table order limit free end set
      back_first before =
          let low = explains_below small end set f in
          record {
            found = λ _. (is-end.0, is-end.1, is-end.2, is-end.3, f);
            others = λ k a b c. before k a b (⊎_elim (λ z. absurd (omega arith)) (λ l. l) c);
          }

      -- the stretch has none before it
      pub back_done : end ≤ from → FirstEnd n rows lefts rights table order limit free end set
      back_done h = back_first (λ k a b c. first.earlier some k a b (omega arith))

      module _ (over : from < end) (high : end ≤ found) (x : ℕ) (last : Last lefts n rows from (end - 1) x) where
        pub last-is_end : IsEnd n rows lefts x
        last-is_end = ⊎_elim (λ e. subst (λ (y : ℕ). IsEnd n rows lefts y) (sym e) (first.begins some)) (λ w. (w.0, w.1, w.2, w.3)) last.one

        pub last_lt : x < end
        last_lt = ⊎_elim (λ e. omega arith) (λ w. omega (arith, w.4)) last.one

        -- nor is the one before it in the stretch
        pub back_stop : (r : ℕ) → Best no_set limit 0 free (needs rows lefts rights table order x) no_set r → no_set ≤ r
            → FirstEnd n rows lefts rights table order limit free end set
        back_stop r b h =
            back_first (λ k a c d. stretch-fails from x (stretch_part from found (first.stretch some) x last.over (omega (arith, last_lt)))
            (first.earlier some) (no_set_lem small x r b h) k a c (omega (arith, last.most k a c (omega arith))))

-- no left end behind it belongs to the stretch: a right end would stand between
pub stretch-last : (n rows : ℕ) (lefts rights : List ℕ) (x roof r : ℕ) → Next rights n rows x roof → Last lefts n rows x roof r
    → ((k : ℕ) → k < rows → get_or lefts k 0 < no_end) → (y : ℕ) → IsEnd n rows lefts y → Unbroken n rows rights x y → y ≤ r
stretch-last n rows lefts rights x roof r next last fits y (k, a, b, e) u = omega (arith, last.most k a b (omega (arith, e, under next.one)))
  where
    under : (roof ≡ no_end) ⊎ ((j : ℕ) × (n ≤ j) × (j < rows) × (roof ≡ get_or rights j 0) × (x ≤ roof)) → y ≤ roof
    under (inl z) = omega (arith, e, fits k b)
    under (inr w) = go (dec_lt roof y)
      where
        go : Dec (roof < y) → y ≤ roof
        go (no l) = omega arith
        go (yes l) = absurd (omega (arith, u.clear w.0 w.1 w.2 (omega (arith, w.3)), w.3, w.4))

-- where a set is sure to be found, there is an end
pub first_some : (t : Table) (limit free : ℕ) (o : Option Reached) → FirstIn t limit free o
    → ((end set : ℕ) → FirstEnd t.entries (length t.rows.now) (lefts_of t.ends.now) (rights_of t.ends.now) t.rows.now t.order.now limit free end set
    → set < no_set) → IsSome o
first_some t limit free None w f = absurd (omega (arith, f 0 no_set w))
first_some t limit free (Some r) w f = refl
