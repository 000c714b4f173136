-- The least set of all, stretch by stretch.
-- The idea: a search keeps the least of the sets tried so far; the last end of a stretch needs the fewest predicates, so with all stretches tried the
-- least set of every end is found. No contract cites this file. Assumes nothing.
use Prim.Native.Nat.{ℕ, ◌+◌, ◌≤◌, ◌<◌}
use mathlib.Core.Path.{◌≡◌, refl, sym, ap, subst, ◌∙◌}
use mathlib.Core.Logic.{◌⊎◌, inl, inr, ⊎_elim}
use mathlib.Core.List.{List, [], map}
use native.Mathlib.Nat.{le_trans}
use native.Mathlib.Decide.{dec_lt}
use native.Mathlib.Omega.{arith}
use lib.Dec.{T, ltb, ltb→lt}
use lib.ListN.{get_or, take}
use Rattle.numbers.specs.Numbers.{tab}
use Rattle.numbers.proofs.NumberLaws.{length-tab, get_or-tab}
use Rattle.std.specs.List.{filter}
use Rattle.predicates.specs.Lists.{In}
use Rattle.predicates.specs.Predicates.{holds}
use Rattle.predicates.proofs.ListLaws.{all_in, all_out, keep_in, keep_out, map_in, map_out}
use Rattle.search.specs.code.Search.{Rows, Fits, Best, RowsFit, row_terms, pred_at, preds}
use Rattle.names.specs.Sets.{no_set}
use Rattle.search.specs.code.LeftEnds.{outside, no_end, Next, IsEnd, Unbroken, Ready, LeastSet, needs}
use Rattle.predicates.proofs.IndexLaws.{in_take, at_in}
use Rattle.search.proofs.StretchLaws.{in_order, out_empty, under_floor, stretch-is_end, stretches_room, stretch-needs, all_explains}

-- r is the least of the sets W, or no set
pub record LeastOf (W : ℕ → Type 0) (r : ℕ) : Type 0 where
  pub from : (r ≡ no_set) ⊎ W r
  pub low : r ≤ no_set
  pub least : (u : ℕ) → W u → r ≤ u

-- ---- stretch by stretch

module _ (n rows : ℕ) (lefts rights : List ℕ) (table : Rows) (order : List ℕ) (limit free : ℕ) where
  abbrev Explains : ℕ → ℕ → Type 0
  Explains x u = Fits limit 0 free (needs rows lefts rights table order x) u

  -- u makes the predicates true that a left end below the floor needs
  abbrev pub Passed : ℕ → ℕ → Type 0
  Passed floor u = (k : ℕ) × (n ≤ k) × (k < rows) × (get_or lefts k 0 < floor) × Explains (get_or lefts k 0) u

  pub least-begin : LeastOf (Passed 0) no_set
  least-begin = record { from = inl refl; low = omega arith; least = λ u p. absurd (omega (arith, p.3)) }

  module _ (ready : Ready n rows lefts rights table order) (floor from best : ℕ) (w : LeastOf (Passed floor) best)
      (next : Next lefts n rows floor from) where
    module _ (some : from ≡ no_end → ⊥) (x : ℕ) (stretch : Unbroken n rows rights from x) (at : (x ≡ from) ⊎ IsEnd n rows lefts x) (r : ℕ)
        (b : Best 0 limit 0 free (needs rows lefts rights table order x) best r) where
      end : IsEnd n rows lefts x
      end = stretch-is_end n rows lefts rights table order ready floor from next some x stretch at

      room : (x < no_end) × (floor ≤ x)
      room = stretches_room n rows lefts rights table order ready floor from next some x stretch at

      pub least_next : LeastOf (Passed (x + 1)) r
      least_next =
          record {
            from = ⊎_elim
                (λ (e : r ≡ best). ⊎_elim (λ d. inl (e ∙ d)) (λ p. inr (subst (λ (y : ℕ). Passed (x + 1) y) (sym e) (wider best p))) w.from)
                (λ f. inr (end.0, end.1, end.2, omega (arith, end.3), subst (λ (y : ℕ). Explains y r) end.3 f))
                b.from;
            low = le_trans b.low w.low;
            least = λ u p. go u p (dec_lt (get_or lefts p.0 0) from);
          }
        where
          wider : (u : ℕ) → Passed floor u → Passed (x + 1) u
          wider u p = (p.0, p.1, p.2, omega (arith, p.3, room.1), p.4)

          go : (u : ℕ) (p : Passed (x + 1) u) → Dec (get_or lefts p.0 0 < from) → r ≤ u
          go u p (yes l) = le_trans b.low (w.least u (p.0, p.1, p.2, under_floor n rows lefts rights table order ready floor from next p.0 p.1 p.2 l, p.4))
          go u p (no l) =
              ⊎_elim (λ h. h) (λ h. absurd (omega arith))
              (b.least u (stretch-needs n rows lefts rights table order ready limit free from x stretch (get_or lefts p.0 0) u (omega arith) (omega (arith, p.3)) p.4))

    -- no end is left
    pub least_in : from ≡ no_end → (n ≡ rows → ⊥) → LeastSet n rows lefts rights table order limit free best
    least_in e some =
        record {
          from = ⊎_elim (λ q. inl q) (λ p. inr (inr (p.0, p.1, p.2, p.4))) w.from;
          low = w.low;
          all = λ u f. each n (omega arith) here u (all_explains n rows lefts rights table order ready limit free (get_or lefts n 0) u f);
          each = each;
        }
      where
        here : n < rows
        here = go some ready.entries_le
          where
            go : (n ≡ rows → ⊥) → n ≤ rows → n < rows
            go f l = omega arith

        each : (k : ℕ) → n ≤ k → k < rows → (u : ℕ) → Explains (get_or lefts k 0) u → best ≤ u
        each k a l u f = w.least u (k, a, l, under_floor n rows lefts rights table order ready floor from next k a l (omega (arith, ready.below k l)), f)

  -- there is no end at all
  pub least-alone : n ≡ rows → (r : ℕ) → Best 0 limit 0 free (preds rows order table) no_set r
      → LeastSet n rows lefts rights table order limit free r
  least-alone e r b =
      record {
        from = ⊎_elim (λ q. inl q) (λ f. inr (inl f)) b.from;
        low = b.low;
        all = λ u f. ⊎_elim (λ l. l) (λ l. absurd (omega arith)) (b.least u f);
        each = λ k a l. absurd (omega arith);
      }

  -- no set makes the entries true, which every end needs
  module _ (ready : Ready n rows lefts rights table order) (r : ℕ)
      (b : Best no_set limit 0 free (map (row_terms table) (filter (λ k. ltb k n) (take rows order))) no_set r) (h : no_set ≤ r) where
    entries-first : (ps : List (List ℕ)) → ((k : ℕ) → k < rows → k < n → In (row_terms table k) ps) → (u : ℕ) → Fits limit 0 free ps u → no_set ≤ u
    entries-first ps there u f =
        ⊎_elim (λ l. le_trans h l) (λ l. absurd (omega arith))
        (b.least u (record {
          above = f.above;
          within = f.within;
          few = f.few;
          holding = all_in (holds u) (map (row_terms table) (filter (λ k. ltb k n) (take rows order))) (λ p m.
              go p (map_out (row_terms table) (filter (λ k. ltb k n) (take rows order)) p m));
        }))
      where
        go : (p : List ℕ) → (k : ℕ) × In k (filter (λ i. ltb i n) (take rows order)) × (p ≡ row_terms table k) → T (holds u p)
        go p w =
            let v = keep_out (λ (i : ℕ). ltb i n) (take rows order) w.0 w.1 in
            let j = in_take rows order w.0 v.0 in
            let row : w.0 < rows = omega (arith, j.2, ready.placed j.0 j.1) in
            rw w.2 (all_out (holds u) ps f.holding _ (there w.0 row (ltb→lt w.0 n v.1)))

    pub least_unknown : LeastSet n rows lefts rights table order limit free no_set
    unfolding needs preds pred_at
    least_unknown =
        record {
          from = inl refl;
          low = omega arith;
          all = entries-first (preds rows order table) (λ k l e.
              let j = in_take rows order k (in_order n rows lefts rights table order ready k l) in
              let terms : ℕ → List ℕ = λ i. row_terms table (get_or order i 0) in
              let at : get_or (tab rows terms) j.0 [] ≡ row_terms table k = get_or-tab rows j.0 terms [] j.1 ∙ ap (row_terms table) (sym j.2) in
              rw at at (at_in (tab rows terms) [] j.0 (rw length-tab j.1)));
          each = λ i a c. entries-first (needs rows lefts rights table order (get_or lefts i 0)) (λ k l e.
              map_in (row_terms table) (filter (outside lefts rights (get_or lefts i 0)) (take rows order)) k
              (keep_in (outside lefts rights (get_or lefts i 0)) (take rows order) k (in_order n rows lefts rights table order ready k l)
              (out_empty n rows lefts rights table order ready (get_or lefts i 0) k e)));
        }

  -- u makes all predicates true, or those that a left end needs
  abbrev pub Tried : ℕ → Type 0
  Tried u =
      Fits limit 0 free (preds rows order table) u ⊎ ((k : ℕ) × (n ≤ k) × (k < rows) × Explains (get_or lefts k 0) u)

  pub least_out : (r : ℕ) → LeastSet n rows lefts rights table order limit free r → LeastOf Tried r
  least_out r w =
      record { from = w.from; low = w.low; least = λ u. ⊎_elim (w.all u) (λ t. w.each t.0 t.1 t.2 u t.3) }

-- the order read as rows
pub ready_rows : {n rows : ℕ} {lefts rights : List ℕ} {table : Rows} {order : List ℕ} → Ready n rows lefts rights table order → RowsFit rows order table
ready_rows {order = order} ready =
    record {
      listed-long = ready.ordered;
      parted = λ j h. ready.parted (get_or order j 0) (ready.placed j h);
    }
