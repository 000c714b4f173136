-- One turn of each loop over the ends, and what the listed rows are to the search. No contract cites this file. Assumes nothing.
use Prim.Native.Nat.{ℕ, zero, suc, ◌+◌, ◌≤◌, ◌<◌}
use mathlib.Core.Path.{◌≡◌, refl, sym, ap, subst, ◌∙◌}
use mathlib.Core.Logic.{◌⊎◌, inl, inr, ⊎_elim}
use mathlib.Core.Bool.{Bool, true, false, ◌&&◌, ◌||◌, not, cond}
use mathlib.Core.List.{List, [], ◌∷◌, map}
use native.Mathlib.Nat.{le_refl, le_trans}
use native.Mathlib.Decide.{dec_le, dec_lt}
use native.Mathlib.Omega.{arith}
use borrow.Author.Tests.{le-leb, lt-leb, le-ltb, lt-ltb}
use lib.Dec.{T, eqb, leb, ltb, leb→le, ltb→lt, nltb→le}
use lib.ListN.{length, get_or, take, drop, set, length-append, length-set, length-map}
use lib.Count.{ones}
use lib.Seq.{length-take-le, take-length, get_or-take}
use Rattle.names.specs.Sets.{subset, set_union, no_set, minus}
use Rattle.names.proofs.SetLaws.{ones-empty}
use Rattle.numbers.specs.Numbers.{put, tab}
use Rattle.numbers.proofs.NumberLaws.{put_then, take_put, length-tab, get_or-tab, tab_ext}
use Rattle.std.specs.List.{filter}
use Rattle.predicates.specs.Predicates.{holds}
use Rattle.predicates.proofs.ListLaws.{both, both_l, both_r, true_T, split, keep_out}
use Rattle.search.specs.code.Search.{Rows, Best, Trying, RowsFit, row_terms, pred_at, preds}
use Rattle.search.specs.declared.rows.Span.{Span}
use Rattle.search.specs.code.LeftEnds.{outside, lefts_of, rights_of, no_end, Next, Last, Latest, Listing, Ready, needs}
use Rattle.search.proofs.SearchLaws.{best-done}
use Rattle.search.proofs.SearchSteps.{rest_next, trying_on}
use Rattle.predicates.proofs.IndexLaws.{at_in, get_or_map, kept_pass, kept-take, in_take}

-- ---- the ends of claims

pub left_at : (ends : List Span) (k : ℕ) → get_or (lefts_of ends) k 0 ≡ (get_or ends k (record { left = 0; right = 0 })).left
left_at [] k = refl
left_at (s ∷ ends) zero = refl
left_at (s ∷ ends) (suc k) = left_at ends k

pub right_at : (ends : List Span) (k : ℕ) → get_or (rights_of ends) k 0 ≡ (get_or ends k (record { left = 0; right = 0 })).right
right_at [] k = refl
right_at (s ∷ ends) zero = refl
right_at (s ∷ ends) (suc k) = right_at ends k

-- ---- the next end

pub next_none : (ends : List ℕ) (from floor : ℕ) → Next ends from from floor no_end
next_none ends from floor = record { one = inl refl; least = λ k a b. absurd (omega arith) }

module _ (ends : List ℕ) (from i floor r : ℕ) (h : from ≤ i) (n : Next ends from i floor r) where
  pub next_take : leb floor (get_or ends i 0) && ltb (get_or ends i 0) r ≡ true → Next ends from (i + 1) floor (get_or ends i 0)
  next_take e =
      let t = true_T _ e in
      let low = leb→le floor (get_or ends i 0) (both_l (leb floor (get_or ends i 0)) (ltb (get_or ends i 0) r) t) in
      record {
        one = inr (i, h, omega arith, refl, low);
        least = λ k a b c. go k a b c (dec_lt k i);
      }
    where
      go : (k : ℕ) → from ≤ k → k < i + 1 → floor ≤ get_or ends k 0 → Dec (k < i) → get_or ends i 0 ≤ get_or ends k 0
      go k a b c (yes l) = le_trans (le_of (ltb→lt (get_or ends i 0) r (both_r (leb floor (get_or ends i 0)) (ltb (get_or ends i 0) r) (true_T _ e)))) (n.least k a l c)
        where
          le_of : {x y : ℕ} → x < y → x ≤ y
          le_of q = omega arith
      go k a b c (no l) =
          let q : k ≡ i = omega arith in subst (λ (x : ℕ). get_or ends i 0 ≤ get_or ends x 0) (sym q) (le_refl (get_or ends i 0))

  pub next_pass : leb floor (get_or ends i 0) && ltb (get_or ends i 0) r ≡ false → Next ends from (i + 1) floor r
  next_pass e =
      record {
        one = ⊎_elim (λ q. inl q) (λ w. inr (w.0, w.1, omega (arith, w.2), w.3, w.4)) n.one;
        least = λ k a b c. go k a b c (dec_lt k i);
      }
    where
      at : floor ≤ get_or ends i 0 → T (ltb (get_or ends i 0) r) ⊎ T (not (ltb (get_or ends i 0) r)) → r ≤ get_or ends i 0
      at c (inl t) =
          absurd (subst (λ (b : Bool). T b) e
          (both (leb floor (get_or ends i 0)) (ltb (get_or ends i 0) r) (true_T _ (le-leb floor (get_or ends i 0) c)) t))
      at c (inr t) = nltb→le (get_or ends i 0) r t

      go : (k : ℕ) → from ≤ k → k < i + 1 → floor ≤ get_or ends k 0 → Dec (k < i) → r ≤ get_or ends k 0
      go k a b c (yes l) = n.least k a l c
      go k a b c (no l) =
          let q : k ≡ i = omega arith in
          subst (λ (x : ℕ). floor ≤ get_or ends x 0 → r ≤ get_or ends x 0) (sym q) (λ d. at d (split (ltb (get_or ends i 0) r))) c

  -- the same of an end that stands there
  module _ (end : ℕ) (at : end ≡ get_or ends i 0) where
    pub next-took : leb floor end && ltb end r ≡ true → Next ends from (i + 1) floor end
    next-took e = rw at (next_take (rw at at e))

    pub next-passed : leb floor end && ltb end r ≡ false → Next ends from (i + 1) floor r
    next-passed e = next_pass (rw at at e)

-- ---- the last end

pub last_none : (ends : List ℕ) (from floor roof : ℕ) → Last ends from from floor roof floor
last_none ends from floor roof = record { one = inl refl; over = le_refl floor; most = λ k a b. absurd (omega arith) }

module _ (ends : List ℕ) (from i floor roof r : ℕ) (h : from ≤ i) (l : Last ends from i floor roof r) where
  abbrev end : ℕ
  end = get_or ends i 0

  -- with the end in place i, the greatest is `x`
  grown : (x : ℕ) → r ≤ x → (end ≤ roof → end ≤ x) → (k : ℕ) → from ≤ k → k < i + 1 → get_or ends k 0 ≤ roof → get_or ends k 0 ≤ x
  grown x p q k a b c = go (dec_lt k i)
    where
      go : Dec (k < i) → get_or ends k 0 ≤ x
      go (yes d) = le_trans (l.most k a d c) p
      go (no d) = let e : k ≡ i = omega arith in subst (λ (y : ℕ). get_or ends y 0 ≤ roof → get_or ends y 0 ≤ x) (sym e) q c

  pub last-take : ltb r end && leb end roof ≡ true → Last ends from (i + 1) floor roof end
  last-take e =
      let t = true_T _ e in
      let up = ltb→lt r end (both_l (ltb r end) (leb end roof) t) in
      record {
        one = inr (i, h, omega arith, refl, leb→le end roof (both_r (ltb r end) (leb end roof) t));
        over = omega (arith, l.over);
        most = grown end (omega arith) (λ _. le_refl end);
      }

  pub last_pass : ltb r end && leb end roof ≡ false → Last ends from (i + 1) floor roof r
  last_pass e =
      record {
        one = ⊎_elim (λ q. inl q) (λ w. inr (w.0, w.1, omega (arith, w.2), w.3, w.4)) l.one;
        over = l.over;
        most = grown r (le_refl r) (λ c. at c (split (ltb r end)));
      }
    where
      at : end ≤ roof → T (ltb r end) ⊎ T (not (ltb r end)) → end ≤ r
      at c (inl t) = absurd (subst (λ (b : Bool). T b) e (both (ltb r end) (leb end roof) t (true_T _ (le-leb end roof c))))
      at c (inr t) = nltb→le r end t

  -- the same of an end that stands there
  module _ (e : ℕ) (at : e ≡ end) where
    pub last-took : ltb r e && leb e roof ≡ true → Last ends from (i + 1) floor roof e
    last-took t = rw at (last-take (rw at at t))

    pub last-passed : ltb r e && leb e roof ≡ false → Last ends from (i + 1) floor roof r
    last-passed t = last_pass (rw at at t)

-- ---- the latest left end that a set leaves false

pub latest-none : (n : ℕ) (lefts : List ℕ) (table : Rows) (set : ℕ) → Latest n n lefts table set 0
latest-none n lefts table set = record { one = inl refl; most = λ k a b. absurd (omega arith) }

module _ (n i : ℕ) (lefts : List ℕ) (table : Rows) (set r : ℕ) (h : n ≤ i) (l : Latest n i lefts table set r) where
  -- with row i, the latest is `x`
  later : (x : ℕ) → r ≤ x → (get_or lefts i 0 ≤ x) ⊎ T (holds set (row_terms table i)) → (k : ℕ) → n ≤ k → k < i + 1
      → (get_or lefts k 0 ≤ x) ⊎ T (holds set (row_terms table k))
  later x p q k a b = go (dec_lt k i)
    where
      go : Dec (k < i) → (get_or lefts k 0 ≤ x) ⊎ T (holds set (row_terms table k))
      go (yes d) = ⊎_elim (λ e. inl (le_trans e p)) (λ t. inr t) (l.most k a d)
      go (no d) =
          let e : k ≡ i = omega arith in
          subst (λ (j : ℕ). (get_or lefts j 0 ≤ x) ⊎ T (holds set (row_terms table j))) (sym e) q

  pub latest-take : r < get_or lefts i 0 → T (not (holds set (row_terms table i))) → Latest n (i + 1) lefts table set (get_or lefts i 0)
  latest-take up t =
      record { one = inr (i, h, omega arith, refl, t); most = later (get_or lefts i 0) (omega arith) (inl (le_refl (get_or lefts i 0))) }

  pub latest_pass : (get_or lefts i 0 ≤ r) ⊎ T (holds set (row_terms table i)) → Latest n (i + 1) lefts table set r
  latest_pass q =
      record {
        one = ⊎_elim (λ z. inl z) (λ w. inr (w.0, w.1, omega (arith, w.2), w.3, w.4)) l.one;
        most = later r (le_refl r) q;
      }

  -- the same of an end that stands there
  module _ (e : ℕ) (at : e ≡ get_or lefts i 0) where
    pub latest-took : r < e → T (not (holds set (row_terms table i))) → Latest n (i + 1) lefts table set e
    latest-took up t = rw at (latest-take (rw at at up) t)

    pub latest-passed : (e ≤ r) ⊎ T (holds set (row_terms table i)) → Latest n (i + 1) lefts table set r
    latest-passed q = latest_pass (rw at at q)

-- ---- the rows whose interval lacks an instant

pub outside-test : (lefts rights : List ℕ) (x k : ℕ) → ltb x (get_or lefts k 0) || ltb (get_or rights k 0) x ≡ outside lefts rights x k
unfolding outside
outside-test lefts rights x k = go (dec_le (get_or lefts k 0) x) (dec_le x (get_or rights k 0))
  where
    go : Dec (get_or lefts k 0 ≤ x) → Dec (x ≤ get_or rights k 0)
        → ltb x (get_or lefts k 0) || ltb (get_or rights k 0) x ≡ not (leb (get_or lefts k 0) x && leb x (get_or rights k 0))
    go (yes a) (yes b) = rw (le-ltb x (get_or lefts k 0) a, le-ltb (get_or rights k 0) x b, le-leb (get_or lefts k 0) x a, le-leb x (get_or rights k 0) b)
    go (yes a) (no b) =
        rw (le-ltb x (get_or lefts k 0) a, lt-ltb (get_or rights k 0) x (omega arith), le-leb (get_or lefts k 0) x a, lt-leb x (get_or rights k 0) (omega arith))
    go (no a) d = rw (lt-ltb x (get_or lefts k 0) (omega arith), lt-leb (get_or lefts k 0) x (omega arith))

pub outside-spans : (ends : List Span) (x k : ℕ)
    → ltb x (get_or ends k (record { left = 0; right = 0 })).left || ltb (get_or ends k (record { left = 0; right = 0 })).right x
    ≡ outside (lefts_of ends) (rights_of ends) x k
outside-spans ends x k = rw (sym (left_at ends k), sym (right_at ends k)) (outside-test (lefts_of ends) (rights_of ends) x k)

module _ (f : ℕ → Bool) (order : List ℕ) where
  pub listing_none : (l : List ℕ) → Listing f order 0 l l 0
  unfolding put
  listing_none l = record { counted = refl; few = le_refl 0; same = refl; stored = refl }

  module _ (i : ℕ) (l₀ l : List ℕ) (m : ℕ) (h : i < length order) (w : Listing f order i l₀ l m) where
    pub listing_take : f (get_or order i 0) ≡ true → Listing f order (i + 1) l₀ (set l m (get_or order i 0)) (m + 1)
    unfolding put
    listing_take e =
        let more = kept-take f order i h e in
        record {
          counted = rw more (omega (arith, w.counted, length-append (filter f (take i order)) (get_or order i 0 ∷ [])));
          few = omega (arith, w.few);
          same = length-set l m (get_or order i 0) ∙ w.same;
          stored = rw more
              (put_then m 0 m (filter f (take i order)) (get_or order i 0 ∷ []) l₀ l (set l m (get_or order i 0)) (sym w.counted) (omega arith) w.stored refl);
        }

    pub listing_pass : f (get_or order i 0) ≡ false → Listing f order (i + 1) l₀ l m
    listing_pass e =
        let more = kept_pass f order i h e in
        record { counted = rw more w.counted; few = omega (arith, w.few); same = w.same; stored = rw more w.stored }

-- ---- the listed rows

-- the first of an order are listed
pub preds-front : (n : ℕ) (order : List ℕ) (table : Rows) → n ≤ length order → preds (length (take n order)) (take n order) table ≡ preds n order table
unfolding preds pred_at
preds-front n order table h =
    rw (length-take-le n order h)
    (sym (tab_ext [] n (λ j. row_terms table (get_or order j 0)) (tab n (λ j. row_terms table (get_or (take n order) j 0)))
    (length-tab n (λ j. row_terms table (get_or (take n order) j 0)))
    (λ j k. ap (row_terms table) (sym (get_or-take n order j 0 k)) ∙ sym (get_or-tab n j (λ i. row_terms table (get_or (take n order) i 0)) [] k))))

-- what passes a test
module _ (n rows : ℕ) (lefts rights : List ℕ) (table : Rows) (order l₀ l : List ℕ) (ready : Ready n rows lefts rights table order) (long : rows ≤ length l₀)
    (f : ℕ → Bool) (m : ℕ) (w : Listing f (take rows order) rows l₀ l m) where
  abbrev kept : List ℕ
  kept = filter f (take rows order)

  whole : take rows (take rows order) ≡ take rows order
  whole = ap (λ (k : ℕ). take k (take rows order)) (sym (length-take-le rows order ready.ordered)) ∙ take-length (take rows order)

  count : m ≡ length kept
  count = rw whole at w.counted

  -- the first of the listed rows
  pub kept-front : take m l ≡ kept
  kept-front =
      ap (take m) (rw whole at w.stored) ∙ take_put m kept l₀ (sym count) (le_trans w.few long)

  -- each is a row
  pub kept_row : (j : ℕ) → j < m → get_or (take m l) j 0 < rows
  kept_row j h =
      let there = keep_out f (take rows order) (get_or kept j 0) (at_in kept 0 j (omega (arith, count))) in
      let w = in_take rows order (get_or kept j 0) there.0 in
      omega (arith, ap (λ (z : List ℕ). get_or z j 0) kept-front, w.2, ready.placed w.0 w.1)

  pub kept-long : length (take m l) ≡ m
  kept-long = ap length kept-front ∙ sym count

  pub kept-rows : RowsFit (length (take m l)) (take m l) table
  kept-rows =
      record {
        listed-long = le_refl (length (take m l));
        parted = λ j h. ready.parted (get_or (take m l) j 0) (kept_row j (omega (arith, kept-long)));
      }

  pub kept-preds : preds (length (take m l)) (take m l) table ≡ map (row_terms table) (filter f (take rows order))
  unfolding preds pred_at
  kept-preds =
      ap (λ (z : List ℕ). preds (length z) z table) kept-front
      ∙ tab_ext [] (length kept) (λ j. row_terms table (get_or kept j 0)) (map (row_terms table) kept) (length-map kept (row_terms table))
      (λ j h. sym (get_or_map (row_terms table) kept 0 [] j h))

-- what lacks an instant
module _ (n rows : ℕ) (lefts rights : List ℕ) (table : Rows) (order l₀ l : List ℕ) (ready : Ready n rows lefts rights table order) (long : rows ≤ length l₀)
    (x m : ℕ) (w : Listing (outside lefts rights x) (take rows order) rows l₀ l m) where
  pub listed-row : (j : ℕ) → j < m → get_or (take m l) j 0 < rows
  listed-row = kept_row n rows lefts rights table order l₀ l ready long (outside lefts rights x) m w

  pub listed-rows : RowsFit (length (take m l)) (take m l) table
  listed-rows = kept-rows n rows lefts rights table order l₀ l ready long (outside lefts rights x) m w

  pub listed-long : length (take m l) ≡ m
  listed-long = kept-long n rows lefts rights table order l₀ l ready long (outside lefts rights x) m w

  pub listed-needs : preds (length (take m l)) (take m l) table ≡ needs rows lefts rights table order x
  unfolding needs
  listed-needs = kept-preds n rows lefts rights table order l₀ l ready long (outside lefts rights x) m w

-- ---- the terms of the first predicate, one after the other

module _ (limit free : ℕ) (whole : List (List ℕ)) where
  -- the first of the listed rows has them
  pub trying_begin : (m : ℕ) (l : List ℕ) (table : Rows) (p : List ℕ) → 0 < m → preds m l table ≡ whole → p ≡ row_terms table (get_or l 0 0)
      → Trying no_set limit 0 free whole no_set (drop 0 p) (drop 1 (preds m l table)) free no_set
  unfolding pred_at
  trying_begin m l table p h e q r b =
      subst (λ (ps : List (List ℕ)). Best no_set limit 0 free ps no_set r) (sym (rest_next m l table 0 h) ∙ e)
      (subst (λ (ts : List ℕ). Best no_set limit 0 free (ts ∷ drop 1 (preds m l table)) no_set r) q b)

  -- no set came of a term: the next one begins as it did
  pub trying_next : (p : List ℕ) (ps : List (List ℕ)) (at free' : ℕ) → Trying no_set limit 0 free whole no_set (drop at p) ps free' no_set
      → at < length p → (set : ℕ)
      → subset (get_or p at 0) (set_union 0 free') && (ltb (set_union 0 (get_or p at 0)) no_set && leb (ones (set_union 0 (get_or p at 0))) limit) ≡ true
      → Best no_set limit (set_union 0 (get_or p at 0)) free' ps no_set set → (rest : ℕ) → no_set ≤ set
      → rest ≡ cond (eqb (ones (set_union 0 (get_or p at 0))) (ones 0 + 1)) (minus free' (get_or p at 0)) free'
      → Trying no_set limit 0 free whole no_set (drop (at + 1) p) ps rest no_set
  trying_next p ps at free' w h set e b rest l q =
      let same : set ≡ no_set = omega (arith, b.low) in
      subst (λ (x : ℕ). Trying no_set limit 0 free whole no_set (drop (at + 1) p) ps rest x) same
      (trying_on no_set limit 0 free whole no_set p ps at free' no_set w h set e b rest l q)

-- no row lacks the instant: no name need have failed
pub none_needed : (limit free : ℕ) (whole : List (List ℕ)) (m : ℕ) (l : List ℕ) (table : Rows) → m ≡ 0 → preds m l table ≡ whole
    → Best no_set limit 0 free whole no_set 0
unfolding preds tab
none_needed limit free whole m l table z e =
    let empty : [] ≡ whole = rw z at e in
    subst (λ (ps : List (List ℕ)). Best no_set limit 0 free ps no_set 0) empty (best-done no_set limit 0 free no_set (omega (arith, ones-empty)))
