-- What the search over the arrays means for the store whose claims they have: the predicates that an instant needs of the arrays are true for the
-- sets for which those are true that it needs of the store; and the sets that fit are the allowed ones.
-- The idea: both sides say of every claim by its place that it is true or that the instant is in its interval. No contract cites this file.
-- Assumes nothing.
use Prim.Native.Nat.{ℕ, ◌+◌, ◌-◌, ◌≤◌, ◌<◌}
use mathlib.Core.Path.{◌≡◌, sym, ap, ◌∙◌}
use mathlib.Core.Bool.{Bool, true, false, ◌&&◌, not}
use mathlib.Core.List.{List, [], map}
use native.Mathlib.Decide.{dec_lt, dec_le}
use native.Mathlib.Omega.{arith}
use borrow.Author.Tests.{le-leb, lt-leb}
use lib.Dec.{T, not_T, leb, leb→le}
use lib.ListN.{length, get_or, take}
use Rattle.numbers.specs.Numbers.{tab}
use Rattle.numbers.proofs.NumberLaws.{length-tab, get_or-tab}
use Rattle.names.specs.Sets.{subset, set_union}
use Rattle.names.specs.code.Parts.{others}
use Rattle.names.proofs.SetLaws.{empty-subset, subset_trans, union_right, union-least, subset_refl}
use Rattle.names.proofs.PartLaws.{others_in, others_lt, others_out}
use Rattle.std.specs.List.{list_all, filter}
use Rattle.predicates.specs.Lists.{In}
use Rattle.predicates.specs.Predicates.{holds}
use Rattle.predicates.proofs.ListLaws.{both_l, both_r, all_in, all_out, keep_in, keep_out, map_in, map_out}
use Rattle.state.specs.Model.{Datum, Store}
use Rattle.state.proofs.LayoutLaws.{all-tab}
use Rattle.asking.specs.Instants.{Allowed}
use Rattle.asking.specs.code.Claims.{inside, needed_at, everything}
use Rattle.search.specs.code.Search.{Rows, Fits, RowsFit, row_terms, pred_at, preds}
use Rattle.claims.specs.code.Tables.{entry_claim, claim_at, Loaded, Bounded}
use Rattle.claims.proofs.TableLaws.{claim_entry, claim_datum}
use Rattle.search.specs.code.LeftEnds.{outside, needs, Complete}
use Rattle.asking.proofs.ClaimLaws.{claims_in, claims_out}
use Rattle.predicates.proofs.IndexLaws.{in_take, take_in, at_in, in_at}

-- ---- sets

pub fits_allowed : (limit own u : ℕ) (ps : List (List ℕ)) → Fits limit 0 (others own) ps u → Allowed limit own u
fits_allowed limit own u ps f =
    let h : T (subset u (others own)) = subset_trans u (set_union 0 (others own)) (others own) f.within (union-least 0 (others own) (others own) (empty-subset (others own)) (subset_refl (others own))) in
    record { names = others_lt own u h; few = f.few; others = others_out own u h }

pub allowed_fits : (limit own u : ℕ) (ps : List (List ℕ)) → Allowed limit own u → T (list_all (holds u) ps) → Fits limit 0 (others own) ps u
allowed_fits limit own u ps a h =
    record {
      above = empty-subset u;
      within = subset_trans u (others own) (set_union 0 (others own)) (others_in own u a.names a.others) (union_right 0 (others own));
      few = a.few;
      holding = h;
    }

-- ---- claims by their places

-- an element of a list by its place
module _ (k : Store) where
  abbrev entries : List (List ℕ)
  entries = k.entries

  -- no instant is in the interval of an entry
  entry_outside : (x : ℕ) (e : List ℕ) → T (not (inside x (entry_claim e)))
  unfolding inside
  entry_outside x e =
      not_T (leb 1 x && leb x 0) (λ t.
      absurd (omega (arith, leb→le 1 x (both_l (leb 1 x) (leb x 0) t), leb→le x 0 (both_r (leb 1 x) (leb x 0) t))))

  -- what is true of the entries is true of the claims before the held data
  module _ (f : List ℕ → Bool) where
    pub entries_at : T (list_all f entries) → (i : ℕ) → i < length entries → T (f (claim_at k i).terms)
    entries_at h i l = rw (claim_entry k i l) (all_out f entries h (get_or entries i []) (at_in entries [] i l))

    pub at_entries : ((i : ℕ) → i < length entries → T (f (claim_at k i).terms)) → T (list_all f entries)
    at_entries g =
        all_in f entries (λ e m.
        let w = in_at entries [] e m in
        let t : T (f (get_or entries w.0 [])) = rw (claim_entry k w.0 w.1) at (g w.0 w.1) in
        rw w.2 t)

  module _ (rows : ℕ) (r : rows ≡ length entries + length k.held) (f : List ℕ → Bool) where
    -- what is true of the predicates is true of the claims
    pub everything_at : T (list_all f (everything k)) → (i : ℕ) → i < rows → T (f (claim_at k i).terms)
    unfolding everything
    everything_at h i l = go (dec_lt i (length entries))
      where
        parts : T (list_all f entries) × ((d : Datum) → In d k.held → T (f d.terms))
        parts = claims_out f entries k.held h

        go : Dec (i < length entries) → T (f (claim_at k i).terms)
        go (yes a) = entries_at f parts.0 i a
        go (no a) =
            let place : i ≡ length entries + (i - length entries) = omega arith in
            let same : claim_at k i ≡ get_or k.held (i - length entries) (entry_claim []) = ap (claim_at k) place ∙ claim_datum k (i - length entries) in
            rw same (parts.1 _ (at_in k.held (entry_claim []) (i - length entries) (omega arith)))

    pub at_everything : ((i : ℕ) → i < rows → T (f (claim_at k i).terms)) → T (list_all f (everything k))
    unfolding everything
    at_everything g = claims_in f entries k.held (at_entries f (λ i l. g i (omega arith))) datum
      where
        datum : (d : Datum) → In d k.held → T (f d.terms)
        datum d m =
            let w = in_at k.held (entry_claim []) d m in
            let c : claim_at k (length entries + w.0) ≡ d = claim_datum k w.0 ∙ sym w.2 in
            rw c at (g (length entries + w.0) (omega (arith, w.1)))

  module _ (rows : ℕ) (r : rows ≡ length entries + length k.held) (u : ℕ) where
    -- u makes each claim true whose interval lacks the instant
    abbrev Each : ℕ → Type 0
    Each y = (i : ℕ) → i < rows → T (not (inside y (claim_at k i))) → T (holds u (claim_at k i).terms)

    pub needed_each : (y : ℕ) → T (list_all (holds u) (needed_at y k)) → Each y
    unfolding needed_at
    needed_each y h i l = go (dec_lt i (length entries))
      where
        parts : T (list_all (holds u) entries) × ((d : Datum) → In d (filter (λ e. not (inside y e)) k.held) → T (holds u d.terms))
        parts = claims_out (holds u) entries (filter (λ d. not (inside y d)) k.held) h

        go : Dec (i < length entries) → T (not (inside y (claim_at k i))) → T (holds u (claim_at k i).terms)
        go (yes a) = rw (claim_entry k i a) (λ _. all_out (holds u) entries parts.0 (get_or entries i []) (at_in entries [] i a))
        go (no a) =
            let place : i ≡ length entries + (i - length entries) = omega arith in
            let same : claim_at k i ≡ get_or k.held (i - length entries) (entry_claim []) = ap (claim_at k) place ∙ claim_datum k (i - length entries) in
            rw same (λ o. parts.1 _ (keep_in (λ d. not (inside y d)) k.held _ (at_in k.held (entry_claim []) (i - length entries) (omega arith)) o))

    pub each_needed : (y : ℕ) → Each y → T (list_all (holds u) (needed_at y k))
    unfolding needed_at
    each_needed y f =
        claims_in (holds u) entries (filter (λ d. not (inside y d)) k.held) (all_in (holds u) entries entry)
        (λ d m. datum d (keep_out (λ e. not (inside y e)) k.held d m))
      where
        entry : (e : List ℕ) → In e entries → T (holds u e)
        entry e m =
            let w = in_at entries [] e m in
            let c = claim_entry k w.0 w.1 in
            let t : T (not (inside y (entry_claim (get_or entries w.0 [])))) → T (holds u (get_or entries w.0 [])) = rw c at (f w.0 (omega (arith, w.1))) in
            rw w.2 (t (entry_outside y (get_or entries w.0 [])))

        datum : (d : Datum) → In d k.held × T (not (inside y d)) → T (holds u d.terms)
        datum d m =
            let w = in_at k.held (entry_claim []) d m.0 in
            let c : claim_at k (length entries + w.0) ≡ d = claim_datum k w.0 ∙ sym w.2 in
            (rw c at (f (length entries + w.0) (omega (arith, w.1)))) m.1

    pub everything-each : T (list_all (holds u) (everything k)) → (i : ℕ) → i < rows → T (holds u (claim_at k i).terms)
    everything-each = everything_at rows r (holds u)

    pub each-everything : ((i : ℕ) → i < rows → T (holds u (claim_at k i).terms)) → T (list_all (holds u) (everything k))
    each-everything = at_everything rows r (holds u)

-- ---- the arrays

module _ (k : Store) (n rows : ℕ) (table : Rows) (order : List ℕ) (loaded : Loaded k n rows table) (complete : Complete rows order) where
  abbrev terms : ℕ → List ℕ
  terms = row_terms table

  rows-count : rows ≡ length k.entries + length k.held
  rows-count = omega (arith, loaded.rows_are, loaded.entries_are)

  -- the order read as rows is as long as the search asks
  pub order-rows : RowsFit rows order table
  order-rows =
      record {
        listed-long = complete.ordered;
        parted = λ j h. loaded.parted (get_or order j 0) (complete.placed j h);
      }

  module _ (u : ℕ) where
    -- ---- every instant

    pub order-everything : T (list_all (holds u) (preds rows order table)) → T (list_all (holds u) (everything k))
    unfolding preds pred_at
    order-everything h =
        each-everything k rows rows-count u (λ i l.
        let w = complete.present i l in
        let at : get_or (tab rows (λ j. terms (get_or order j 0))) w.0 [] ≡ terms i =
        get_or-tab rows w.0 (λ j. terms (get_or order j 0)) [] w.1 ∙ ap terms (sym w.2) in
        rw (sym (loaded.means i l u))
        (rw at at (all_out (holds u) (tab rows (λ j. terms (get_or order j 0))) h _ (at_in (tab rows (λ j. terms (get_or order j 0))) [] w.0 (rw length-tab w.1)))))

    pub everything-order : T (list_all (holds u) (everything k)) → T (list_all (holds u) (preds rows order table))
    unfolding preds pred_at
    everything-order h =
        all-tab (holds u) rows (λ j. terms (get_or order j 0)) (λ j l.
        rw (loaded.means (get_or order j 0) (complete.placed j l) u) (everything-each k rows rows-count u h (get_or order j 0) (complete.placed j l)))

    -- ---- an instant: x for the arrays of ends, y for the store

    module _ (lefts rights : List ℕ) (x y : ℕ) (same : (i : ℕ) → i < rows → outside lefts rights x i ≡ not (inside y (claim_at k i))) where
      pub needs_needed : T (list_all (holds u) (needs rows lefts rights table order x)) → T (list_all (holds u) (needed_at y k))
      unfolding needs
      needs_needed h =
          each_needed k rows rows-count u y (λ i l o.
          rw (sym (loaded.means i l u))
          (all_out (holds u) (map terms (filter (outside lefts rights x) (take rows order))) h (terms i)
          (map_in terms (filter (outside lefts rights x) (take rows order)) i
          (keep_in (outside lefts rights x) (take rows order) i (take_in rows order complete.ordered (complete.present i l)) (rw (same i l) o)))))

      pub needed_needs : T (list_all (holds u) (needed_at y k)) → T (list_all (holds u) (needs rows lefts rights table order x))
      unfolding needs
      needed_needs h =
          all_in (holds u) (map terms (filter (outside lefts rights x) (take rows order))) (λ p m.
          let w = map_out terms (filter (outside lefts rights x) (take rows order)) p m in
          let v = keep_out (outside lefts rights x) (take rows order) w.0 w.1 in
          let z = in_take rows order w.0 v.0 in
          let l : w.0 < rows = rw z.2 (complete.placed z.0 z.1) in
          rw (w.2, loaded.means w.0 l u) (needed_each k rows rows-count u y h w.0 l (rw (same w.0 l) at v.1)))

-- ---- the ends

module _ (k : Store) (rows : ℕ) (lefts rights : List ℕ) (bounded : Bounded k rows lefts rights) where
  pub left-outside : (x i : ℕ) → i < rows → outside lefts rights x i ≡ not (inside x (claim_at k i))
  unfolding outside inside
  left-outside x i l = rw (bounded.left_is i l, bounded.right_is i l)

  -- as seen from the last end that can be stored
  module _ (last : ℕ) (low high : List ℕ) (lows : (i : ℕ) → i < rows → get_or low i 0 ≡ last - get_or rights i 0)
      (highs : (i : ℕ) → i < rows → get_or high i 0 ≡ last - get_or lefts i 0)
      (below : (i : ℕ) → i < rows → (get_or lefts i 0 ≤ last) × (get_or rights i 0 ≤ last)) where
    pub right-outside : (x y i : ℕ) → y ≤ last → x ≡ last - y → i < rows → outside low high x i ≡ not (inside y (claim_at k i))
    unfolding outside inside
    right-outside x y i h e l =
        rw (lows i l, highs i l, e, ← (bounded.left_is i l), ← (bounded.right_is i l))
        (ap not (flip (dec_le (get_or lefts i 0) y) (dec_le y (get_or rights i 0))))
      where
        flip : Dec (get_or lefts i 0 ≤ y) → Dec (y ≤ get_or rights i 0)
            → leb (last - get_or rights i 0) (last - y) && leb (last - y) (last - get_or lefts i 0) ≡ leb (get_or lefts i 0) y && leb y (get_or rights i 0)
        flip (yes a) (yes b) =
            rw (le-leb (last - get_or rights i 0) (last - y) (omega arith), le-leb (last - y) (last - get_or lefts i 0) (omega arith), le-leb (get_or lefts i 0) y a, le-leb y (get_or rights i 0) b)
        flip (yes a) (no b) =
            rw (lt-leb (last - get_or rights i 0) (last - y) (omega (arith, below i l)), le-leb (get_or lefts i 0) y a, lt-leb y (get_or rights i 0) (omega arith))
        flip (no a) d = go (leb (last - get_or rights i 0) (last - y))
          where
            go : (c : Bool) → c && leb (last - y) (last - get_or lefts i 0) ≡ leb (get_or lefts i 0) y && leb y (get_or rights i 0)
            go true = rw (lt-leb (last - y) (last - get_or lefts i 0) (omega (arith, below i l)), lt-leb (get_or lefts i 0) y (omega arith))
            go false = rw (lt-leb (get_or lefts i 0) y (omega arith))
