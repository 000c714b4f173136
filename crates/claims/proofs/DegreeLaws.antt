-- Claims told by the names that they need: a row in the state's bytes, term by term, and the claims one after the other.
-- The idea: a term that has few enough names decides at once, and so does a claim that has none; names that decide alone only get fewer.
-- No contract cites this file. Assumes nothing.
use Prim.Native.Nat.{ℕ, zero, suc, ◌+◌, ◌*◌, ◌≤◌, ◌<◌, min}
use mathlib.Core.Path.{◌≡◌, refl, sym, ap, subst, ◌∙◌}
use mathlib.Core.Bool.{Bool, true, false}
use mathlib.Core.List.{List, [], ◌∷◌, ◌++◌}
use native.Mathlib.Numerals.{add-one}
use native.Mathlib.Omega.{arith}
use native.Mathlib.Decide.{dec_lt}
use borrow.Author.Tests.{le-leb}
use lib.Dec.{T, leb, leb→le, le→leb}
use lib.Count.{ones}
use lib.ListN.{length, get_or, take, drop}
use lib.Seq.{take-suc, take_all}
use Rattle.numbers.specs.Numbers.{num}
use Rattle.names.specs.Sets.{subset, set_union}
use Rattle.names.specs.code.Parts.{shared}
use Rattle.names.proofs.SetLaws.{test_ext, subset-empty}
use Rattle.names.proofs.PartLaws.{shared-left}
use Rattle.predicates.specs.Predicates.{degree}
use Rattle.predicates.specs.code.Marks.{singles}
use Rattle.predicates.proofs.LoopLaws.{degree_next, degree-done}
use Rattle.state.specs.Model.{Store}
use Rattle.state.specs.Layout.{row_at, store_of, entry_count, held_count, entries_most, data_most}
use Rattle.state.specs.Form.{in_form}
use Rattle.state.proofs.StateLaws.{held_count_le, entry_count_le}
use Rattle.search.specs.code.Search.{row_width, is_single}
use Rattle.claims.specs.code.Tables.{claim_at, claim_place}
use Rattle.claims.specs.code.Degrees.{degree_within, deciding}
use Rattle.claims.proofs.TableLaws.{length-row, row_term, Read, claim_read}
use Rattle.claims.proofs.PartingLaws.{singles-last}

-- ---- a row in the state's bytes

module _ (at : ℕ) (s : List ℕ) (few : num at 4 s ≤ row_width) where
  abbrev row : List ℕ
  row = row_at row_width at s

  -- ---- its degree

  module _ (i most : ℕ) (h : i < num at 4 s) (t : ℕ) (e : t ≡ num (at + 4 + i * 4) 4 s) where
    smallest : degree (drop i row) ≡ min (ones t) (degree (drop (i + 1) row))
    smallest = degree_next row i (omega (arith, length-row at s few)) ∙ rw (row_term at s few i h, e)

    pub degree-here : (n : ℕ) → n ≡ ones t → n ≤ most → leb (degree (drop i row)) most ≡ true
    degree-here n k l = le-leb (degree (drop i row)) most (omega (arith, smallest))

    pub degree-turn : (n : ℕ) → n ≡ ones t → most < n → leb (degree (drop i row)) most ≡ leb (degree (drop (i + 1) row)) most
    degree-turn n k l =
        test_ext (leb (degree (drop i row)) most) (leb (degree (drop (i + 1) row)) most)
        (λ d. let f = leb→le (degree (drop i row)) most d in le→leb (degree (drop (i + 1) row)) most (omega (arith, smallest)))
        (λ d. let f = leb→le (degree (drop (i + 1) row)) most d in le→leb (degree (drop i row)) most (omega (arith, smallest)))

  pub degree_end : (i most : ℕ) → num at 4 s ≤ i → leb (degree (drop i row)) most ≡ leb 30 most
  degree_end i most h = ap (λ (d : ℕ). leb d most) (degree-done row i (omega (arith, length-row at s few)))

  -- ---- the names that are terms of it

  module _ (i : ℕ) (h : i < num at 4 s) (names t : ℕ) (w : names ≡ singles (take i row)) (e : t ≡ num (at + 4 + i * 4) 4 s) where
    longer : singles (take (i + 1) row) ≡ singles (take i row ++ (t ∷ []))
    longer =
        let term : t ≡ get_or row i 0 = e ∙ sym (row_term at s few i h) in
        let inside : i < length row = omega (arith, length-row at s few) in
        ap singles (rw term (rw add-one (take-suc row i 0 inside)))

    pub single_more : is_single t ≡ true → set_union names t ≡ singles (take (i + 1) row)
    single_more k = sym (longer ∙ singles-last (take i row) t ∙ rw (k, w))

    pub single_other : is_single t ≡ false → names ≡ singles (take (i + 1) row)
    single_other k = sym (longer ∙ singles-last (take i row) t ∙ rw (k, w))

  pub singles_end : (i names : ℕ) → num at 4 s ≤ i → names ≡ singles (take i row) → names ≡ singles row
  singles_end i names h w = w ∙ ap singles (take_all i row (omega (arith, length-row at s few)))

-- ---- the claims one after the other

module _ (k : Store) (own : ℕ) where
  pub deciding-more : (i names : ℕ) → names ≡ shared (deciding k own i) (singles (claim_at k i).terms) → names ≡ deciding k own (i + 1)
  unfolding deciding
  deciding-more i names e = rw (add-one, e)

  -- once no name is left, none comes back
  pub deciding-none : (n i : ℕ) → i ≤ n → deciding k own i ≡ 0 → deciding k own n ≡ 0
  unfolding deciding
  deciding-none zero i h e = let z : i ≡ 0 = omega arith in subst (λ (j : ℕ). deciding k own j ≡ 0) z e
  deciding-none (suc n) i h e = go (λ l. deciding-none n i l e) (dec_lt i (suc n))
    where
      less : T (subset (shared (deciding k own n) (singles (claim_at k n).terms)) (deciding k own n))
      less = shared-left (deciding k own n) (singles (claim_at k n).terms)

      go : (i ≤ n → deciding k own n ≡ 0) → Dec (i < suc n) → shared (deciding k own n) (singles (claim_at k n).terms) ≡ 0
      go rest (no l) = let z : i ≡ suc n = omega arith in subst (λ (j : ℕ). deciding k own j ≡ 0) z e
      go rest (yes l) = subset-empty _ (subst (λ (m : ℕ). T (subset (shared (deciding k own n) (singles (claim_at k n).terms)) m)) (rest (omega arith)) less)

-- ---- a claim in the state's bytes

module _ (s : List ℕ) (t : T (in_form s)) (n : ℕ) (a : n ≡ entry_count s) (i : ℕ) (h : i < n + held_count s) where
  read : Read s n i
  read = claim_read s t n (held_count s) (n + held_count s) a refl refl i h

  pub claim_placed : (n ≤ entries_most) × (i < n + data_most)
  claim_placed = (omega (arith, entry_count_le s t), omega (arith, held_count_le s t))

  module _ (at : ℕ) (e : at ≡ claim_place n i) where
    pub claim_few : num at 4 s ≤ row_width
    claim_few = rw e read.few

    terms : row_at row_width at s ≡ (claim_at (store_of s) i).terms
    terms = rw e read.terms

    pub claim_within : (most : ℕ) (r : Bool) → r ≡ leb (degree (row_at row_width at s)) most → r ≡ degree_within (store_of s) most i
    unfolding degree_within
    claim_within most r k = k ∙ ap (λ (p : List ℕ). leb (degree p) most) terms

    pub claim_singles : (r : ℕ) → r ≡ singles (row_at row_width at s) → r ≡ singles (claim_at (store_of s) i).terms
    claim_singles r k = k ∙ ap singles terms
