-- A row of a state in form, read with names that count as failed: where it is true, and what is read and withdrawn.
-- No contract cites this file. Assumes nothing.
use Prim.Native.Nat.{ℕ, ◌+◌, ◌*◌, ◌-◌, ◌≤◌, ◌<◌}
use mathlib.Core.Path.{◌≡◌, sym, ap, ◌∙◌}
use mathlib.Core.Bool.{false}
use mathlib.Core.List.{List, [], ◌++◌, append-nil}
use native.Mathlib.Omega.{arith}
use lib.Dec.{T, not_T, leb→le, eqb, eqb→eq, ltb, ltb→lt}
use lib.ListN.{length, get_or, take, drop, get_or-append}
use lib.Seq.{drop_at}
use Rattle.numbers.specs.Numbers.{num, tab}
use Rattle.std.specs.List.{list_all}
use Rattle.predicates.specs.Lists.{padded}
use Rattle.predicates.specs.Predicates.{is_normal, is_true}
use Rattle.predicates.proofs.ListLaws.{both_l, both_r, any_out, all_out, T_false}
use Rattle.predicates.proofs.PredicateLaws.{true_first}
use Rattle.predicates.proofs.PlaceLaws.{padded-zeros}
use Rattle.epochs.specs.Epochs.{withdraw}
use Rattle.epochs.proofs.WithdrawLaws.{withdraw-normal, withdraw-length, withdraw-some, withdraw_zero}
use Rattle.state.specs.Layout.{zeros, masks_at, row_at}
use Rattle.state.specs.Form.{term_fits, row_fits}
use Rattle.state.proofs.FormLaws.{row_le, length-row_at, row-padded}
use Rattle.state.proofs.StoreLaws.{length-masks}

-- terms that fit leave a predicate open
pub fits_untrue : (own : ℕ) (p : List ℕ) → T (list_all (term_fits own) p) → is_true p ≡ false
unfolding term_fits is_true
fits_untrue own p t =
    T_false (is_true p) (not_T (is_true p) (λ h.
    let m = any_out (λ u. eqb u 0) p h in
    omega (arith, eqb→eq m.0 0 m.2, ltb→lt 0 m.0 (both_l (ltb 0 m.0) _ (all_out (term_fits own) p t m.0 m.1)))))

-- a row in form
module _ (own width at : ℕ) (s : List ℕ) (t : T (row_fits own width at s)) where
  pub row-normal : T (is_normal (row_at width at s))
  unfolding row_fits
  row-normal = search (both_l, both_r) depth 9

  pub row-some : 0 < length (row_at width at s)
  unfolding row_fits
  row-some = omega (arith, leb→le 1 (num at 4 s) (search (both_l, both_r) depth 9), length-row_at own width at s t)

  row_untrue : is_true (row_at width at s) ≡ false
  unfolding row_fits
  row_untrue = fits_untrue own (row_at width at s) (search (both_l, both_r) depth 9)

  -- with names counted as failed it is true where its first mask is empty
  pub row_true : (r : ℕ) → is_true (withdraw r (row_at width at s)) ≡ eqb (get_or (padded width (withdraw r (row_at width at s))) 0 0) 0
  unfolding padded
  row_true r =
      let w = withdraw r (row_at width at s) in
      let some : 0 < length w = withdraw-some r (row_at width at s) row-some in
      true_first w (withdraw-normal r (row_at width at s)) some ∙ ap (λ (x : ℕ). eqb x 0) (sym (get_or-append w (zeros (width - length w)) 0 0 some))

  -- its masks have been read, and are withdrawn or left
  module _ (row : List ℕ) (q : row ≡ tab width (λ k. num (at + 4 + k * 4) 4 s)) where
    row_read : row ≡ masks_at width at s
    unfolding masks_at
    row_read = q

    pub seen_read : (r n : ℕ) → r ≡ 0 → n ≡ num at 4 s
        → ((n ≡ length (withdraw r (row_at width at s))) × (n ≤ width)) × (row ≡ padded width (withdraw r (row_at width at s)))
    seen_read r n z p =
        let same = withdraw_zero (row_at width at s) row-normal in
        rw (z, same) ((p ∙ sym (length-row_at own width at s t), omega (arith, row_le own width at s t)), row_read ∙ sym (row-padded own width at s t))

    module _ (n : ℕ) (p : n ≡ num at 4 s) where
      pub taken-read : take n row ≡ row_at width at s
      unfolding row_at
      taken-read = rw (p, row_read)

      pub length-read : n ≤ length row
      length-read = omega (arith, ap length row_read, length-masks width at s, row_le own width at s t)

      pub seen_withdrawn : (r : ℕ) (u : List ℕ) → u ≡ padded n (withdraw r (take n row)) ++ drop n row → u ≡ padded width (withdraw r (row_at width at s))
      unfolding padded
      seen_withdrawn r u f =
          let terms = row_at width at s in
          let w = withdraw r terms in
          let used : length terms ≡ n = length-row_at own width at s t ∙ sym p in
          let full : n + (width - n) ≡ width = omega (arith, row_le own width at s t) in
          let few : length w ≤ n = omega (arith, withdraw-length r terms) in
          let rest : drop n row ≡ zeros (width - n) ++ [] =
          ap (λ (l : List ℕ). drop n l) (row_read ∙ sym (row-padded own width at s t)) ∙ drop_at terms (zeros (width - length terms)) n used
          ∙ ap (λ (k : ℕ). zeros (width - k)) used ∙ sym (append-nil (zeros (width - n))) in
          f ∙ ap (λ (l : List ℕ). padded n (withdraw r l) ++ drop n row) taken-read ∙ ap (λ (l : List ℕ). padded n w ++ l) rest
          ∙ padded-zeros n (width - n) w [] few ∙ rw full (append-nil (padded width w))
