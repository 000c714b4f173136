-- Rows of data when some have been given up: they fit, and those that have terms are as they were; and a datum put last.
-- No contract cites this file. Assumes nothing.
use Prim.Native.Nat.{ℕ, zero, suc, ◌+◌, ◌≤◌, ◌<◌}
use mathlib.Core.Path.{◌≡◌, refl, ap, ◌∙◌}
use mathlib.Core.Bool.{Bool, true, false, cond}
use mathlib.Core.List.{List, [], ◌∷◌, ◌++◌, map}
use native.Mathlib.Omega.{arith}
use lib.ListN.{length, get_or, get_or-append, take, set}
use Rattle.std.proofs.Math.Seq.{take-append_seam}
use Rattle.std.specs.Prelude.{All}
use Rattle.std.proofs.lemmas.List.Elements.{All-map, All-cons}
use Rattle.std.proofs.lemmas.List.{get_or-set_other, take_more_set}
use Rattle.ends.specs.declared.Ends.{Ends}
use Rattle.state.specs.Model.{Datum}
use Rattle.state.specs.declared.holding.Held.{Held}
use Rattle.state.specs.code.Tables.{HeldFits, has_terms, terms_of, datum_of, datum_in, data_in}
use Rattle.state.proofs.RowLaws.{has_some}
use Rattle.state.proofs.StoreLaws.{data-append, data-live}
use Rattle.steps.specs.code.Rows.{emptied, given_up_if, first_given_up}
use Rattle.steps.proofs.HeldLaws.{fits-emptied}
use Rattle.settling.specs.code.Rows.{DataLeft}

-- ---- rows given up fit

pub fits-gone : (t : Held → Bool) (c : List Held) → All HeldFits c → All HeldFits (map (λ r. given_up_if (t r) r) c)
fits-gone t c a = All-map HeldFits (λ r. given_up_if (t r) r) c (λ k d h. fits-emptied (t (get_or c k d)) (get_or c k d) (a k d h))

pub fits-first : (t : Held → Bool) (c : List Held) → All HeldFits c → All HeldFits (first_given_up t c)
unfolding first_given_up
fits-first t [] a = a
fits-first t (x ∷ c) a = go (t x) (λ k d h. a (suc k) d (omega arith)) (fits-first t c (λ k d h. a (suc k) d (omega arith)))
  where
    go : (b : Bool) → All HeldFits c → All HeldFits (first_given_up t c) → All HeldFits (cond b (emptied x ∷ c) (x ∷ first_given_up t c))
    go true r h = All-cons HeldFits (emptied x) c (fits-emptied true x (a 0 x (omega arith))) r
    go false r h = All-cons HeldFits x (first_given_up t c) (a 0 x (omega arith)) h

pub length-first : (t : Held → Bool) (c : List Held) → length (first_given_up t c) ≡ length c
unfolding first_given_up
length-first t [] = refl
length-first t (x ∷ c) = go (t x) (length-first t c)
  where
    go : (b : Bool) → length (first_given_up t c) ≡ length c → length (cond b (emptied x ∷ c) (x ∷ first_given_up t c)) ≡ suc (length c)
    go true h = refl
    go false h = ap suc h

-- ---- rows that are left are as they were

pub left-gone : (t : Held → Bool) (c : List Held) → DataLeft c (map (λ r. given_up_if (t r) r) c)
left-gone t [] i d h f = absurd (omega arith)
left-gone t (x ∷ c) zero d h f = go (t x) f
  where
    go : (b : Bool) → ((given_up_if b x).count ≡ 0 → ⊥) → given_up_if b x ≡ x
    go true f = absurd (f refl)
    go false f = refl
left-gone t (x ∷ c) (suc i) d h f = left-gone t c i d (omega arith) f

pub left-first : (t : Held → Bool) (c : List Held) → DataLeft c (first_given_up t c)
unfolding first_given_up
left-first t [] i d h f = absurd (omega arith)
left-first t (x ∷ c) i d h f = go (t x) i h f (left-first t c)
  where
    go : (b : Bool) (i : ℕ) → i < suc (length c) → ((get_or (cond b (emptied x ∷ c) (x ∷ first_given_up t c)) i d).count ≡ 0 → ⊥) → DataLeft c (first_given_up t c)
        → get_or (cond b (emptied x ∷ c) (x ∷ first_given_up t c)) i d ≡ get_or (x ∷ c) i d
    go true zero h f l = absurd (f refl)
    go true (suc i) h f l = refl
    go false zero h f l = refl
    go false (suc i) h f l = l i d (omega arith) f

pub left-trans : (a b c : List Held) → length b ≡ length a → DataLeft a b → DataLeft b c → DataLeft a c
left-trans a b c e l m i d h f =
    let k = m i d (omega arith) f in
    k ∙ l i d h (λ z. f (ap (λ (r : Held). r.count) k ∙ z))

-- more rows behind them
pub left-behind : (a b rest : List Held) → length b ≡ length a → DataLeft a b → DataLeft a (b ++ rest)
left-behind a b rest e l i d h f =
    let same = get_or-append b rest d i (omega arith) in
    same ∙ l i d h (λ z. f (ap (λ (r : Held). r.count) same ∙ z))

-- another row in a place behind them
pub left-put : (a c : List Held) (n : ℕ) (x : Held) → length a ≤ n → DataLeft a c → DataLeft a (set c n x)
left-put a c n x e l i d h f =
    let same : get_or (set c n x) i d ≡ get_or c i d = get_or-set_other c n i x d (λ z. omega arith) in
    same ∙ l i d h (λ z. f (ap (λ (r : Held). r.count) same ∙ z))

-- ---- the first rows, lent and put back, and a row put behind them

module _ (b rest : List Held) (n : ℕ) (e : length b ≡ n) where
  pub taken-front : take n (b ++ rest) ≡ b
  taken-front = rw (← e) (take-append_seam b rest)

  pub taken-put : (x : Held) → n < length (b ++ rest) → take (n + 1) (set (b ++ rest) n x) ≡ b ++ (x ∷ [])
  taken-put x h = take_more_set (b ++ rest) n x h ∙ ap (λ (l : List Held). l ++ (x ∷ [])) taken-front

-- a datum put last
pub data-put : (b : List Held) (x : Held) (e : Ends) (p : List ℕ) → datum_in x ≡ datum_of e p → 0 < length p → data_in (b ++ (x ∷ [])) ≡ data_in b ++ (datum_of e p ∷ [])
data-put b x e p q some =
    let live : has_terms (terms_of x) ≡ true = ap (λ (d : Datum). has_terms d.terms) q ∙ has_some p some in
    data-append b (x ∷ []) ∙ ap (λ (l : List Datum). data_in b ++ l) (data-live x live ∙ ap (λ (d : Datum). d ∷ []) q)
