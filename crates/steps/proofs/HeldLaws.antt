-- The steps on held data in rows, as facts on the list of data that the rows hold: rows tested, the first that passes, and rows given up.
-- No contract cites this file. Assumes nothing.
use Prim.Native.Nat.{ℕ, zero, suc, ◌+◌, ◌<◌}
use mathlib.Core.Path.{◌≡◌, refl, sym, ap, ◌∙◌}
use mathlib.Core.Bool.{Bool, true, false, ◌&&◌, ◌||◌, not, cond}
use mathlib.Core.List.{List, [], ◌∷◌, ◌++◌, map, map-append}
use native.Mathlib.Omega.{arith}
use lib.Dec.{eqb}
use lib.ListN.{length, get_or, set, take, drop, length-append, length-take, length-drop}
use Rattle.std.proofs.lemmas.List.{get_or_default, length-map, take_more}
use Rattle.std.proofs.lemmas.List.Edits.{map_over_more}
use Rattle.std.specs.Prelude.{nat_eq, None}
use Rattle.std.specs.List.{list_any, filter, position, position_or_len}
use Rattle.std.proofs.lemmas.List.Sums.{fails_before_first}
use Rattle.std.proofs.lemmas.Option.{none-some}
use borrow.Author.Tests.{lt-ltb}
use native.Mathlib.Decide.{dec_lt}
use Rattle.std.specs.Cmp.Lexicographic.{pointwise}
use Rattle.state.specs.Model.{Datum}
use Rattle.state.specs.declared.holding.Held.{Held}
use Rattle.state.specs.code.Tables.{HeldFits, has_terms, terms_of, datum_in, data_in}
use Rattle.predicates.specs.Predicates.{normal}
use Rattle.entries.specs.Entries.{learn}
use Rattle.steps.specs.Steps.{disjoint, learnt, same, meet, met, without}
use Rattle.steps.specs.code.Rows.{emptied, given_up_if, first_given_up}

-- `==` of lists of terms
pub same_is : (p q : List ℕ) → pointwise nat_eq p q ≡ same p q
unfolding same
same_is [] [] = refl
same_is [] (u ∷ q) = refl
same_is (t ∷ p) [] = refl
same_is (t ∷ p) (u ∷ q) = ap (λ (b : Bool). eqb t u && b) (same_is p q)

-- a test of the data in rows
pub any-data : (f : Datum → Bool) (c : List Held) → list_any f (data_in c) ≡ list_any (λ r. has_terms (terms_of r) && f (datum_in r)) c
unfolding data_in
any-data f [] = refl
any-data f (x ∷ c) = go (has_terms (terms_of x)) (any-data f c)
  where
    go : (b : Bool) → list_any f (data_in c) ≡ list_any (λ r. has_terms (terms_of r) && f (datum_in r)) c
        → list_any f (cond b (datum_in x ∷ data_in c) (data_in c)) ≡ ((b && f (datum_in x)) || list_any (λ r. has_terms (terms_of r) && f (datum_in r)) c)
    go true e = ap (λ (b : Bool). f (datum_in x) || b) e
    go false e = e

-- ---- rows given up

pub gone-data : (t : Datum → Bool) (c : List Held) → data_in (map (λ r. given_up_if (t (datum_in r)) r) c) ≡ filter (λ d. not (t d)) (data_in c)
unfolding data_in has_terms
gone-data t [] = refl
gone-data t (x ∷ c) = go (t (datum_in x)) (has_terms (terms_of x)) refl refl (gone-data t c)
  where
    go : (a b : Bool) → t (datum_in x) ≡ a → has_terms (terms_of x) ≡ b
        → data_in (map (λ r. given_up_if (t (datum_in r)) r) c) ≡ filter (λ d. not (t d)) (data_in c)
        → data_in (map (λ r. given_up_if (t (datum_in r)) r) (x ∷ c)) ≡ filter (λ d. not (t d)) (data_in (x ∷ c))
    go true true e f h = rw (e, f, e) h
    go true false e f h = rw (e, f) h
    go false true e f h = rw (e, f, e) (ap (λ (l : List Datum). datum_in x ∷ l) h)
    go false false e f h = rw (e, f) h

-- a turn of a loop that gives up the rows that pass a test
module _ (t : Held → Bool) (xs ys us : List Held) (i : ℕ) (d : Held) (h : i < length xs)
    (e : ys ≡ map (λ r. given_up_if (t r) r) (take i xs) ++ drop i xs) where
  near : i < length ys
  near = omega (arith, ap length e, length-append (map (λ r. given_up_if (t r) r) (take i xs)) (drop i xs), length-map (take i xs) (λ r. given_up_if (t r) r), length-take i xs, length-drop i xs)

  pub gone-next : (b : Bool) → t (get_or ys i d) ≡ b → us ≡ set ys i (given_up_if b (get_or ys i d))
      → us ≡ map (λ r. given_up_if (t r) r) (take (i + 1) xs) ++ drop (i + 1) xs
  gone-next b p q =
      q ∙ rw (← p) (map_over_more (λ r. given_up_if (t r) r) xs ys i (get_or ys i d) h e (get_or_default ys i d (get_or ys i d) near))

-- ---- the first row with a predicate

-- a list that is the same as one with terms has terms
same-live : (q p : List ℕ) → 0 < length p → same q p ≡ true → has_terms q ≡ true
unfolding same has_terms
same-live [] [] h e = absurd (omega arith)
same-live [] (u ∷ p) h e = cc
same-live (t ∷ q) p h e = refl

module _ (n : Datum) (some : 0 < length n.terms) where
  abbrev alike : Held → Bool
  alike r = same (terms_of r) n.terms

  -- no row has the predicate
  pub met-none : (c : List Held) → ((i : ℕ) (d : Held) → i < length c → alike (get_or c i d) ≡ false) → met n (data_in c) ≡ n
  unfolding data_in met
  met-none [] h = refl
  met-none (x ∷ c) h = go (has_terms (terms_of x)) (h 0 x (omega arith)) (met-none c (λ i d l. h (suc i) d (omega arith)))
    where
      go : (b : Bool) → alike x ≡ false → met n (data_in c) ≡ n → met n (cond b (datum_in x ∷ data_in c) (data_in c)) ≡ n
      go true e rest = rw e rest
      go false e rest = rest

  -- none passed
  pub none-alike : (c : List Held) → position alike c ≡ None → (i : ℕ) (d : Held) → i < length c → alike (get_or c i d) ≡ false
  none-alike c e i d h = fails_before_first alike c i d (go (dec_lt (position_or_len alike c) (length c)))
    where
      go : Dec (position_or_len alike c < length c) → i < position_or_len alike c
      go (yes l) = let z = rw (lt-ltb (position_or_len alike c) (length c) l) at e in absurd (none-some _ (sym z))
      go (no l) = omega arith

  -- row i is the first
  pub met-first : (c : List Held) (i : ℕ) (d : Held) → i < length c → alike (get_or c i d) ≡ true → ((k : ℕ) → k < i → alike (get_or c k d) ≡ false)
      → met n (data_in c) ≡ meet (datum_in (get_or c i d)) n
  unfolding data_in met
  met-first [] i d h e f = absurd (omega arith)
  met-first (x ∷ c) zero d h e f = rw (same-live (terms_of x) n.terms some e, e)
  met-first (x ∷ c) (suc i) d h e f = go (has_terms (terms_of x)) (f 0 (omega arith)) (met-first c i d (omega arith) e (λ k l. f (suc k) (omega arith)))
    where
      go : (b : Bool) → alike x ≡ false → met n (data_in c) ≡ meet (datum_in (get_or c i d)) n
          → met n (cond b (datum_in x ∷ data_in c) (data_in c)) ≡ meet (datum_in (get_or c i d)) n
      go true e rest = rw e rest
      go false e rest = rest

  pub first-none : (c : List Held) → ((i : ℕ) (d : Held) → i < length c → alike (get_or c i d) ≡ false) → first_given_up alike c ≡ c
  unfolding first_given_up
  first-none [] h = refl
  first-none (x ∷ c) h = rw (h 0 x (omega arith)) (ap (λ (l : List Held). x ∷ l) (first-none c (λ i d l. h (suc i) d (omega arith))))

  pub first-set : (c : List Held) (i : ℕ) (d : Held) → i < length c → alike (get_or c i d) ≡ true → ((k : ℕ) → k < i → alike (get_or c k d) ≡ false)
      → set c i (emptied (get_or c i d)) ≡ first_given_up alike c
  unfolding first_given_up
  first-set [] i d h e f = absurd (omega arith)
  first-set (x ∷ c) zero d h e f = rw e
  first-set (x ∷ c) (suc i) d h e f =
      rw (f 0 (omega arith)) (ap (λ (l : List Held). x ∷ l) (first-set c i d (omega arith) e (λ k l. f (suc k) (omega arith))))

  -- and the data without its own
  pub first-data : (c : List Held) → data_in (first_given_up alike c) ≡ without n.terms (data_in c)
  unfolding data_in first_given_up without has_terms
  first-data [] = refl
  first-data (x ∷ c) = go (alike x) (has_terms (terms_of x)) refl refl (first-data c)
    where
      go : (a b : Bool) → alike x ≡ a → has_terms (terms_of x) ≡ b → data_in (first_given_up alike c) ≡ without n.terms (data_in c)
          → data_in (first_given_up alike (x ∷ c)) ≡ without n.terms (data_in (x ∷ c))
      go true true e f h = rw (e, f, e)
      go true false e f h = let z : ◌≡◌ {A = Bool} true false = sym (same-live (terms_of x) n.terms some e) ∙ f in cc
      go false true e f h = rw (e, f, e) (ap (λ (l : List Datum). datum_in x ∷ l) h)
      go false false e f h = rw (e, f) h

-- ---- step 1

learnt-last : (n : Datum) (xs : List Datum) (d : Datum) (es : List (List ℕ)) →
    learnt n (xs ++ (d ∷ [])) es ≡ cond (disjoint d n) (learn (normal (d.terms ++ n.terms)) (learnt n xs es)) (learnt n xs es)
unfolding learnt
learnt-last n [] d es = refl
learnt-last n (x ∷ xs) d es = learnt-last n xs d (cond (disjoint x n) (learn (normal (x.terms ++ n.terms)) es) es)

-- a turn of step 1
pub learnt-more : (n : Datum) (c : List Held) (i : ℕ) (d : Held) → i < length c → (before after es : List (List ℕ))
    → before ≡ learnt n (map datum_in (take i c)) es
    → after ≡ cond (disjoint (datum_in (get_or c i d)) n) (learn (normal (terms_of (get_or c i d) ++ n.terms)) before) before
    → after ≡ learnt n (map datum_in (take (i + 1) c)) es
learnt-more n c i d h before after es p q =
    let x = datum_in (get_or c i d) in
    q ∙ ap (λ (b : List (List ℕ)). cond (disjoint x n) (learn (normal (x.terms ++ n.terms)) b) b) p
    ∙ sym (ap (λ (l : List Held). learnt n (map datum_in l) es) (take_more c i d h) ∙ ap (λ (l : List Datum). learnt n l es) (map-append datum_in (take i c) (get_or c i d ∷ []))
    ∙ learnt-last n (map datum_in (take i c)) x es)

-- a row given up, or left, fits
pub fits-emptied : (b : Bool) (r : Held) → HeldFits r → HeldFits (given_up_if b r)
fits-emptied true r f = record { narrow = omega arith; split = f.split }
fits-emptied false r f = f
