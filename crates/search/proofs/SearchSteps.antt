-- One turn of each loop and call of the search, over the predicates in the flat arrays.
-- The idea: the predicates from a place on are the next one and the rest (`rest_next`), so each turn is a law by sets, for one predicate or one
-- term, said of the arrays. No contract cites this file. Assumes nothing.
use Prim.Native.Nat.{ℕ, suc, ◌+◌, ◌-◌, ◌≤◌, ◌<◌, min}
use mathlib.Core.Path.{◌≡◌, refl, sym, ap, subst, ◌∙◌}
use mathlib.Core.Logic.{◌⊎◌, inl, inr}
use mathlib.Core.Bool.{Bool, true, false, not, ◌&&◌, cond}
use mathlib.Core.List.{List, [], ◌∷◌}
use native.Mathlib.Nat.{le_trans, le_refl}
use native.Mathlib.Numerals.{add-one}
use native.Mathlib.Omega.{arith}
use borrow.Author.Tests.{le-leb, lt-leb, le-ltb, lt-ltb}
use lib.Dec.{T, T_not, not_T, leb, leb→le, le→leb, ltb, nltb→le, eqb, eqb→eq}
use lib.Count.{ones}
use lib.ListN.{length, get_or, drop, drop_of_length-le}
use lib.Seq.{drop-cons}
use Rattle.numbers.specs.Numbers.{tab}
use Rattle.numbers.proofs.NumberLaws.{above_zero, length-tab, get_or-tab}
use Rattle.names.specs.Sets.{subset, set_union, minus}
use Rattle.names.specs.code.Parts.{shared, least_name}
use Rattle.names.proofs.SetLaws.{subset_le, subset_refl, subset_trans, subset_antisym, union_right, union-least, ones_none, ones_mono}
use Rattle.names.proofs.PartLaws.{shared-greatest, minus_add, minus-apart, subset-same, least_name_in, least_name-one, added, adds_none, adds_some, ones_added}
use Rattle.predicates.specs.Predicates.{holds}
use Rattle.predicates.proofs.ListLaws.{both, both_l, both_r, true_T, T_true, T_false, split, cond_ind}
use Rattle.std.specs.List.{list_all}
use Rattle.predicates.specs.Lists.{In}
use Rattle.predicates.proofs.PredicateLaws.{holds_in}
use Rattle.predicates.proofs.LoopLaws.{drop_next}
use Rattle.search.specs.code.Search.{Rows, Fits, Best, Trying, skipped, gather, alone, narrowed, row_terms, pred_at, preds}
use Rattle.search.proofs.LastLaws.{alone-above, narrowed_stop, narrowed-above, one-all, one_none, last_found, last_none}
use Rattle.search.proofs.SearchLaws.{terms-none, skipped-some, skipped-none, best-skipped, best-done, best_full, terms_skip, terms_stop, terms_on, terms_bar}

-- ---- the predicates from place i on

module _ (n : ℕ) (listed : List ℕ) (table : Rows) where
  abbrev pub rest : ℕ → List (List ℕ)
  rest i = drop i (preds n listed table)

  pub rest_next : (i : ℕ) → i < n → rest i ≡ pred_at listed table i ∷ rest (i + 1)
  unfolding preds
  rest_next i h =
      rw add-one
      (drop-cons (tab n (pred_at listed table)) i [] (rw length-tab h)
      ∙ ap (λ (p : List ℕ). p ∷ drop (suc i) (tab n (pred_at listed table))) (get_or-tab n i (pred_at listed table) [] h))

  pub rest-none : (i : ℕ) → n ≤ i → rest i ≡ []
  unfolding preds
  rest-none i h = drop_of_length-le (tab n (pred_at listed table)) {i = i} (rw length-tab h)

  module _ (s i : ℕ) where
    pub skip_here : i < n → holds s (pred_at listed table i) ≡ false → rest i ≡ skipped s (rest i)
    unfolding skipped
    skip_here h e = sym (ap (λ (ps : List (List ℕ)). skipped s ps) (rest_next i h) ∙ rw e refl ∙ sym (rest_next i h))

    pub skip_next : i < n → holds s (pred_at listed table i) ≡ true → skipped s (rest (i + 1)) ≡ skipped s (rest i)
    unfolding skipped
    skip_next h e = sym (ap (λ (ps : List (List ℕ)). skipped s ps) (rest_next i h) ∙ rw e refl)

    pub skip_done : n ≤ i → rest n ≡ skipped s (rest i)
    unfolding skipped
    skip_done h = rest-none n (omega arith) ∙ sym (ap (λ (ps : List (List ℕ)). skipped s ps) (rest-none i h))

    pub narrowed-turn : (limit m x : ℕ) → i < n → ones s + 1 ≡ limit
        → x ≡ cond (holds s (pred_at listed table i)) m (shared m (alone (ones s + 1) s (pred_at listed table i)))
        → narrowed limit s m (rest i) ≡ narrowed limit s x (rest (i + 1))
    unfolding narrowed
    narrowed-turn limit m x h few e =
        ap (λ (ps : List (List ℕ)). narrowed limit s m ps) (rest_next i h) ∙ ap (λ (y : ℕ). narrowed limit s y (rest (i + 1))) (sym (rw few at e))

    pub narrowed-done : (limit m : ℕ) → n ≤ i → narrowed limit s m (rest i) ≡ m
    unfolding narrowed
    narrowed-done limit m h = ap (λ (ps : List (List ℕ)). narrowed limit s m ps) (rest-none i h)

  -- a set that alone is left to try: it leaves the predicate at place k false, or none
  module _ (u best j k : ℕ) (e : rest k ≡ skipped u (rest j)) where
    pub only_not : k < n → best ≡ cond (list_all (holds u) (rest j)) (min u best) best
    only_not h = rw (skipped-some u (rest j) (rest (k + 1)) (pred_at listed table k) (sym (rest_next k h) ∙ e))

    pub only_all : n ≤ k → (r : ℕ) → r ≡ min u best → r ≡ cond (list_all (holds u) (rest j)) (min u best) best
    only_all h r g = rw (skipped-none u (rest j) (sym (rest-none k h) ∙ e)) g

-- the first of the predicates, if there is one, is left false
abbrev FirstFalse : ℕ → List (List ℕ) → Type 0
FirstFalse s [] = Unit {0}
FirstFalse s (p ∷ ps) = T (not (holds s p))

skipped-first : (s : ℕ) (ps : List (List ℕ)) → FirstFalse s (skipped s ps)
unfolding skipped
skipped-first s [] = tt
skipped-first s (p ∷ ps) = cond_ind (FirstFalse s) (holds s p) (skipped s ps) (p ∷ ps) (λ _. skipped-first s ps) (λ n. n)

-- ---- the predicate step: k is the place of the next predicate from i on that s leaves false

module _ (n : ℕ) (listed : List ℕ) (table : Rows) (s i k : ℕ) (e : rest n listed table k ≡ skipped s (rest n listed table i)) where
  pub next_false : k < n → T (not (holds s (pred_at listed table k)))
  next_false h =
      subst (FirstFalse s) (sym e ∙ rest_next n listed table k h) (skipped-first s (rest n listed table i))

  module _ (enough limit free best : ℕ) where
    pub step_back : (r : ℕ) → Best enough limit s free (rest n listed table k) best r → Best enough limit s free (rest n listed table i) best r
    step_back r b =
        best-skipped enough limit s free best r (rest n listed table i) (subst (λ (ps : List (List ℕ)). Best enough limit s free ps best r) e b)

    pub step_done : n ≤ k → ones s ≤ limit → Best enough limit s free (rest n listed table i) best (min s best)
    step_done h few =
        step_back (min s best)
        (subst (λ (ps : List (List ℕ)). Best enough limit s free ps best (min s best)) (sym (rest-none n listed table k h))
        (best-done enough limit s free best few))

    pub step_full : k < n → limit ≤ ones s → Best enough limit s free (rest n listed table i) best best
    step_full h few =
        step_back best
        (subst (λ (ps : List (List ℕ)). Best enough limit s free ps best best) (sym (rest_next n listed table k h))
        (best_full enough limit s free best (pred_at listed table k) (rest n listed table (k + 1)) (next_false h) few))

    pub step_terms : (r : ℕ) (p : List ℕ) → k < n → p ≡ row_terms table (get_or listed k 0)
        → Best enough limit s free (p ∷ rest n listed table (k + 1)) best r → Best enough limit s free (rest n listed table i) best r
    unfolding pred_at
    step_terms r p h q b =
        step_back r
        (subst (λ (ps : List (List ℕ)). Best enough limit s free ps best r) (sym (rest_next n listed table k h))
        (subst (λ (ts : List ℕ). Best enough limit s free (ts ∷ rest n listed table (k + 1)) best r) q b))

-- ---- the term step

module _ (enough limit s free best : ℕ) (p : List ℕ) (at : ℕ) (ps : List (List ℕ)) where
  term_none : length p ≤ at → Best enough limit s free (drop at p ∷ ps) best best
  term_none h =
      subst (λ (ts : List ℕ). Best enough limit s free (ts ∷ ps) best best) (sym (drop_of_length-le p {i = at} h)) (terms-none enough limit s free ps best)

  module _ (h : at < length p) where
    abbrev t : ℕ
    t = get_or p at 0

    abbrev ts : List ℕ
    ts = drop (at + 1) p

    first : drop at p ≡ t ∷ ts
    first = drop_next p at h

    back : (r : ℕ) → Best enough limit s free ((t ∷ ts) ∷ ps) best r → Best enough limit s free (drop at p ∷ ps) best r
    back r b = subst (λ (us : List ℕ). Best enough limit s free (us ∷ ps) best r) (sym first) b

    -- the term is not worth a try
    term_skip : (r : ℕ) → subset t (set_union s free) && (ltb (set_union s t) best && leb (ones (set_union s t)) limit) ≡ false
        → Best enough limit s free (ts ∷ ps) best r → Best enough limit s free (drop at p ∷ ps) best r
    term_skip r e b =
        back r (terms_skip enough limit s free ps t ts best r (λ u f m. high u f m (split (ltb (set_union s t) best))) b)
      where
        high : (u : ℕ) → Fits limit s free ((t ∷ ts) ∷ ps) u → T (subset t u) → T (ltb (set_union s t) best) ⊎ T (not (ltb (set_union s t) best)) → best ≤ u
        high u f m (inr l) =
            le_trans (nltb→le (set_union s t) best l) (subset_le (set_union s t) u (union-least s t u f.above m))
        high u f m (inl l) =
            let wide = union-least s t u f.above m in
            absurd (subst (λ (b : Bool). T b) e
            (both (subset t (set_union s free)) (ltb (set_union s t) best && leb (ones (set_union s t)) limit) (subset_trans t u (set_union s free) m f.within)
            (both (ltb (set_union s t) best) (leb (ones (set_union s t)) limit) l
            (le→leb (ones (set_union s t)) limit (le_trans (ones_mono (set_union s t) u wide) f.few)))))

    module _ (found : ℕ) (w : subset t (set_union s free) && (ltb (set_union s t) best && leb (ones (set_union s t)) limit) ≡ true)
        (b : Best enough limit (set_union s t) free ps best found) where
      room : T (subset t (set_union s free))
      room = both_l (subset t (set_union s free)) (ltb (set_union s t) best && leb (ones (set_union s t)) limit) (true_T _ w)

      term_stop : found < enough → Best enough limit s free (drop at p ∷ ps) best found
      term_stop l = back found (terms_stop enough limit s free ps t ts best found room b l)

      term_on : (free' r : ℕ) → enough ≤ found → free' ≡ cond (eqb (ones (set_union s t)) (ones s + 1)) (minus free t) free
          → Best enough limit s free' (ts ∷ ps) found r → Best enough limit s free (drop at p ∷ ps) best r
      term_on free' r l e c =
          cond_ind (λ x. Best enough limit s x (ts ∷ ps) found r → Best enough limit s free (drop at p ∷ ps) best r)
          (eqb (ones (set_union s t)) (ones s + 1)) (minus free t) free
          (λ o d. back r (terms_bar enough limit s free ps t ts best found room b r l (eqb→eq (ones (set_union s t)) (ones s + 1) o) d))
          (λ _ d. back r (terms_on enough limit s free ps t ts best found room b r l d))
          (subst (λ (x : ℕ). Best enough limit s x (ts ∷ ps) found r) e c)

-- ---- one term after the other

module _ (enough limit s free : ℕ) (whole : List (List ℕ)) (best : ℕ) (p : List ℕ) (ps : List (List ℕ)) (at free' found : ℕ)
    (w : Trying enough limit s free whole best (drop at p) ps free' found) where
  pub trying_none : length p ≤ at → Best enough limit s free whole best found
  trying_none h = w found (term_none enough limit s free' found p at ps h)

  module _ (h : at < length p) where
    abbrev here : ℕ
    here = get_or p at 0

    abbrev worthwhile : Bool
    worthwhile = subset here (set_union s free') && (ltb (set_union s here) found && leb (ones (set_union s here)) limit)

    pub trying_skip : worthwhile ≡ false → Trying enough limit s free whole best (drop (at + 1) p) ps free' found
    trying_skip e r b = w r (term_skip enough limit s free' found p at ps h r e b)

    module _ (next : ℕ) (e : worthwhile ≡ true) (b : Best enough limit (set_union s here) free' ps found next) where
      pub trying_stop : next < enough → Best enough limit s free whole best next
      trying_stop l = w next (term_stop enough limit s free' found p at ps h next e b l)

      pub trying_on : (rest : ℕ) → enough ≤ next → rest ≡ cond (eqb (ones (set_union s here)) (ones s + 1)) (minus free' here) free'
          → Trying enough limit s free whole best (drop (at + 1) p) ps rest next
      trying_on rest l q r d = w r (term_on enough limit s free' found p at ps h next e b rest r l q d)

-- ---- whether a term is worth a try, and what is free then

module _ (t s free limit best w v : ℕ) (room : Bool) (a : w ≡ set_union s t) (b : v ≡ set_union s free) (d : room ≡ subset t v) where
  abbrev worth : Bool
  worth = subset t (set_union s free) && (ltb (set_union s t) best && leb (ones (set_union s t)) limit)

  fits : (x : Bool) → room ≡ x → subset t (set_union s free) ≡ x
  fits x e = ap (subset t) (sym b) ∙ sym d ∙ e

  pub worth-room : room ≡ false → false ≡ worth
  worth-room e = rw (fits false e)

  pub worth_high : room ≡ true → best ≤ w → false ≡ worth
  worth_high e h = rw (fits true e, le-ltb (set_union s t) best (omega arith))

  pub worth-count : (r : ℕ) → room ≡ true → w < best → r ≡ ones w → leb r limit ≡ worth
  worth-count r e h c = rw (fits true e, lt-ltb (set_union s t) best (omega arith), c, a)

-- within the limit, as the next call asks
pub worth-few : (limit s free t best : ℕ) → subset t (set_union s free) && (ltb (set_union s t) best && leb (ones (set_union s t)) limit) ≡ true
    → ones (set_union s t) ≤ limit
worth-few limit s free t best w =
    leb→le (ones (set_union s t)) limit
    (both_r (ltb (set_union s t) best) (leb (ones (set_union s t)) limit)
    (both_r (subset t (set_union s free)) (ltb (set_union s t) best && leb (ones (set_union s t)) limit) (true_T _ w)))

-- ---- the names that do alone

-- one term that the set holds is enough
pub terms_hold : (s : ℕ) (p : List ℕ) (t v names x : ℕ) → In t p → v ≡ minus t s → v ≡ 0 → names ≡ cond (holds s p) names x
terms_hold s p t v names x m a z =
    let yes : holds s p ≡ true = T_true (holds s p) (holds_in s p t m (adds_none s t (sym a ∙ z))) in
    rw yes

-- from the last term to the first: i is the place before which the names are known, v what the term before it adds, m names
module _ (d s : ℕ) (p : List ℕ) (i does v : ℕ) (h : 0 < i) (l : i ≤ length p) (e : does ≡ gather d (ones s + 1) s (drop i p))
    (f : holds s (drop i p) ≡ false) (a : v ≡ minus (get_or p (i - 1) 0) s) (g : v ≡ 0 → ⊥) where
  last : drop (i - 1) p ≡ get_or p (i - 1) 0 ∷ drop i p
  last = let back : i - 1 + 1 ≡ i = omega arith in rw back at (drop_next p (i - 1) (omega arith))

  pub terms_false : holds s (drop (i - 1) p) ≡ false
  unfolding holds
  terms_false =
      let no : subset (get_or p (i - 1) 0) s ≡ false = T_false (subset (get_or p (i - 1) 0) s) (not_T (subset (get_or p (i - 1) 0) s) (adds_some s (get_or p (i - 1) 0) (λ z. g (a ∙ z)))) in
      rw (last, no) f

  pub terms_with : (m : ℕ) → m ≡ ones v → m ≡ 1 → (w r : ℕ) → w ≡ set_union s (get_or p (i - 1) 0) → r ≡ set_union w does → r ≡ gather d (ones s + 1) s (drop (i - 1) p)
  unfolding gather
  terms_with m b k w r q c =
      rw (last, le-leb (ones (set_union s (get_or p (i - 1) 0))) (ones s + 1) (omega (arith, ones_added s (get_or p (i - 1) 0), ap ones a)), sym q, sym e) c

  pub terms_past : (m : ℕ) → m ≡ ones v → (m ≡ 1 → ⊥) → does ≡ gather d (ones s + 1) s (drop (i - 1) p)
  unfolding gather
  terms_past m b k =
      let some : 0 < ones v = above_zero (λ z. g (ones_none v z)) in
      rw (last, lt-leb (ones (set_union s (get_or p (i - 1) 0))) (ones s + 1) (omega (arith, ones_added s (get_or p (i - 1) 0), ap ones a))) e

-- what is left of the names after a predicate
pub terms-done : (d s : ℕ) (p : List ℕ) (does names r : ℕ) → does ≡ gather d (ones s + 1) s p → holds s p ≡ false → r ≡ shared names does
    → r ≡ cond (holds s p) names (shared names (gather d (ones s + 1) s p))
terms-done d s p does names r e f c = rw (f, sym e) c

pub terms-start : (d limit s : ℕ) (p : List ℕ) → (d ≡ gather d limit s (drop (length p) p)) × (holds s (drop (length p) p) ≡ false)
unfolding gather holds
terms-start d limit s p = let none = drop_of_length-le p {i = length p} (le_refl (length p)) in (rw none, rw none)

-- a predicate narrows the names, and s stays
pub narrow-above : (s : ℕ) (p : List ℕ) (m r : ℕ) → r ≡ cond (holds s p) m (shared m (alone (ones s + 1) s p)) → T (subset s m) → T (subset s r)
narrow-above s p m r e i =
    rw e (cond_ind (λ x. T (subset s x)) (holds s p) m (shared m (alone (ones s + 1) s p)) (λ _. i)
    (λ _. shared-greatest s m (alone (ones s + 1) s p) i (alone-above (ones s + 1) s refl p)))

-- ---- the last name: m are the names that do for the predicates from k up to j

module _ (n : ℕ) (listed : List ℕ) (table : Rows) (limit s free k best : ℕ) (few : ones s + 1 ≡ limit) (h : k < n)
    (left_false : T (not (holds s (pred_at listed table k)))) where
  abbrev names : ℕ
  names = narrowed limit s (set_union s free) (rest n listed table k)

  first_rest : rest n listed table k ≡ pred_at listed table k ∷ rest n listed table (k + 1)
  first_rest = rest_next n listed table k h

  -- no name does
  over : names ≡ s → (enough : ℕ) → Best enough limit s free (rest n listed table k) best best
  over done enough =
      subst (λ (ps : List (List ℕ)). Best enough limit s free ps best best) (sym first_rest)
      (last_none limit s few enough free best (pred_at listed table k) (rest n listed table (k + 1)) left_false
      (ap (narrowed limit s (set_union s free)) (sym first_rest) ∙ done))

  -- none is left at place j
  pub last_stop : (j m : ℕ) → names ≡ narrowed limit s m (rest n listed table j) → m ≡ s → (enough : ℕ)
      → Best enough limit s free (rest n listed table k) best best
  last_stop j m e z enough =
      over (e ∙ ap (λ (x : ℕ). narrowed limit s x (rest n listed table j)) z ∙ narrowed_stop limit s few (rest n listed table j)) enough

  -- some are left at the end
  pub last-least : (m v c u r : ℕ) → names ≡ m → (m ≡ s → ⊥) → v ≡ minus m s → c ≡ least_name v → u ≡ set_union s c → r ≡ min u best → (enough : ℕ)
      → Best enough limit s free (rest n listed table k) best r
  last-least m v c u r e f a b d g enough =
      let same : narrowed limit s (set_union s free) (pred_at listed table k ∷ rest n listed table (k + 1)) ≡ m =
      ap (narrowed limit s (set_union s free)) (sym first_rest) ∙ e in
      let result : min (set_union s (least_name (minus m s))) best ≡ r = sym (g ∙ ap (λ (x : ℕ). min x best) (d ∙ ap (set_union s) (b ∙ ap least_name a))) in
      subst (λ (ps : List (List ℕ)). Best enough limit s free ps best r) (sym first_rest)
      (subst (λ (x : ℕ). Best enough limit s free (pred_at listed table k ∷ rest n listed table (k + 1)) best x) result
      (subst (λ (x : ℕ). Best enough limit s free (pred_at listed table k ∷ rest n listed table (k + 1)) best (min (set_union s (least_name (minus x s))) best)) same
      (last_found limit s few enough free best (pred_at listed table k) (rest n listed table (k + 1)) left_false (λ q. f (sym (q ∙ same))))))

  -- names are left beyond s
  pub last_some : (m : ℕ) → T (subset s (set_union s free)) → names ≡ m → (m ≡ s → ⊥) → 0 < minus m s
  last_some m i e f =
      go (minus m s) (minus_add s m (subst (λ (x : ℕ). T (subset s x)) e (narrowed-above limit s few (set_union s free) (rest n listed table k) i)))
    where
      go : (d : ℕ) → s + d ≡ m → 0 < d
      go d q = above_zero (λ z. f (omega arith))

  -- names are left beyond s at place j, as the loop has them
  pub some_left : (m : ℕ) → T (subset s m) → (m ≡ s → ⊥) → 0 < minus m s
  some_left m i f = go (minus m s) (minus_add s m i)
    where
      go : (d : ℕ) → s + d ≡ m → 0 < d
      go d q = above_zero (λ z. f (omega arith))

  -- one name is left at place j: s with it makes the predicates from there on true, or nothing does
  pub last_one : (j m v u : ℕ) → names ≡ narrowed limit s m (rest n listed table j) → T (subset s m) → (m ≡ s → ⊥) → v ≡ minus m s
      → leb (ones v) 1 ≡ true → u ≡ set_union s v → (r : ℕ) → r ≡ cond (list_all (holds u) (rest n listed table j)) (min u best) best → (enough : ℕ)
      → Best enough limit s free (rest n listed table k) best r
  last_one j m v u e i f a b d r g enough = go (split (list_all (holds u) ps))
    where
      ps : List (List ℕ)
      ps = rest n listed table j

      some : 0 < v
      some = rw a (some_left m i f)

      one : ones v ≡ 1
      one = let more : ones v ≡ 0 → ⊥ = λ z. absurd (omega (arith, some, ones_none v z)) in omega (arith, leb→le (ones v) 1 (true_T _ b), more)

      apart : T (subset v s) → ⊥
      apart h = minus-apart m s v (rw a (subset_refl (minus m s))) h one

      whole : m ≡ set_union s v
      whole = sym (ap (set_union s) a ∙ added s m ∙ subset_antisym (set_union s m) m (union-least s m m i (subset_refl m)) (union_right s m))

      here : names ≡ narrowed limit s (set_union s v) ps
      here = e ∙ ap (λ (x : ℕ). narrowed limit s x ps) whole

      least : v ≡ least_name v
      least = sym (subset-same (least_name v) v (least_name_in v) (omega (arith, one, least_name-one v some)))

      go : T (list_all (holds u) ps) ⊎ T (not (list_all (holds u) ps)) → Best enough limit s free (rest n listed table k) best r
      go (inl t) =
          let all_true = subst (λ (x : ℕ). T (list_all (holds x) ps)) d t in
          last-least m v v u r (here ∙ one-all limit s few v ps one all_true ∙ sym whole) f a least d
          (g ∙ rw (T_true (list_all (holds u) ps) t)) enough
      go (inr k') =
          let none = one_none limit s few v ps one apart (λ t. T_not (list_all (holds u) ps) k' (subst (λ (x : ℕ). T (list_all (holds x) ps)) (sym d) t)) in
          subst (λ (x : ℕ). Best enough limit s free (rest n listed table k) best x) (sym (g ∙ rw (T_false (list_all (holds u) ps) k')))
          (over (here ∙ none) enough)
