-- Laws of the search, by sets: what one predicate and one term bring.
-- The idea: a set that fits and holds a term t holds s joined with t. If t adds one name and nothing better came of it, every set that is still of
-- interest lacks that name, which is then no longer free. No contract cites this file. Assumes nothing.
use Prim.Native.Nat.{ℕ, ◌+◌, ◌≤◌, ◌<◌, min}
use mathlib.Core.Path.{◌≡◌, refl, sym, ap, subst, ◌∙◌}
use mathlib.Core.Logic.{◌⊎◌, inl, inr, ⊎_elim}
use mathlib.Core.Bool.{Bool, true, false, not}
use mathlib.Core.List.{List, [], ◌∷◌}
use native.Mathlib.Nat.{le_trans, le_refl}
use native.Mathlib.Decide.{dec_le}
use native.Mathlib.Omega.{arith}
use lib.Dec.{T, T_not}
use lib.Count.{ones}
use lib.ListN.{length}
use Rattle.names.specs.Sets.{subset, set_union, minus}
use Rattle.names.proofs.SetLaws.{subset_refl, subset_trans, subset_le, union_left, union_right, union-least}
use Rattle.names.proofs.PartLaws.{minus-subset, subset-same, one_more, minus_free}
use Rattle.std.specs.List.{list_all}
use Rattle.predicates.specs.Predicates.{holds}
use Rattle.predicates.proofs.ListLaws.{both, both_l, both_r, or_cases, or_l, or_r, T_true, T_false, split, cond_ind}
use Rattle.predicates.proofs.PredicateLaws.{holds_mono}
use Rattle.search.specs.code.Search.{Fits, Best, skipped}

-- ---- predicates that s makes true are passed

-- u holds s, so what s makes true u makes true
skipped-all : (s u : ℕ) (ps : List (List ℕ)) → T (subset s u) → list_all (holds u) (skipped s ps) ≡ list_all (holds u) ps
unfolding skipped
skipped-all s u [] h = refl
skipped-all s u (p ∷ ps) h =
    let rest = skipped-all s u ps h in
    cond_ind (λ qs. list_all (holds u) qs ≡ list_all (holds u) (p ∷ ps)) (holds s p) (skipped s ps) (p ∷ ps)
    (λ t. rw (T_true (holds u p) (holds_mono s u p h t)) rest) (λ _. refl)

-- where some predicate is left, s does not make all true; where none is, it does
pub skipped-some : (s : ℕ) (ps qs : List (List ℕ)) (p : List ℕ) → p ∷ qs ≡ skipped s ps → list_all (holds s) ps ≡ false
unfolding skipped
skipped-some s [] qs p e = absurd (omega (arith, ap length e))
skipped-some s (v ∷ ps) qs p e = go (split (holds s v)) (skipped-some s ps qs p)
  where
    go : T (holds s v) ⊎ T (not (holds s v)) → (p ∷ qs ≡ skipped s ps → list_all (holds s) ps ≡ false) → list_all (holds s) (v ∷ ps) ≡ false
    go (inl t) f = rw (T_true (holds s v) t) (f (rw (T_true (holds s v) t) at e))
    go (inr n) f = rw (T_false (holds s v) n)

pub skipped-none : (s : ℕ) (ps : List (List ℕ)) → [] ≡ skipped s ps → list_all (holds s) ps ≡ true
skipped-none s ps e = sym (skipped-all s s ps (subset_refl s)) ∙ ap (list_all (holds s)) (sym e)

fits_other : (limit s free u : ℕ) (ps qs : List (List ℕ)) → list_all (holds u) ps ≡ list_all (holds u) qs → Fits limit s free ps u → Fits limit s free qs u
fits_other limit s free u ps qs e f =
    record { above = f.above; within = f.within; few = f.few; holding = subst (λ (b : Bool). T b) e f.holding }

module _ (enough limit s free best : ℕ) where
  pub best-skipped : (r : ℕ) (ps : List (List ℕ)) → Best enough limit s free (skipped s ps) best r → Best enough limit s free ps best r
  best-skipped r ps b =
      record {
        from = ⊎_elim (λ e. inl e) (λ f. inr (fits_other limit s free r (skipped s ps) ps (skipped-all s r ps f.above) f)) b.from;
        low = b.low;
        least = λ u f. b.least u (fits_other limit s free u ps (skipped s ps) (sym (skipped-all s u ps f.above)) f);
      }

  -- r fits, and is at most every set that does
  pub best_of : (ps : List (List ℕ)) (r : ℕ) → Fits limit s free ps r → ((u : ℕ) → Fits limit s free ps u → r ≤ u)
      → Best enough limit s free ps best (min r best)
  best_of ps r f below = record { from = pick (dec_le r best); low = omega arith; least = λ u g. inl (omega (arith, below u g)) }
    where
      pick : Dec (r ≤ best) → (min r best ≡ best) ⊎ Fits limit s free ps (min r best)
      pick (yes h) = let e : min r best ≡ r = omega arith in inr (subst (λ (x : ℕ). Fits limit s free ps x) (sym e) f)
      pick (no h) = inl (omega arith)

  -- no predicate is left: s itself
  pub best-done : ones s ≤ limit → Best enough limit s free [] best (min s best)
  best-done few =
      best_of [] s (record { above = subset_refl s; within = union_left s free; few = few; holding = tt }) (λ u f. subset_le s u f.above)

  -- nothing fits
  pub best_none : (ps : List (List ℕ)) → ((u : ℕ) → Fits limit s free ps u → ⊥) → Best enough limit s free ps best best
  best_none ps unfit = record { from = inl refl; low = le_refl best; least = λ u f. absurd (unfit u f) }

  -- a predicate is left, and no name may be added
  pub best_full : (p : List ℕ) (ps : List (List ℕ)) → T (not (holds s p)) → limit ≤ ones s → Best enough limit s free (p ∷ ps) best best
  best_full p ps n h =
      best_none (p ∷ ps) (λ u f.
      let same : s ≡ u = subset-same s u f.above (le_trans f.few h) in
      T_not (holds s p) n (subst (λ (x : ℕ). T (holds x p)) (sym same) (both_l (holds u p) (list_all (holds u) ps) f.holding)))

-- ---- one term of a predicate after the other

module _ (enough limit s free : ℕ) (ps : List (List ℕ)) where
  pub terms-none : (best : ℕ) → Best enough limit s free ([] ∷ ps) best best
  unfolding holds
  terms-none best = best_none enough limit s free best ([] ∷ ps) (λ u f. both_l (holds u []) (list_all (holds u) ps) f.holding)

  module _ (t : ℕ) (ts : List ℕ) where
    -- the set holds this term or one of the others
    first_or : (u : ℕ) → T (list_all (holds u) ((t ∷ ts) ∷ ps)) → T (subset t u) ⊎ T (list_all (holds u) (ts ∷ ps))
    unfolding holds
    first_or u h =
        let rest = both_r (holds u (t ∷ ts)) (list_all (holds u) ps) h in
        ⊎_elim (λ k. inl k) (λ k. inr (both (holds u ts) (list_all (holds u) ps) k rest))
        (or_cases (subset t u) (holds u ts) (both_l (holds u (t ∷ ts)) (list_all (holds u) ps) h))

    later : (u : ℕ) → T (list_all (holds u) (ts ∷ ps)) → T (list_all (holds u) ((t ∷ ts) ∷ ps))
    unfolding holds
    later u h =
        both (holds u (t ∷ ts)) (list_all (holds u) ps) (or_r (subset t u) (holds u ts) (both_l (holds u ts) (list_all (holds u) ps) h))
        (both_r (holds u ts) (list_all (holds u) ps) h)

    now : (u : ℕ) → T (subset t u) → T (list_all (holds u) ps) → T (list_all (holds u) ((t ∷ ts) ∷ ps))
    unfolding holds
    now u k h = both (holds u (t ∷ ts)) (list_all (holds u) ps) (or_l (subset t u) (holds u ts) k) h

    fits-later : (free' u : ℕ) → T (subset free' free) → Fits limit s free' (ts ∷ ps) u → Fits limit s free ((t ∷ ts) ∷ ps) u
    fits-later free' u l f =
        record {
          above = f.above;
          within = subset_trans u (set_union s free') (set_union s free) f.within
              (union-least s free' (set_union s free) (union_left s free) (subset_trans free' free (set_union s free) l (union_right s free)));
          few = f.few;
          holding = later u f.holding;
        }

    -- the term leads to no set that fits and is below `best`
    pub terms_skip : (best r : ℕ) → ((u : ℕ) → Fits limit s free ((t ∷ ts) ∷ ps) u → T (subset t u) → best ≤ u)
        → Best enough limit s free (ts ∷ ps) best r → Best enough limit s free ((t ∷ ts) ∷ ps) best r
    terms_skip best r high b =
        record {
          from = ⊎_elim (λ e. inl e) (λ f. inr (fits-later free r (subset_refl free) f)) b.from;
          low = b.low;
          least = λ u f. ⊎_elim
              (λ k. inl (le_trans b.low (high u f k)))
              (λ k. b.least u (record { above = f.above; within = f.within; few = f.few; holding = k }))
              (first_or u f.holding);
        }

    -- a set that fits and holds the term fits beyond s with the term
    fits_on : (u : ℕ) → Fits limit s free ((t ∷ ts) ∷ ps) u → T (subset t u) → Fits limit (set_union s t) free ps u
    fits_on u f k =
        record {
          above = union-least s t u f.above k;
          within = subset_trans u (set_union s free) (set_union (set_union s t) free) f.within
              (union-least s free (set_union (set_union s t) free)
              (subset_trans s (set_union s t) (set_union (set_union s t) free) (union_left s t) (union_left (set_union s t) free)) (union_right (set_union s t) free));
          few = f.few;
          holding = both_r (holds u (t ∷ ts)) (list_all (holds u) ps) f.holding;
        }

    fits_back : (u : ℕ) → T (subset t (set_union s free)) → Fits limit (set_union s t) free ps u → Fits limit s free ((t ∷ ts) ∷ ps) u
    fits_back u k f =
        record {
          above = subset_trans s (set_union s t) u (union_left s t) f.above;
          within = subset_trans u (set_union (set_union s t) free) (set_union s free) f.within
              (union-least (set_union s t) free (set_union s free) (union-least s t (set_union s free) (union_left s free) k) (union_right s free));
          few = f.few;
          holding = now u (subset_trans t (set_union s t) u (union_right s t) f.above) f.holding;
        }

    module _ (best found : ℕ) (room : T (subset t (set_union s free))) (b : Best enough limit (set_union s t) free ps best found) where
      from_term : (found ≡ best) ⊎ Fits limit s free ((t ∷ ts) ∷ ps) found
      from_term = ⊎_elim (λ e. inl e) (λ f. inr (fits_back found room f)) b.from

      -- enough is found
      pub terms_stop : found < enough → Best enough limit s free ((t ∷ ts) ∷ ps) best found
      terms_stop h = record { from = from_term; low = b.low; least = λ u f. inr h }

      -- the search goes on with the other terms; `free'` is what is free then
      go_on : (free' r : ℕ) → enough ≤ found → T (subset free' free)
          → ((u : ℕ) → Fits limit s free ((t ∷ ts) ∷ ps) u → (T (subset t u) → ⊥) → T (subset u (set_union s free')))
          → Best enough limit s free' (ts ∷ ps) found r → Best enough limit s free ((t ∷ ts) ∷ ps) best r
      go_on free' r h l keeps c =
          record {
            from = ⊎_elim (λ e. subst (λ (x : ℕ). (x ≡ best) ⊎ Fits limit s free ((t ∷ ts) ∷ ps) x) (sym e) from_term)
                (λ f. inr (fits-later free' r l f)) c.from;
            low = le_trans c.low b.low;
            least = λ u f. pick u f (first_or u f.holding) (split (subset t u));
          }
        where
          pick : (u : ℕ) → Fits limit s free ((t ∷ ts) ∷ ps) u → T (subset t u) ⊎ T (list_all (holds u) (ts ∷ ps))
              → T (subset t u) ⊎ T (not (subset t u)) → (r ≤ u) ⊎ (r < enough)
          pick u f w (inl k) = ⊎_elim (λ e. inl (le_trans c.low e)) (λ e. absurd (omega arith)) (b.least u (fits_on u f k))
          pick u f (inl k) (inr n) = absurd (T_not (subset t u) n k)
          pick u f (inr k) (inr n) =
              c.least u (record { above = f.above; within = keeps u f (T_not (subset t u) n); few = f.few; holding = k })

      pub terms_on : (r : ℕ) → enough ≤ found → Best enough limit s free (ts ∷ ps) found r → Best enough limit s free ((t ∷ ts) ∷ ps) best r
      terms_on r h c = go_on free r h (subset_refl free) (λ u f n. f.within) c

      -- the term adds one name, which is not free then
      pub terms_bar : (r : ℕ) → enough ≤ found → ones (set_union s t) ≡ ones s + 1
          → Best enough limit s (minus free t) (ts ∷ ps) found r → Best enough limit s free ((t ∷ ts) ∷ ps) best r
      terms_bar r h e c =
          go_on (minus free t) r h (minus-subset free t) (λ u f n. minus_free s t u free f.within (one_more s t u e f.above n)) c
