-- What a receipt means to one set s of failed names: the instants that s allows afterwards are those that it allowed before and that the new
-- datum allows, and if s allowed some instant wherever it makes every entry true, it still does.
-- The idea: a datum or an entry is one claim, and each of the four steps leaves the conjunction of all claims as it was. What is not stored or is
-- dropped follows from a claim that stays; rule 15 joins two claims under one predicate. That some instant is left: two data that s leaves active
-- overlap, since otherwise step 1 has learnt an entry that s leaves false; so an instant that suits the held data moves into the new interval.
-- Assumes nothing.
use Prim.Native.Nat.{ℕ, ◌≤◌, min, max}
use mathlib.Core.Path.{◌≡◌}
use mathlib.Core.Logic.Iff
use mathlib.Core.Logic.{◌↔◌, ◌⊎◌, inl, inr, ⊎_elim, ⊎_map}
use mathlib.Core.Bool.{Bool, true, false, ◌||◌, not, cond}
use mathlib.Core.List.{List, [], ◌∷◌, ◌++◌}
use native.Mathlib.Omega.{arith}
use lib.Dec.{T, T_not, not_T, leb→le, ltb, ltb→lt}
use lib.IntN.{ℤ, pos, negsuc}
use Rattle.std.specs.List.{list_any, list_all}
use Rattle.predicates.specs.Lists.{In}
use Rattle.predicates.specs.Predicates.{holds, implies, is_true, normal}
use Rattle.predicates.proofs.ListLaws.{both_l, both_r, or_l, or_r, or_cases, split, cond_ind, any_in, any_out, all_in, all_out}
use Rattle.predicates.proofs.EachLaws.{Each, each_dropped, each_added}
use Rattle.predicates.proofs.PredicateLaws.{holds-sum, holds-normal, implies_out, implies_refl, true_holds}
use Rattle.state.specs.Model.{Datum, Store}
use Rattle.steps.specs.Steps.{disjoint, learnt, unexplained, same, meet, met, without, betters, stored, held_after, settled, received}
use Rattle.entries.specs.Entries.{explained, learn}
use Rattle.steps.proofs.ReceiveLaws.{overlap, same_out, learnt_ind, learn-keeps, learnt-has}
use Rattle.asking.specs.Instants.{Within, InAll, Fine}
use Rattle.asking.proofs.InstantLaws.{within_wider, within-meet, meet_within, Active, Allows, not_active, inall_in, inall_out}

-- ---- intervals

disjoint_no : (d n : Datum) → T (disjoint d n) → (x : ℤ) → Within d.left d.right x → Within n.left n.right x → ⊥
unfolding disjoint
disjoint_no d n h (negsuc k) v w = v
disjoint_no d n h (pos k) v w =
    ⊎_elim (λ t. omega (arith, ltb→lt d.right n.left t)) (λ t. omega (arith, ltb→lt n.right d.left t))
    (or_cases (ltb d.right n.left) (ltb n.right d.left) h)

module _ (s : ℕ) where
  -- the claim of an entry
  abbrev True : List ℕ → Type 0
  True e = T (holds s e)

  -- where s makes every entry true, some instant lies in every interval that s leaves active
  abbrev pub Some : Store → Type 0
  Some k = T (list_all (holds s) k.entries) → (m : ℕ) × InAll s k.held (pos m)

  pub inall_each : (x : ℤ) (ds : List Datum) → InAll s ds x ↔ Each (Allows s x) ds
  inall_each x ds = (inall_out s ds x, inall_in s ds x)

  -- some datum is active, or all instants are allowed
  pub active-cases : (ds : List Datum) → ((d : Datum) × In d ds × Active s d) ⊎ ((x : ℤ) → InAll s ds x)
  active-cases ds =
      let f : Datum → Bool = λ d. not (holds s d.terms) in
      ⊎_map (any_out f ds) (λ t x. (inall_each x ds).1 (λ d m a. absurd (T_not (list_any f ds) t (any_in f ds d m a)))) (split (list_any f ds))

  pub entries-each : (es : List (List ℕ)) → T (list_all (holds s) es) ↔ Each True es
  entries-each es = (all_out (holds s) es, all_in (holds s) es)

  -- ---- step 1

  explained_true : (es : List (List ℕ)) → Each True es → (p : List ℕ) → T (explained es p) → True p
  unfolding explained
  explained_true es h p k =
      let e = any_out (λ e. implies e p) es k in implies_out e.0 p e.2 s (h e.0 e.1)

  pub learn-each : (e : List ℕ) (es : List (List ℕ)) → Each True (learn e es) ↔ (True e × Each True es)
  unfolding learn explained
  learn-each e es = each_added True implies (λ p q i. implies_out p q i s) e es

  -- what n and d teach, if they are disjoint, is true
  abbrev Taught : Datum → Datum → Type 0
  Taught n d = T (disjoint d n) → True (normal (d.terms ++ n.terms))

  learnt-each : (n : Datum) (ds : List Datum) (es : List (List ℕ)) → Each True (learnt n ds es) ↔ (Each True es × Each (Taught n) ds)
  unfolding explained
  learnt-each n ds es = (
    λ h. (
      λ e m.
          explained_true (learnt n ds es) h e
          (learnt_ind (λ fs. T (explained fs e)) n ds es (λ d fs _ _. learn-keeps (normal (d.terms ++ n.terms)) fs e)
          (any_in (λ f. implies f e) es e m (implies_refl e))),
      λ d m c. explained_true (learnt n ds es) h (normal (d.terms ++ n.terms)) (learnt-has n ds es d m c),
    ),
    λ h. learnt_ind (Each True) n ds es (λ d fs m c k. (learn-each (normal (d.terms ++ n.terms)) fs).1 (h.1 d m c, k)) h.0,
  )

  sum_in : (p q : List ℕ) → T (holds s p || holds s q) → True (normal (p ++ q))
  sum_in p q h = rw (holds-normal, holds-sum) h

  sum_out : (p q : List ℕ) → True (normal (p ++ q)) → T (holds s p || holds s q)
  sum_out p q h = rw (holds-normal s (p ++ q), holds-sum s p q) at h

  -- two data that allow one instant teach nothing that s leaves false
  taught_in : (n d : Datum) (x : ℤ) → Allows s x d → Allows s x n → Taught n d
  taught_in n d x f g c =
      sum_in d.terms n.terms (⊎_elim (λ t. or_l (holds s d.terms) (holds s n.terms) t)
      (λ a. ⊎_elim (λ t. or_r (holds s d.terms) (holds s n.terms) t) (λ b. absurd (disjoint_no d n c x (f a) (g b)))
      (split (holds s n.terms))) (split (holds s d.terms)))

  -- two active data that teach nothing that s leaves false overlap
  taught_overlap : (n d : Datum) → Taught n d → Active s d → Active s n → (n.left ≤ d.right) × (d.left ≤ n.right)
  taught_overlap n d f a b =
      overlap d n (not_T (disjoint d n) (λ c.
      ⊎_elim (T_not (holds s d.terms) a) (T_not (holds s n.terms) b)
      (or_cases (holds s d.terms) (holds s n.terms) (sum_out d.terms n.terms (f c)))))

  -- ---- steps 2 to 4

  module _ (x : ℤ) where
    pub unexplained-all : (es : List (List ℕ)) → Each True es → (ds : List Datum) → InAll s (unexplained es ds) x ↔ InAll s ds x
    unfolding unexplained
    unexplained-all es h ds =
        Iff.trans (inall_each x (unexplained es ds))
        (Iff.trans (each_dropped (Allows s x) (λ d. explained es d.terms) ds (λ d t. not_active s d (explained_true es h d.terms t) x))
        (Iff.symm (inall_each x ds)))

    meet_allows : (d n : Datum) → d.terms ≡ n.terms → Allows s x (meet d n) ↔ (Allows s x d × Allows s x n)
    unfolding meet
    meet_allows d n e =
        let both = meet_within d.left d.right n.left n.right x in
        (λ f. (λ a. (both (f (rw e at a))).0, λ a. (both (f a)).1), λ f a. within-meet d.left d.right n.left n.right x (f.0 (rw e a)) (f.1 a))

    met_all : (n : Datum) (ds : List Datum) → (Allows s x (met n ds) × InAll s (without n.terms ds) x) ↔ (Allows s x n × InAll s ds x)
    unfolding met without
    met_all n [] = (λ h. h, λ h. h)
    met_all n (d ∷ ds) = go (same d.terms n.terms) (same_out d.terms n.terms) (met_all n ds)
      where
        go : (b : Bool) → (T b → d.terms ≡ n.terms) → (Allows s x (met n ds) × InAll s (without n.terms ds) x) ↔ (Allows s x n × InAll s ds x)
            → (Allows s x (cond b (meet d n) (met n ds)) × InAll s (cond b ds (d ∷ without n.terms ds)) x) ↔ (Allows s x n × InAll s (d ∷ ds) x)
        go true e rest =
            let m = meet_allows d n (e tt) in
            (λ h. let k = m.0 h.0 in (k.1, (k.0, h.1)), λ h. (m.1 (h.1.0, h.0), h.1.1))
        go false e rest = (
          λ h. let k = rest.0 (h.0, h.1.1) in (k.0, (h.1.0, k.1)),
          λ h. let k = rest.1 (h.0, h.1.1) in (k.0, (h.1.0, k.1)),
        )

    betters_allows : (d n : Datum) → T (betters d n) → Allows s x d → Allows s x n
    unfolding betters
    betters_allows d n b f a =
        let i : T (implies d.terms n.terms) = search both_l in
        let l = leb→le n.left d.left (search (both_l, both_r) depth 9) in
        let r = leb→le d.right n.right (search (both_l, both_r) depth 9) in
        within_wider d.left d.right n.left n.right x l r
        (f (not_T (holds s d.terms) (λ k. T_not (holds s n.terms) a (implies_out d.terms n.terms i s k))))

    stored-all : (n : Datum) (ds : List Datum) → InAll s (stored n ds) x ↔ (Allows s x n × InAll s ds x)
    unfolding stored
    stored-all n ds =
        Iff.trans (inall_each x (stored n ds))
        (Iff.trans (each_added (Allows s x) betters betters_allows n ds) (Iff.and Iff.rfl (Iff.symm (inall_each x ds))))

    held_all : (n : Datum) (ds : List Datum) (es : List (List ℕ)) → Each True es → InAll s (held_after n ds es) x ↔ (Allows s x n × InAll s ds x)
    unfolding held_after
    held_all n ds es h =
        let us = unexplained es ds in
        let u = unexplained-all es h ds in
        cond_ind (λ cs. InAll s cs x ↔ (Allows s x n × InAll s ds x)) (explained es n.terms) us (stored (met n us) (without n.terms us))
        (λ t. (λ k. (not_active s n (explained_true es h n.terms t) x, u.0 k), λ k. u.1 k.1))
        (λ _. Iff.trans (stored-all (met n us) (without n.terms us)) (Iff.trans (met_all n us) (Iff.and Iff.rfl u)))

  -- ---- the receipt

  module _ (n : Datum) (k : Store) where
    settled_fine : (x : ℤ) → Fine s (settled n k) x ↔ (Allows s x n × Fine s k x)
    unfolding settled
    settled_fine x =
        let ds = k.held in
        let es = k.entries in
        let fs = learnt n ds es in (
          λ h.
              let t = (entries-each fs).0 h.0 in
              let r = (held_all x n ds fs t).0 h.1 in
              (r.0, ((entries-each es).1 ((learnt-each n ds es).0 t).0, r.1)),
          λ h.
              let w = (inall_each x ds).0 h.1.1 in
              let t = (learnt-each n ds es).1 ((entries-each es).0 h.1.0, λ d m. taught_in n d x (w d m) h.0) in
              ((entries-each fs).1 t, (held_all x n ds fs t).1 (h.0, h.1.1)),
        )

    settled-some : n.left ≤ n.right → Some k → Some (settled n k)
    unfolding settled
    settled-some fits some h = go (split (holds s n.terms))
      where
        ds : List Datum
        ds = k.held

        fs : List (List ℕ)
        fs = learnt n ds k.entries

        taught : Each True k.entries × Each (Taught n) ds
        taught = (learnt-each n ds k.entries).0 ((entries-each fs).0 h)

        old : (m : ℕ) × InAll s ds (pos m)
        old = some ((entries-each k.entries).1 taught.0)

        left : (m : ℕ) → Allows s (pos m) n → InAll s ds (pos m) → (i : ℕ) × InAll s (held_after n ds fs) (pos i)
        left m f g = (m, (held_all (pos m) n ds fs ((entries-each fs).0 h)).1 (f, g))

        go : T (holds s n.terms) ⊎ T (not (holds s n.terms)) → (i : ℕ) × InAll s (held_after n ds fs) (pos i)
        go (inl t) = left old.0 (not_active s n t (pos old.0)) old.1
        go (inr b) =
            let m : ℕ = max n.left (min old.0 n.right) in
            left m (λ _. omega arith) ((inall_each (pos m) ds).1 (λ d i a.
            let w = (inall_each (pos old.0) ds).0 old.1 d i a in
            let o = taught_overlap n d (taught.1 d i) a b in
            omega (arith, w.0, w.1, o.0, o.1)))

    -- the same instants, with the claim of n; a new datum that is true claims nothing
    pub receipt_fine : (x : ℤ) → Fine s (received n k) x ↔ (Allows s x n × Fine s k x)
    unfolding received
    receipt_fine x =
        cond_ind (λ j. Fine s j x ↔ (Allows s x n × Fine s k x)) (is_true n.terms) k (settled n k)
        (λ t. (λ h. (not_active s n (true_holds s n.terms t) x, h), λ h. h.1)) (λ _. settled_fine x)

    pub receipt-some : n.left ≤ n.right → Some k → Some (received n k)
    unfolding received
    receipt-some fits some = cond_ind Some (is_true n.terms) k (settled n k) (λ _. some) (λ _. settled-some fits some)
