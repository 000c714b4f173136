-- The computed fewest failures are the fewest, and there are no others: the order of sets is total, so the best of the listed sets that work stands
-- before each of them. And what a search by rising counts has to find, set by set. Assumes nothing.
use mathlib.Core.Path.{◌≡◌, refl, sym, ap₂, subst, ◌∙◌}
use mathlib.Core.Logic.{◌⊎◌, inl, inr, ⊎_elim}
use mathlib.Core.Bool.{Bool, true, false, ◌&&◌, not, cond}
use mathlib.Core.List.{List, [], ◌∷◌}
use Prim.Native.Nat.{ℕ, ◌≤◌, ◌<◌}
use native.Mathlib.Nat.{le_refl}
use native.Mathlib.Decide.{dec_lt}
use native.Mathlib.Omega.{arith}
use lib.Dec.{T, T_not, not_T, leb, leb→le, nleb→lt, ltb, ltb→lt, nltb→le, eqb, eqb→eq, eqb_refl}
use lib.Count.{ones}
use lib.IntN.{ℤ, pos}
use Rattle.names.proofs.SetLaws.{ones-empty, ones_none}
use Rattle.std.specs.List.{list_all, filter}
use Rattle.predicates.specs.Lists.{In}
use Rattle.predicates.specs.Predicates.{holds}
use Rattle.predicates.proofs.ListLaws.{both, both_l, both_r, or_cases, neither, cond_ind, keep_in, keep_out}
use Rattle.state.specs.Model.{Datum, Store, State}
use Rattle.asking.specs.declared.Answer.{Answer}
use Rattle.asking.specs.declared.Answer.TheVariants.{Contradicted, Open, Between}
use Rattle.asking.specs.Fewest.{Fewest, Over, Few}
use Rattle.asking.specs.Instants.{Fine, Allowed, Counts, Gives}
use Rattle.asking.specs.Asking.{leaves, sets_within, exact, rounded, answer}
use Rattle.asking.specs.code.Claims.{needed_at, everything}
use Rattle.asking.specs.Fewest.{not_contradicted, works, smaller, best, choose, fewest, Works, Smaller, FewestOf}
use Rattle.asking.proofs.AnswerLaws.{leaves-given, allowed_in, allowed_out, answer-given}
use Rattle.asking.proofs.ClaimLaws.{everything_out, needed_out}
use Rattle.asking.proofs.EndLaws.{fine_ends}

-- ---- the order

smaller_out : (m s : ℕ) → T (smaller m s) → Smaller m s
unfolding smaller
smaller_out m s h =
    ⊎_elim (λ k. inl (ltb→lt (ones m) (ones s) k))
    (λ k. inr (eqb→eq (ones m) (ones s) (both_l (eqb (ones m) (ones s)) (leb m s) k), leb→le m s (both_r (eqb (ones m) (ones s)) (leb m s) k)))
    (or_cases (ltb (ones m) (ones s)) (eqb (ones m) (ones s) && leb m s) h)

smaller_not : (m s : ℕ) → T (not (smaller m s)) → Smaller s m
unfolding smaller
smaller_not m s h = go (dec_lt (ones s) (ones m))
  where
    go : Dec (ones s < ones m) → Smaller s m
    go (yes k) = inl k
    go (no k) =
        let l = nltb→le (ones m) (ones s) (neither (ltb (ones m) (ones s)) (eqb (ones m) (ones s) && leb m s) h).0 in
        let e : ones m ≡ ones s = omega arith in
        let more : s < m =
        nleb→lt m s (not_T (leb m s) (λ b.
        T_not (eqb (ones m) (ones s) && leb m s) (neither (ltb (ones m) (ones s)) (eqb (ones m) (ones s) && leb m s) h).1
        (both (eqb (ones m) (ones s)) (leb m s) (subst (λ (x : ℕ). T (eqb (ones m) x)) e (eqb_refl (ones m))) b)))
        in inr (sym e, omega arith)

smaller_trans : (a b c : ℕ) → Smaller a b → Smaller b c → Smaller a c
smaller_trans a b c (inl h) (inl k) = inl (omega arith)
smaller_trans a b c (inl h) (inr k) = inl (omega arith)
smaller_trans a b c (inr h) (inl k) = inl (omega arith)
smaller_trans a b c (inr h) (inr k) = inr (omega arith, omega arith)

smaller_self : (a : ℕ) → Smaller a a
smaller_self a = inr (refl, le_refl a)

-- ---- the best of a list

best_in : (m : ℕ) (ss : List ℕ) → In (best m ss) (m ∷ ss)
unfolding best
best_in m [] = inl refl
best_in m (s ∷ ss) =
    cond_ind (λ k. In (best k ss) (k ∷ ss) → In (best k ss) (m ∷ s ∷ ss)) (smaller m s) m s
    (λ _ i. ⊎_elim (λ e. inl e) (λ j. inr (inr j)) i) (λ _ i. inr i) (best_in (cond (smaller m s) m s) ss)

best-smaller : (m : ℕ) (ss : List ℕ) (s : ℕ) → In s (m ∷ ss) → Smaller (best m ss) s
unfolding best
best-smaller m [] s (inl e) = subst (λ (x : ℕ). Smaller m x) (sym e) (smaller_self m)
best-smaller m [] s (inr i) = absurd i
best-smaller m (t ∷ ss) s i = go (cond (smaller m t) m t) first i (best-smaller (cond (smaller m t) m t) ss)
  where
    first : Smaller (cond (smaller m t) m t) m × Smaller (cond (smaller m t) m t) t
    first =
        cond_ind (λ k. Smaller k m × Smaller k t) (smaller m t) m t (λ h. (smaller_self m, smaller_out m t h)) (λ h. (smaller_not m t h, smaller_self t))

    go : (k : ℕ) → Smaller k m × Smaller k t → In s (m ∷ t ∷ ss) → ((s : ℕ) → In s (k ∷ ss) → Smaller (best k ss) s) → Smaller (best k ss) s
    go k f (inl e) rest = subst (λ (x : ℕ). Smaller (best k ss) x) (sym e) (smaller_trans (best k ss) k m (rest k (inl refl)) f.0)
    go k f (inr (inl e)) rest = subst (λ (x : ℕ). Smaller (best k ss) x) (sym e) (smaller_trans (best k ss) k t (rest k (inl refl)) f.1)
    go k f (inr (inr j)) rest = rest s (inr j)

-- ---- the fewest of some sets

module _ (W : ℕ → Type 0) where
  choose-fewest : (ss : List ℕ) → ((s : ℕ) → In s ss → W s) → ((s : ℕ) → W s → In s ss) → FewestOf W (choose ss)
  unfolding choose
  choose-fewest [] f g = λ s w. g s w
  choose-fewest (s ∷ ss) f g = (f (best s ss) (best_in s ss), refl, λ u w. best-smaller s ss u (g u w))

  pub fewest_only : (a b : Fewest) → FewestOf W a → FewestOf W b → a ≡ b
  fewest_only Over Over h k = refl
  fewest_only Over (Few n m) h k = absurd (h m k.0)
  fewest_only (Few n m) Over h k = absurd (k m h.0)
  fewest_only (Few n m) (Few i j) h k = go (h.2 j k.0) (k.2 m h.0)
    where
      go : Smaller m j → Smaller j m → Few n m ≡ Few i j
      go (inl a) (inl b) = let c : ⊥ = omega arith in absurd c
      go (inl a) (inr b) = let c : ⊥ = omega arith in absurd c
      go (inr a) (inl b) = let c : ⊥ = omega arith in absurd c
      go (inr a) (inr b) = ap₂ Few (omega (arith, h.1, k.1)) (omega arith)

-- ---- the sets that work

not_contradicted_in : (P : ℤ → Type 0) (a : Answer) → Gives P a → (x : ℤ) × P x → T (not_contradicted a)
not_contradicted_in P Contradicted g h = g h.0 h.1
not_contradicted_in P Open g h = tt
not_contradicted_in P (Between l r) g h = tt

not_contradicted_out : (P : ℤ → Type 0) (a : Answer) → Gives P a → T (not_contradicted a) → (x : ℤ) × P x
not_contradicted_out P Contradicted g h = absurd h
not_contradicted_out P Open g h = (pos 0, g (pos 0))
not_contradicted_out P (Between l r) g h = (pos l, g.0)

pub works_in : (st : State) (u : ℕ) → Allowed 4 st.head.own u → T (works st.store u) → Works st u
unfolding works
works_in st u a h = (a, not_contradicted_out (λ x. Fine u st.store x) (leaves u st.store) (leaves-given u st.store) h)

pub works_out : (st : State) (u : ℕ) → Works st u → T (works st.store u)
unfolding works
works_out st u w = not_contradicted_in (λ x. Fine u st.store x) (leaves u st.store) (leaves-given u st.store) w.1

pub fewest_is : (st : State) → FewestOf (Works st) (fewest st)
unfolding fewest
fewest_is st =
    let k = st.store in
    let own = st.head.own in
    choose-fewest (Works st) (filter (works k) (sets_within own 4))
    (λ s m. let r = keep_out (works k) (sets_within own 4) s m in works_in st s (allowed_out 4 own s r.0) r.1)
    (λ s w. keep_in (works k) (sets_within own 4) s (allowed_in 4 own s w.0) (works_out st s w))

-- rounding keeps that an instant counts
rounded-same : (st : State) → not_contradicted (answer 0 st) ≡ not_contradicted (exact 0 st)
unfolding answer
rounded-same st = go (exact 0 st)
  where
    go : (a : Answer) → not_contradicted (rounded a) ≡ not_contradicted a
    go Contradicted = refl
    go Open = refl
    go (Between l r) = refl

-- ---- what a search finds

-- a set makes every predicate true, or those that a left end of held data needs
abbrev pub Seen : ℕ → Store → Type 0
Seen u k = T (list_all (holds u) (everything k)) ⊎ ((d : Datum) × In d k.held × T (list_all (holds u) (needed_at d.left k)))

module _ (st : State) where
  pub works-ends : (u : ℕ) → Works st u → Seen u st.store
  works-ends u w =
      ⊎_elim (λ t. inl t) (λ e. inr (e.first, e.first-held, e.first_true))
      (fine_ends u st.store w.1.0 w.1.1)

  pub ends-works : (u : ℕ) → Allowed 4 st.head.own u → Seen u st.store → Works st u
  ends-works u a (inl t) = (a, (pos 0, everything_out u st.store t (pos 0)))
  ends-works u a (inr e) = (a, (pos e.0.left, needed_out u st.store e.0.left e.2))

  -- no set that works has fewer names than n, and m is the least of those that have no more
  pub fewest-found : (n m : ℕ) → Works st m → ones m ≤ n → ((s : ℕ) → Works st s → n ≤ ones s) → ((s : ℕ) → Works st s → ones s ≤ n → m ≤ s)
      → Few n m ≡ fewest st
  fewest-found n m w h f g =
      fewest_only (Works st) (Few n m) (fewest st) (w, omega (arith, f m w), λ s v. go s v (dec_lt (ones m) (ones s))) (fewest_is st)
    where
      go : (s : ℕ) → Works st s → Dec (ones m < ones s) → Smaller m s
      go s v (yes l) = inl l
      go s v (no l) = inr (omega (arith, f m w, f s v), g s v (omega (arith, f m w)))

  pub fewest-over : ((s : ℕ) → Works st s → ⊥) → Over ≡ fewest st
  fewest-over f = fewest_only (Works st) Over (fewest st) f (fewest_is st)

  -- an instant counts for no failed name
  pub fewest-none : not_contradicted (answer 0 st) ≡ true → Few 0 0 ≡ fewest st
  fewest-none e =
      let w = counted (exact 0 st) (answer-given 0 st) (sym (rounded-same st) ∙ e) in
      let c = w.1 in
      let none : c.0 ≡ 0 = ones_none c.0 (omega (arith, c.1.few)) in
      let a : Allowed 4 st.head.own c.0 = record { names = c.1.names; few = omega (arith, c.1.few); others = c.1.others } in
      let works : Works st c.0 = (a, (w.0, c.2)) in
      fewest-found 0 0 (subst (λ (x : ℕ). Works st x) none works) (omega (arith, ones-empty)) (λ s v. omega arith) (λ s v h. omega arith)
    where
      counted : (a : Answer) → Gives (Counts 0 st) a → not_contradicted a ≡ true → (x : ℤ) × Counts 0 st x
      counted Contradicted g q = absurd (subst (λ (b : Bool). T b) (sym q) tt)
      counted Open g q = (pos 0, g (pos 0))
      counted (Between l r) g q = (pos l, g.0)

  -- an instant counts for none but failed names
  pub works_failed : not_contradicted (answer 0 st) ≡ false → (s : ℕ) → Works st s → 0 < ones s
  works_failed e s w = go (dec_lt 0 (ones s))
    where
      uncounted : (a : Answer) → Gives (Counts 0 st) a → not_contradicted a ≡ false → (x : ℤ) → Counts 0 st x → ⊥
      uncounted Contradicted g q = g
      uncounted Open g q = absurd (subst (λ (b : Bool). T b) q tt)
      uncounted (Between l r) g q = absurd (subst (λ (b : Bool). T b) q tt)

      go : Dec (0 < ones s) → 0 < ones s
      go (yes h) = h
      go (no h) =
          let a : Allowed 0 st.head.own s = record { names = w.0.names; few = omega arith; others = w.0.others } in
          absurd (uncounted (exact 0 st) (answer-given 0 st) (sym (rounded-same st) ∙ e) w.1.0 (s, a, w.1.1))
