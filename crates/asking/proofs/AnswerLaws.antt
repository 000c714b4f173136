-- The answer is the one that the instants which count give, and instants give one answer. The two steps: what one set leaves is the common part of
-- the active intervals (`leaves-given`), and the listed sets are the allowed ones (`allowed_in`, `allowed_out`). Assumes nothing.
use mathlib.Core.Path.{◌≡◌, refl, sym, ap, ap₂, subst, ◌∙◌}
use mathlib.Core.Logic.{◌⊎◌, inl, inr, ⊎_elim}
use mathlib.Core.Bool.{not, cond}
use mathlib.Core.List.{List, [], ◌∷◌, ◌++◌, map}
use Prim.Native.Nat.{ℕ, zero, suc, ◌+◌, ◌-◌, ◌^◌, ◌≤◌, ◌<◌, min, max}
use native.Mathlib.Decide.{dec_le, dec_lt}
use native.Mathlib.Omega.{arith}
use lib.Dec.{T, T_not, not_T, leb, leb→le, nleb→lt, eqb, eqb→eq, eqb_refl}
use lib.Pow.{pow_pos}
use lib.Count.{ones}
use lib.IntN.{ℤ, pos, negsuc}
use Rattle.names.specs.Sets.{set_union, has}
use Rattle.names.proofs.SetLaws.{digit-single-same, union_left, union_right, union-above, ones-empty, ones_none, ones_above, has_in, has_mono, has_not_union, has-empty, has-single}
use Rattle.std.specs.List.{list_all}
use Rattle.predicates.specs.Lists.{In}
use Rattle.predicates.specs.Predicates.{holds}
use Rattle.predicates.proofs.ListLaws.{cond_ind, in_l, in_r, in_cases, map_in, map_out}
use Rattle.state.specs.Model.{Datum, Store, State}
use Rattle.asking.specs.declared.Answer.{Answer}
use Rattle.asking.specs.declared.Answer.TheVariants.{Contradicted, Open, Between}
use Rattle.asking.specs.Instants.{Within, InAll, Fine, Allowed, Counts, Gives}
use Rattle.asking.specs.Asking.{interval, cut, common, active, leaves, sets_of, sets_within, either, left_by, exact, rounded, answer}
use Rattle.asking.proofs.InstantLaws.{within_none, within_wider, within-meet, inall_between}

-- ---- instants give one answer

pub gives_one : (P : ℤ → Type 0) (a b : Answer) → Gives P a → Gives P b → a ≡ b
gives_one P Contradicted Contradicted h k = refl
gives_one P Contradicted Open h k = absurd (h (pos 0) (k (pos 0)))
gives_one P Contradicted (Between l r) h k = absurd (h (pos l) k.0)
gives_one P Open Contradicted h k = absurd (k (pos 0) (h (pos 0)))
gives_one P Open Open h k = refl
gives_one P Open (Between l r) h k = absurd (k.2 (negsuc 0) (h (negsuc 0)))
gives_one P (Between l r) Contradicted h k = absurd (k (pos l) h.0)
gives_one P (Between l r) Open h k = absurd (h.2 (negsuc 0) (k (negsuc 0)))
gives_one P (Between l r) (Between m s) h k =
    let p = h.2 (pos m) k.0 in
    let q = h.2 (pos s) k.1 in
    let u = k.2 (pos l) h.0 in
    let v = k.2 (pos r) h.1 in
    ap₂ Between (omega arith) (omega arith)

-- the same instants give the same
pub gives_same : (P Q : ℤ → Type 0) (a : Answer) → ((x : ℤ) → P x → Q x) → ((x : ℤ) → Q x → P x) → Gives P a → Gives Q a
gives_same P Q Contradicted f g h = λ x q. h x (g x q)
gives_same P Q Open f g h = λ x. f x (h x)
gives_same P Q (Between l r) f g h = (f (pos l) h.0, f (pos r) h.1, λ x q. h.2 x (g x q))

-- ---- what one set leaves

-- the instants of an interval, of which the ends are among those of P
interval-given : (P : ℤ → Type 0) (l r : ℕ) → (l ≤ r → P (pos l) × P (pos r)) → ((x : ℤ) → P x → Within l r x) → Gives P (interval l r)
interval-given P l r f g =
    cond_ind (λ (a : Answer). Gives P a) (leb l r) (Between l r) Contradicted
    (λ t. let e = f (leb→le l r t) in (e.0, e.1, g)) (λ t x p. within_none l r x (nleb→lt l r t) (g x p))

-- the datum's interval cuts a set of instants without gaps
module _ (P : ℤ → Type 0) (whole : (a b c : ℕ) → a ≤ b → b ≤ c → P (pos a) → P (pos c) → P (pos b)) (d : Datum) where
  cut-given : (a : Answer) → Gives P a → Gives (λ x. Within d.left d.right x × P x) (cut d a)
  unfolding cut
  cut-given Contradicted h = λ x q. h x q.1
  cut-given Open h =
      interval-given (λ x. Within d.left d.right x × P x) d.left d.right
      (λ k. (((omega arith, k), h (pos d.left)), ((k, omega arith), h (pos d.right)))) (λ x q. q.0)
  cut-given (Between l r) h =
      interval-given (λ x. Within d.left d.right x × P x) (max l d.left) (min r d.right)
      (λ k. (
        ((omega arith, omega arith), whole l (max l d.left) r (omega arith) (omega arith) h.0 h.1),
        ((omega arith, omega arith), whole l (min r d.right) r (omega arith) (omega arith) h.0 h.1),
      ))
      (λ x q. within-meet l r d.left d.right x (h.2 x q.1) q.0)

pub common-given : (s : ℕ) (ds : List Datum) → Gives (InAll s ds) (common (active s ds))
unfolding common active
common-given s [] = λ x. tt
common-given s (d ∷ ds) =
    let rest = common-given s ds in
    cond_ind (λ (es : List Datum). Gives (InAll s (d ∷ ds)) (common es)) (not (holds s d.terms)) (d ∷ active s ds) (active s ds)
    (λ t. gives_same (λ x. Within d.left d.right x × InAll s ds x) (InAll s (d ∷ ds)) (cut d (common (active s ds)))
    (λ x h. (λ _. h.0, h.1)) (λ x h. (h.0 t, h.1)) (cut-given (InAll s ds) (inall_between s ds) d (common (active s ds)) rest))
    (λ t. gives_same (InAll s ds) (InAll s (d ∷ ds)) (common (active s ds))
    (λ x h. (λ a. absurd (T_not (not (holds s d.terms)) t a), h)) (λ x h. h.1) rest)

pub leaves-given : (s : ℕ) (k : Store) → Gives (λ x. Fine s k x) (leaves s k)
unfolding leaves
leaves-given s k =
    cond_ind (λ (a : Answer). Gives (λ x. Fine s k x) a) (list_all (holds s) k.entries) (common (active s k.held)) Contradicted
    (λ t. gives_same (InAll s k.held) (λ x. Fine s k x) (common (active s k.held)) (λ x h. (t, h)) (λ x h. h.1) (common-given s k.held))
    (λ t x h. T_not (list_all (holds s) k.entries) t h.0)

-- ---- what either of two leaves

module _ (P Q : ℤ → Type 0) where
  -- the lesser and the greater of two instants is one of them
  lesser : (l m : ℕ) → P (pos l) → Q (pos m) → P (pos (min l m)) ⊎ Q (pos (min l m))
  lesser l m p q = go (dec_le l m)
    where
      go : Dec (l ≤ m) → P (pos (min l m)) ⊎ Q (pos (min l m))
      go (yes h) = let e : l ≡ min l m = omega arith in inl (subst (λ (n : ℕ). P (pos n)) e p)
      go (no h) = let e : m ≡ min l m = omega arith in inr (subst (λ (n : ℕ). Q (pos n)) e q)

  greater : (l m : ℕ) → P (pos l) → Q (pos m) → P (pos (max l m)) ⊎ Q (pos (max l m))
  greater l m p q = go (dec_le l m)
    where
      go : Dec (l ≤ m) → P (pos (max l m)) ⊎ Q (pos (max l m))
      go (yes h) = let e : m ≡ max l m = omega arith in inr (subst (λ (n : ℕ). Q (pos n)) e q)
      go (no h) = let e : l ≡ max l m = omega arith in inl (subst (λ (n : ℕ). P (pos n)) e p)

  either-given : (a b : Answer) → Gives P a → Gives Q b → Gives (λ x. P x ⊎ Q x) (either a b)
  unfolding either
  either-given Contradicted b h k = gives_same Q (λ x. P x ⊎ Q x) b (λ x q. inr q) (λ x. ⊎_elim (λ p. absurd (h x p)) (λ q. q)) k
  either-given Open b h k = λ x. inl (h x)
  either-given (Between l r) Contradicted h k =
      gives_same P (λ x. P x ⊎ Q x) (Between l r) (λ x p. inl p) (λ x. ⊎_elim (λ p. p) (λ q. absurd (k x q))) h
  either-given (Between l r) Open h k = λ x. inr (k x)
  either-given (Between l r) (Between m s) h k = (
    lesser l m h.0 k.0,
    greater r s h.1 k.1,
    λ x. ⊎_elim (λ p. within_wider l r (min l m) (max r s) x (omega arith) (omega arith) (h.2 x p))
        (λ q. within_wider m s (min l m) (max r s) x (omega arith) (omega arith) (k.2 x q)),
  )

left_by-given : (ss : List ℕ) (k : Store) → Gives (λ x. (s : ℕ) × In s ss × Fine s k x) (left_by ss k)
unfolding left_by
left_by-given [] k = λ x h. h.1
left_by-given (s ∷ ss) k =
    gives_same (λ x. Fine s k x ⊎ ((u : ℕ) × In u ss × Fine u k x)) (λ x. (u : ℕ) × In u (s ∷ ss) × Fine u k x) (either (leaves s k) (left_by ss k))
    (λ x. ⊎_elim (λ h. (s, inl refl, h)) (λ h. (h.0, inr h.1, h.2))) (λ x h. back x h.0 h.1 h.2)
    (either-given (λ x. Fine s k x) (λ x. (u : ℕ) × In u ss × Fine u k x) (leaves s k) (left_by ss k) (leaves-given s k) (left_by-given ss k))
  where
    back : (x : ℤ) (u : ℕ) → In u (s ∷ ss) → Fine u k x → Fine s k x ⊎ ((u : ℕ) × In u ss × Fine u k x)
    back x u (inl e) h = inl (subst (λ (v : ℕ). Fine v k x) e h)
    back x u (inr m) h = inr (u, m, h)

-- ---- the listed sets are the allowed ones

module _ (own : ℕ) where
  -- at most `limit` of the first n names, without the own one
  abbrev Small : ℕ → ℕ → ℕ → Type 0
  Small n limit s = (s < 2 ^ n) × (ones s ≤ limit) × T (not (has own s))

  -- the listed sets with the name n
  abbrev higher : ℕ → ℕ → List ℕ
  higher n limit = map (λ u. set_union (2 ^ n) u) (sets_of own n limit)

  empty-small : (n limit s : ℕ) → s ≡ 0 → Small n limit s
  empty-small n limit s e = (omega (arith, pow_pos n), omega (arith, ap ones e, ones-empty), rw e (has-empty own))

  sets_of_in : (n limit s : ℕ) → Small n limit s → In s (sets_of own n limit)
  unfolding sets_of
  sets_of_in zero limit s h = inl (omega arith)
  sets_of_in (suc n) zero s h = inl (ones_none s (omega arith))
  sets_of_in (suc n) (suc limit) s h = go (dec_lt s (2 ^ n)) (sets_of_in n (suc limit) s) (sets_of_in n limit (s - 2 ^ n))
    where
      -- without n, s has one name less
      go : Dec (s < 2 ^ n) → (Small n (suc limit) s → In s (sets_of own n (suc limit)))
          → (Small n limit (s - 2 ^ n) → In (s - 2 ^ n) (sets_of own n limit))
          → In s (sets_of own n (suc limit) ++ cond (eqb n own) [] (higher n limit))
      go (yes l) low high = in_l s (sets_of own n (suc limit)) (cond (eqb n own) [] (higher n limit)) (low (l, h.1, h.2))
      go (no l) low high =
          let t = s - 2 ^ n in
          let less : t < 2 ^ n = omega arith in
          let sum : s ≡ 2 ^ n + t = omega arith in
          let whole : s ≡ set_union (2 ^ n) t = sum ∙ sym (union-above n t less) in
          let named : T (has n s) = rw whole (has_mono n (2 ^ n) (set_union (2 ^ n) t) (union_left (2 ^ n) t) (has_in n (2 ^ n) (digit-single-same n))) in
          let other : T (not (has own t)) =
          not_T (has own t) (λ i. T_not (has own s) h.2 (rw whole (has_mono own t (set_union (2 ^ n) t) (union_right (2 ^ n) t) i)))
          in
          let rest = high (less, omega (arith, ap ones sum, ones_above n t less), other) in
          in_r s (sets_of own n (suc limit)) (cond (eqb n own) [] (higher n limit))
          (cond_ind (λ (us : List ℕ). In s us) (eqb n own) [] (higher n limit)
          (λ e. absurd (T_not (has own s) h.2 (subst (λ (m : ℕ). T (has m s)) (eqb→eq n own e) named)))
          (λ _. subst (λ (u : ℕ). In u (higher n limit)) (sym whole) (map_in (λ u. set_union (2 ^ n) u) (sets_of own n limit) t rest)))

  sets_of_out : (n limit s : ℕ) → In s (sets_of own n limit) → Small n limit s
  unfolding sets_of
  sets_of_out zero limit s (inl e) = empty-small 0 limit s e
  sets_of_out zero limit s (inr m) = absurd m
  sets_of_out (suc n) zero s (inl e) = empty-small (suc n) 0 s e
  sets_of_out (suc n) zero s (inr m) = absurd m
  sets_of_out (suc n) (suc limit) s m =
      ⊎_elim (λ i. let r = sets_of_out n (suc limit) s i in (omega arith, r.1, r.2))
      (cond_ind (λ (us : List ℕ). In s us → Small (suc n) (suc limit) s) (eqb n own) [] (higher n limit) (λ _ i. absurd i)
      (λ e i. top e (sets_of_out n limit) (map_out (λ u. set_union (2 ^ n) u) (sets_of own n limit) s i)))
      (in_cases s (sets_of own n (suc limit)) (cond (eqb n own) [] (higher n limit)) m)
    where
      top : T (not (eqb n own)) → ((t : ℕ) → In t (sets_of own n limit) → Small n limit t)
          → (t : ℕ) × In t (sets_of own n limit) × (s ≡ set_union (2 ^ n) t) → Small (suc n) (suc limit) s
      top e rest r =
          let t = r.0 in
          let low = rest t r.1 in
          let sum : s ≡ 2 ^ n + t = r.2 ∙ union-above n t low.0 in
          let other : T (not (has own (2 ^ n))) =
          not_T (has own (2 ^ n)) (λ i. T_not (eqb n own) e (subst (λ (m : ℕ). T (eqb n m)) (has-single n own i) (eqb_refl n)))
          in (
            omega (arith, low.0),
            omega (arith, ap ones sum, ones_above n t low.0, low.1),
            rw r.2 (has_not_union own (2 ^ n) t other low.2),
          )

pub allowed_in : (limit own s : ℕ) → Allowed limit own s → In s (sets_within own limit)
unfolding sets_within
allowed_in limit own s a = sets_of_in own 29 limit s (a.names, a.few, a.others)

pub allowed_out : (limit own s : ℕ) → In s (sets_within own limit) → Allowed limit own s
unfolding sets_within
allowed_out limit own s m = let r = sets_of_out own 29 limit s m in record { names = r.0; few = r.1; others = r.2 }

-- ---- the answer

pub answer-given : (limit : ℕ) (st : State) → Gives (Counts limit st) (exact limit st)
unfolding exact
answer-given limit st =
    gives_same (λ x. (s : ℕ) × In s (sets_within st.head.own limit) × Fine s st.store x) (Counts limit st)
    (left_by (sets_within st.head.own limit) st.store)
    (λ x h. (h.0, allowed_out limit st.head.own h.0 h.1, h.2))
    (λ x h. (h.0, allowed_in limit st.head.own h.0 h.1, h.2))
    (left_by-given (sets_within st.head.own limit) st.store)

pub answer_is : (limit : ℕ) (st : State) (a : Answer) → Gives (Counts limit st) a → a ≡ exact limit st
answer_is limit st a h = gives_one (Counts limit st) a (exact limit st) h (answer-given limit st)

pub answer-rounded : (limit : ℕ) (st : State) (a : Answer) → a ≡ exact limit st → rounded a ≡ answer limit st
unfolding answer
answer-rounded limit st a e = ap rounded e
