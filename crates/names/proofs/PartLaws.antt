-- Laws of parts of sets: what is left without another set's names, the least name, and sets that differ by one name. A set that holds another and
-- has no more names is that other (`subset-same`); most of the rest follows from it. No contract cites this file. Assumes nothing.
use mathlib.Core.Path.{◌≡◌, sym, ap, subst, ◌∙◌}
use mathlib.Core.Logic.{◌⊎◌, inl, inr}
use mathlib.Core.Bool.{not}
use Prim.Native.Nat.{ℕ, zero, suc, ◌+◌, ◌-◌, ◌*◌, ◌/◌, ◌%◌, ◌^◌, ◌≤◌, ◌<◌, min}
use native.Mathlib.Nat.{mod-eq_of_lt}
use native.Mathlib.Omega.{arith}
use native.Mathlib.Decide.{ℕ_discrete, dec_le}
use lib.Dec.{T, T_not, not_T}
use lib.Arith.{bin_ind}
use lib.Bits.{bit_and, bit_or, and_step, and_comm, and_self, and_le_l, and_mask, and_zero_r, or_step, or_zero_l, or_add_and}
use lib.Count.{ones, ones_step}
use Rattle.names.specs.Sets.{no_set, subset, set_union, has, minus}
use Rattle.names.specs.code.Parts.{digit}
use Rattle.names.specs.code.Parts.{shared, others, least_name}
use Rattle.names.proofs.SetLaws.{test_ext, digit_lt, digit-single-same, digit-single_other, digit_zero, digit_suc, digit_and, digit-union, digit-empty, subset_and, and_subset, subset_out, subset_in, digits_ext, subset_trans, subset-empty, subset_le, union_left, union_right, union-least, ones-empty, ones_none, ones_mono, halves, has_in, has_out}

-- ---- what both hold

pub digit-shared : (s t n : ℕ) → digit (shared s t) n ≡ min (digit s n) (digit t n)
unfolding shared
digit-shared s t n = digit_and s t n

pub shared-left : (s t : ℕ) → T (subset (shared s t) s)
shared-left s t = subset_in (shared s t) s (λ n. omega (arith, digit-shared s t n))

pub shared-right : (s t : ℕ) → T (subset (shared s t) t)
shared-right s t = subset_in (shared s t) t (λ n. omega (arith, digit-shared s t n))

pub shared-greatest : (u s t : ℕ) → T (subset u s) → T (subset u t) → T (subset u (shared s t))
shared-greatest u s t h k = subset_in u (shared s t) (λ n. omega (arith, digit-shared s t n, subset_out u s h n, subset_out u t k n))

-- ---- without the names of another

minus_step : (s t : ℕ) → (minus s t / 2 ≡ minus (s / 2) (t / 2)) × (minus s t % 2 ≡ s % 2 - t % 2)
unfolding minus
minus_step s t =
    let h = and_le_l (s / 2) (t / 2) in
    (omega (arith, and_step s t), omega (arith, and_step s t))

pub digit-minus : (s t n : ℕ) → digit (minus s t) n ≡ digit s n - digit t n
digit-minus s t zero = omega (arith, digit_zero (minus s t), digit_zero s, digit_zero t, (minus_step s t).1)
digit-minus s t (suc n) =
    digit_suc (minus s t) n ∙ ap (λ (x : ℕ). digit x n) (minus_step s t).0
    ∙ omega (arith, digit-minus (s / 2) (t / 2) n, digit_suc s n, digit_suc t n)

pub minus-subset : (s t : ℕ) → T (subset (minus s t) s)
minus-subset s t = subset_in (minus s t) s (λ n. omega (arith, digit-minus s t n))

pub minus_mono : (u m s : ℕ) → T (subset u m) → T (subset (minus u s) (minus m s))
minus_mono u m s h = subset_in (minus u s) (minus m s) (λ n. omega (arith, digit-minus u s n, digit-minus m s n, subset_out u m h n))

-- without the names of r it lies in s exactly if it lies in both together
pub minus_in : (t r s : ℕ) → subset (minus t r) s ≡ subset t (set_union s r)
minus_in t r s =
    test_ext
    (subset (minus t r) s)
    (subset t (set_union s r))
    (λ h. subset_in t (set_union s r) (λ n. omega (arith, digit-minus t r n, digit-union s r n, digit_lt t n, subset_out (minus t r) s h n)))
    (λ h. subset_in (minus t r) s (λ n. omega (arith, digit-minus t r n, digit-union s r n, digit_lt t n, subset_out t (set_union s r) h n)))

-- nothing is taken out where they share no name
pub minus-none : (t r : ℕ) → shared t r ≡ 0 → minus t r ≡ t
unfolding minus shared
minus-none t r h = omega (arith, h)

-- the names taken out, put back
pub minus_add : (s u : ℕ) → T (subset s u) → s + minus u s ≡ u
unfolding minus
minus_add s u h = let e : bit_and u s ≡ s = and_comm u s ∙ subset_and s u h in omega (arith, subset_le s u h)

pub union_add : (s t : ℕ) → set_union s t ≤ s + t
unfolding set_union
union_add s t = omega (arith, or_add_and s t)

-- ---- as many names

pub subset-same : (t s : ℕ) → T (subset t s) → ones s ≤ ones t → t ≡ s
subset-same t s h k = go s t h k
  where
    go : (s t : ℕ) → T (subset t s) → ones s ≤ ones t → t ≡ s
    go =
        bin_ind (λ (s : ℕ). (t : ℕ) → T (subset t s) → ones s ≤ ones t → t ≡ s) (λ t h k. subset-empty t h)
        (λ s ih t h k.
        let half = halves t s h in
        let fewer = ones_mono (t / 2) (s / 2) half.0 in
        let rest : t / 2 ≡ s / 2 = ih (t / 2) half.0 (omega (arith, ones_step t, ones_step s, half.1)) in
        omega (arith, ones_step t, ones_step s, half.1, rest))

-- a set that holds more than s has more names
pub ones-more : (s u : ℕ) → T (subset s u) → (s ≡ u → ⊥) → ones s < ones u
ones-more s u h f = go (dec_le (ones u) (ones s))
  where
    go : Dec (ones u ≤ ones s) → ones s < ones u
    go (yes k) = absurd (f (subset-same s u h k))
    go (no k) = omega arith

-- no name is in both
pub minus-apart : (u s c : ℕ) → T (subset c (minus u s)) → T (subset c s) → ones c ≡ 1 → ⊥
minus-apart u s c h k e =
    let empty : c ≡ 0 = digits_ext c 0 (λ n. omega (arith, subset_out c (minus u s) h n, subset_out c s k n, digit-minus u s n, digit_lt u n, digit-empty n)) in
    omega (arith, ap ones empty, ones-empty)

-- ---- one name more

-- c being one name: of what holds it in two parts, one part holds it
pub single_part : (c a b : ℕ) → ones c ≡ 1 → T (subset c (set_union a b)) → T (subset c a) ⊎ T (subset c b)
single_part c a b e h = go (ℕ_discrete (shared c a) c)
  where
    -- no name of c is in a
    beside : shared c a ≡ 0 → T (subset c b)
    beside z =
        subset_in c b (λ n.
        omega (arith, subset_out c (set_union a b) h n, digit-union a b n, digit-shared c a n, ap (λ (x : ℕ). digit x n) z, digit-empty n, digit_lt a n, digit_lt c n))

    go : Dec (shared c a ≡ c) → T (subset c a) ⊎ T (subset c b)
    go (yes p) = inl (subst (λ (x : ℕ). T (subset x a)) p (shared-right c a))
    go (no p) = inr (beside (ones_none (shared c a) (omega (arith, e, ones-more (shared c a) c (shared-left c a) p))))

-- t adds one name to s: a set that holds s and not t has none of t's names beyond s
pub one_more : (s t u : ℕ) → ones (set_union s t) ≡ ones s + 1 → T (subset s u) → (T (subset t u) → ⊥) → T (subset (shared u t) s)
one_more s t u e h f = go (dec_le (ones w) (ones s))
  where
    w : ℕ
    w = set_union s (shared u t)

    w_in : T (subset w (set_union s t))
    w_in = union-least s (shared u t) (set_union s t) (union_left s t) (subset_trans (shared u t) t (set_union s t) (shared-right u t) (union_right s t))

    go : Dec (ones w ≤ ones s) → T (subset (shared u t) s)
    go (yes k) =
        subst (λ (x : ℕ). T (subset (shared u t) x)) (sym (subset-same s w (union_left s (shared u t)) k)) (union_right s (shared u t))
    go (no k) =
        let same : w ≡ set_union s t = subset-same w (set_union s t) w_in (omega arith) in
        absurd (f (subset_trans t (set_union s t) u (union_right s t)
        (subst (λ (x : ℕ). T (subset x u)) same (union-least s (shared u t) u h (shared-left u t)))))

-- so its names are free beside t's
pub minus_free : (s t u free : ℕ) → T (subset u (set_union s free)) → T (subset (shared u t) s) → T (subset u (set_union s (minus free t)))
minus_free s t u free h k =
    subset_in u (set_union s (minus free t)) (λ n.
    omega (arith, subset_out u (set_union s free) h n, subset_out (shared u t) s k n, digit-union s free n, digit-union s (minus free t) n, digit-minus free t n, digit-shared u t n, digit_lt u n, digit_lt t n, digit_lt free n, digit_lt s n))

-- ---- the least name

least_name_even : (s : ℕ) → s % 2 ≡ 0 → least_name s ≡ least_name (s / 2) * 2
unfolding least_name
least_name_even s e = go (ℕ_discrete s 0)
  where
    go : Dec (s ≡ 0) → s - bit_and s (s - 1) ≡ (s / 2 - bit_and (s / 2) (s / 2 - 1)) * 2
    go (yes p) = omega arith
    go (no p) =
        let half : (s - 1) / 2 ≡ s / 2 - 1 = omega arith in
        let step : bit_and s (s - 1) ≡ bit_and (s / 2) (s / 2 - 1) * 2 = omega (arith, and_step s (s - 1), ap (λ (x : ℕ). bit_and (s / 2) x) half) in
        omega arith

least_name_odd : (s : ℕ) → s % 2 ≡ 1 → least_name s ≡ 1
unfolding least_name
least_name_odd s e =
    let half : (s - 1) / 2 ≡ s / 2 = omega arith in
    omega (arith, and_step s (s - 1), ap (λ (x : ℕ). bit_and (s / 2) x) half, and_self (s / 2))

pub least_name-least : (s u : ℕ) → T (subset u s) → 0 < u → least_name s ≤ u
least_name-least =
    bin_ind (λ (s : ℕ). (u : ℕ) → T (subset u s) → 0 < u → least_name s ≤ u)
    (λ u h k. let e = subset-empty u h in absurd (omega arith))
    (λ s ih u h k. go s ih u h k (ℕ_discrete (s % 2) 0))
  where
    go : (s : ℕ) → ((u : ℕ) → T (subset u (s / 2)) → 0 < u → least_name (s / 2) ≤ u) → (u : ℕ) → T (subset u s) → 0 < u → Dec (s % 2 ≡ 0) → least_name s ≤ u
    go s ih u h k (yes e) =
        let half = halves u s h in
        omega (arith, least_name_even s e, ih (u / 2) half.0 (omega (arith, half.1)), half.1)
    go s ih u h k (no f) = omega (arith, least_name_odd s (omega arith))

pub least_name_in : (s : ℕ) → T (subset (least_name s) s)
unfolding least_name minus
least_name_in s = minus-subset s (s - 1)

pub least_name-one : (s : ℕ) → 0 < s → ones (least_name s) ≡ 1
least_name-one =
    bin_ind (λ (s : ℕ). 0 < s → ones (least_name s) ≡ 1) (λ k. absurd (omega arith)) (λ s ih k. go s ih k (ℕ_discrete (s % 2) 0))
  where
    go : (s : ℕ) → (0 < s / 2 → ones (least_name (s / 2)) ≡ 1) → 0 < s → Dec (s % 2 ≡ 0) → ones (least_name s) ≡ 1
    go s ih k (yes e) =
        let same : least_name s / 2 ≡ least_name (s / 2) = omega (arith, least_name_even s e) in
        omega (arith, ones_step (least_name s), ap ones same, ih (omega arith), least_name_even s e)
    go s ih k (no f) =
        let same : least_name s / 2 ≡ 0 = omega (arith, least_name_odd s (omega arith)) in
        omega (arith, ones_step (least_name s), ap ones same, ones-empty, least_name_odd s (omega arith))

-- ---- what a set t adds to another

-- nothing exactly where the set holds it
pub adds_none : (s t : ℕ) → minus t s ≡ 0 → T (subset t s)
adds_none s t e = subset_in t s (λ n. omega (arith, digit-minus t s n, digit-empty n, ap (λ (x : ℕ). digit x n) e))

pub adds_some : (s t : ℕ) → (minus t s ≡ 0 → ⊥) → T (subset t s) → ⊥
adds_some s t f h = f (digits_ext (minus t s) 0 (λ n. omega (arith, digit-minus t s n, digit-empty n, subset_out t s h n)))

pub added : (s t : ℕ) → set_union s (minus t s) ≡ set_union s t
added s t =
    digits_ext (set_union s (minus t s)) (set_union s t) (λ n.
    omega (arith, digit-union s (minus t s) n, digit-union s t n, digit-minus t s n, digit_lt s n, digit_lt t n))

-- together they have the names of the set and those that are added
pub ones_added : (s t : ℕ) → ones (set_union s t) ≡ ones s + ones (minus t s)
unfolding set_union shared
ones_added =
    bin_ind (λ (s : ℕ). (t : ℕ) → ones (bit_or s t) ≡ ones s + ones (minus t s)) (λ t. omega (arith, ones-empty, ap ones (or_zero_l t), ap ones (minus-none t 0 (and_zero_r t))))
    (λ s ih t.
    let half : bit_or s t / 2 ≡ bit_or (s / 2) (t / 2) = omega (arith, or_step s t) in
    let more = minus_step t s in
    omega (arith, or_step s t, ones_step s, ones_step (bit_or s t), ones_step (minus t s), ap ones half, ap ones more.0, ih (t / 2)))

-- what lies in a set and one name more, and lacks that name, lies in the set
pub without-one : (s c x : ℕ) → ones c ≡ 1 → T (subset x (set_union s c)) → (T (subset c x) → ⊥) → T (subset x s)
without-one s c x one h f = adds_none s x (go (ℕ_discrete (minus x s) 0))
  where
    part : T (subset (minus x s) c)
    part = subset_in (minus x s) c (λ n. omega (arith, digit-minus x s n, digit-union s c n, subset_out x (set_union s c) h n, digit_lt x n, digit_lt s n))

    go : Dec (minus x s ≡ 0) → minus x s ≡ 0
    go (yes e) = e
    go (no e) =
        let some : ones (minus x s) ≡ 0 → ⊥ = λ z. e (ones_none (minus x s) z) in
        let same : minus x s ≡ c = subset-same (minus x s) c part (omega (arith, some)) in
        absurd (f (subst (λ (y : ℕ). T (subset y x)) same (minus-subset x s)))

-- ---- all names but one

-- a set of names 0 to 28 without n
pub others_in : (n s : ℕ) → s < no_set → T (not (has n s)) → T (subset s (others n))
unfolding others
others_in n s h f =
    let whole : bit_and s (no_set - 1) ≡ s = and_mask s 29 ∙ mod-eq_of_lt h in
    let all : T (subset s (no_set - 1)) = and_subset s (no_set - 1) whole in
    subset_in s (minus (no_set - 1) (2 ^ n)) (λ m. go m (ℕ_discrete n m) (subset_out s (no_set - 1) all m))
  where
    go : (m : ℕ) → Dec (n ≡ m) → digit s m ≤ digit (no_set - 1) m → digit s m ≤ digit (minus (no_set - 1) (2 ^ n)) m
    go m (yes e) k =
        let zero : digit s n ≡ 0 = without (ℕ_discrete (digit s n) 1) in
        omega (arith, ap (λ (x : ℕ). digit s x) e)
      where
        without : Dec (digit s n ≡ 1) → digit s n ≡ 0
        without (yes q) = absurd (T_not (has n s) f (has_in n s q))
        without (no q) = omega (arith, digit_lt s n)
    go m (no g) k = omega (arith, digit-minus (no_set - 1) (2 ^ n) m, digit-single_other n m g)

pub others_lt : (n s : ℕ) → T (subset s (others n)) → s < no_set
unfolding others
others_lt n s h = omega (arith, subset_le s (no_set - 1) (subset_trans s (minus (no_set - 1) (2 ^ n)) (no_set - 1) h (minus-subset (no_set - 1) (2 ^ n))))

pub others_out : (n s : ℕ) → T (subset s (others n)) → T (not (has n s))
unfolding others
others_out n s h =
    not_T (has n s) (λ t.
    absurd (omega (arith, has_out n s t, subset_out s (minus (no_set - 1) (2 ^ n)) h n, digit-minus (no_set - 1) (2 ^ n) n, digit-single-same n, digit_lt (no_set - 1) n)))
