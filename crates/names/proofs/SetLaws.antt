-- The laws of sets of names. `digit` carries them: a subset is one digit by digit, and the digits of a union or a single name are known.
-- From there: the order, the union as least upper bound, counts, and the test for one name. Assumes nothing.
use mathlib.Core.Path.{◌≡◌, refl, sym, ap, subst, ◌∙◌}
use Prim.Native.Nat.{ℕ, zero, suc, ◌+◌, ◌*◌, ◌/◌, ◌%◌, ◌^◌, ◌≤◌, ◌<◌, min, max}
use native.Mathlib.Nat.{le_trans, le_of_eq, mod-lt, zero-lt-suc}
use native.Mathlib.Omega.{arith}
use native.Mathlib.Numerals.{one-add}
use native.Mathlib.Decide.{ℕ_discrete}
use lib.Dec.{T, T_not, not_T, eqb, eqb→eq, eqb_refl}
use mathlib.Core.Bool.{Bool, true, false, not}
use lib.Arith.{bin_ind, digits_mod}
use lib.Pow.{shr-shr}
use lib.Bits.{bit_and, bit_or, and_step, or_step, and_shr, or_shr, or_zero_r, and_comm, and_self, and_le_r, or_shifted}
use lib.Count.{ones, ones_step, ones_cat}
use Rattle.names.specs.Sets.{subset, set_union, has}
use Rattle.names.specs.code.Parts.{digit}

-- two tests that pass together are equal
pub test_ext : (a b : Bool) → (T a → T b) → (T b → T a) → a ≡ b
test_ext true true f g = refl
test_ext true false f g = absurd (f tt)
test_ext false true f g = absurd (g tt)
test_ext false false f g = refl

-- ---- digits

pub digit_lt : (s n : ℕ) → digit s n < 2
digit_lt s n = mod-lt (s / 2 ^ n) (zero-lt-suc 1)

pub digit_zero : (s : ℕ) → digit s 0 ≡ s % 2
digit_zero s = omega arith

pub digit_suc : (s n : ℕ) → digit s (suc n) ≡ digit (s / 2) n
digit_suc s n = ap (λ (x : ℕ). s / 2 ^ x % 2) (sym (one-add n)) ∙ ap (λ (x : ℕ). x % 2) (sym (shr-shr s 1 n))

pub digit_and : (a b n : ℕ) → digit (bit_and a b) n ≡ min (digit a n) (digit b n)
digit_and a b n =
    ap (λ (x : ℕ). x % 2) (and_shr a b n ∙ and_step (a / 2 ^ n) (b / 2 ^ n))
    ∙ digits_mod (bit_and (a / 2 ^ n / 2) (b / 2 ^ n / 2)) (omega arith)

pub digit-union : (a b n : ℕ) → digit (set_union a b) n ≡ max (digit a n) (digit b n)
unfolding set_union
digit-union a b n =
    ap (λ (x : ℕ). x % 2) (or_shr a b n ∙ or_step (a / 2 ^ n) (b / 2 ^ n))
    ∙ digits_mod (bit_or (a / 2 ^ n / 2) (b / 2 ^ n / 2)) (omega arith)

pub digit-empty : (n : ℕ) → digit 0 n ≡ 0
digit-empty zero = refl
digit-empty (suc n) = digit_suc 0 n ∙ digit-empty n

digit-single_suc : (n m : ℕ) → digit (2 ^ suc n) (suc m) ≡ digit (2 ^ n) m
digit-single_suc n m =
    let half : 2 ^ suc n / 2 ≡ 2 ^ n = omega arith in
    digit_suc (2 ^ suc n) m ∙ ap (λ (x : ℕ). digit x m) half

pub digit-single-same : (n : ℕ) → digit (2 ^ n) n ≡ 1
digit-single-same zero = refl
digit-single-same (suc n) = digit-single_suc n n ∙ digit-single-same n

pub digit-single_other : (n m : ℕ) → (n ≡ m → ⊥) → digit (2 ^ n) m ≡ 0
digit-single_other zero zero h = absurd (h refl)
digit-single_other zero (suc m) h = digit_suc 1 m ∙ digit-empty m
digit-single_other (suc n) zero h = omega arith
digit-single_other (suc n) (suc m) h = digit-single_suc n m ∙ digit-single_other n m (λ e. h (ap suc e))

-- ---- subset, digit by digit

pub subset_and : (t s : ℕ) → T (subset t s) → bit_and t s ≡ t
unfolding subset
subset_and t s h = eqb→eq (bit_and t s) t h

pub and_subset : (t s : ℕ) → bit_and t s ≡ t → T (subset t s)
unfolding subset
and_subset t s e = subst (λ (x : ℕ). T (eqb (bit_and t s) x)) e (eqb_refl (bit_and t s))

pub subset_out : (t s : ℕ) → T (subset t s) → (n : ℕ) → digit t n ≤ digit s n
subset_out t s h n = omega (arith, digit_and t s n, ap (λ (x : ℕ). digit x n) (subset_and t s h))

digits_and : (t s : ℕ) → ((n : ℕ) → digit t n ≤ digit s n) → bit_and t s ≡ t
digits_and =
    bin_ind (λ (t : ℕ). (s : ℕ) → ((n : ℕ) → digit t n ≤ digit s n) → bit_and t s ≡ t) (λ s h. refl)
    (λ t ih s h.
    let rest : bit_and (t / 2) (s / 2) ≡ t / 2 = ih (s / 2) (λ n. omega (arith, h (suc n), digit_suc t n, digit_suc s n)) in
    omega (arith, and_step t s, h 0, digit_zero t, digit_zero s))

pub subset_in : (t s : ℕ) → ((n : ℕ) → digit t n ≤ digit s n) → T (subset t s)
subset_in t s h = and_subset t s (digits_and t s h)

-- ---- the order

pub subset_refl : (s : ℕ) → T (subset s s)
subset_refl s = and_subset s s (and_self s)

pub subset_trans : (r s t : ℕ) → T (subset r s) → T (subset s t) → T (subset r t)
subset_trans r s t h k = subset_in r t (λ n. le_trans (subset_out r s h n) (subset_out s t k n))

pub subset_antisym : (s t : ℕ) → T (subset s t) → T (subset t s) → s ≡ t
subset_antisym s t h k = sym (subset_and s t h) ∙ and_comm s t ∙ subset_and t s k

pub digits_ext : (s t : ℕ) → ((n : ℕ) → digit s n ≡ digit t n) → s ≡ t
digits_ext s t h = subset_antisym s t (subset_in s t (λ n. le_of_eq (h n))) (subset_in t s (λ n. le_of_eq (sym (h n))))

pub empty-subset : (s : ℕ) → T (subset 0 s)
empty-subset s = and_subset 0 s refl

pub subset-empty : (s : ℕ) → T (subset s 0) → s ≡ 0
subset-empty s h = subset_antisym s 0 h (empty-subset s)

pub subset_le : (s t : ℕ) → T (subset s t) → s ≤ t
subset_le s t h = le_trans (le_of_eq (sym (subset_and s t h))) (and_le_r s t)

-- ---- the union is the least upper bound

pub union_left : (s t : ℕ) → T (subset s (set_union s t))
union_left s t = subset_in s (set_union s t) (λ n. omega (arith, digit-union s t n))

pub union_right : (s t : ℕ) → T (subset t (set_union s t))
union_right s t = subset_in t (set_union s t) (λ n. omega (arith, digit-union s t n))

pub union-least : (s t u : ℕ) → T (subset s u) → T (subset t u) → T (subset (set_union s t) u)
union-least s t u h k = subset_in (set_union s t) u (λ n. omega (arith, digit-union s t n, subset_out s u h n, subset_out t u k n))

pub union_comm : (s t : ℕ) → set_union s t ≡ set_union t s
union_comm s t = digits_ext (set_union s t) (set_union t s) (λ n. omega (arith, digit-union s t n, digit-union t s n))

pub union-none : (s : ℕ) → set_union s 0 ≡ s
unfolding set_union
union-none s = or_zero_r s

pub union_assoc : (s t u : ℕ) → set_union (set_union s t) u ≡ set_union s (set_union t u)
union_assoc s t u =
    digits_ext (set_union (set_union s t) u) (set_union s (set_union t u)) (λ n.
    omega (arith, digit-union (set_union s t) u n, digit-union s t n, digit-union s (set_union t u) n, digit-union t u n))

pub union_left_comm : (s t u : ℕ) → set_union s (set_union t u) ≡ set_union t (set_union s u)
union_left_comm s t u = sym (union_assoc s t u) ∙ ap (λ (x : ℕ). set_union x u) (union_comm s t) ∙ union_assoc t s u

-- ---- counts

pub ones-empty : ones 0 ≡ 0
unfolding ones
ones-empty = refl

pub halves : (t s : ℕ) → T (subset t s) → T (subset (t / 2) (s / 2)) × (t % 2 ≤ s % 2)
halves t s h = (
  subset_in (t / 2) (s / 2) (λ n. omega (arith, subset_out t s h (suc n), digit_suc t n, digit_suc s n)),
  omega (arith, subset_out t s h 0, digit_zero t, digit_zero s),
)

-- a larger set has no fewer names
pub ones_mono : (t s : ℕ) → T (subset t s) → ones t ≤ ones s
ones_mono =
    bin_ind (λ (t : ℕ). (s : ℕ) → T (subset t s) → ones t ≤ ones s) (λ s h. omega (arith, ones-empty))
    (λ t ih s h.
    let k = halves t s h in
    omega (arith, ones_step t, ones_step s, ih (s / 2) k.0))

-- a union has no more names than both together
pub ones-union : (a b : ℕ) → ones (set_union a b) ≤ ones a + ones b
unfolding set_union
ones-union =
    bin_ind (λ (a : ℕ). (b : ℕ) → ones (bit_or a b) ≤ ones a + ones b) (λ b. omega arith)
    (λ a ih b.
    let half : bit_or a b / 2 ≡ bit_or (a / 2) (b / 2) = omega (arith, or_step a b) in
    let low : bit_or a b % 2 ≡ max (a % 2) (b % 2) = omega (arith, or_step a b) in
    omega (arith, ones_step a, ones_step b, ones_step (bit_or a b), ap ones half, ih (b / 2)))

-- only the empty set has no names
pub ones_none : (s : ℕ) → ones s ≡ 0 → s ≡ 0
ones_none =
    bin_ind (λ (s : ℕ). ones s ≡ 0 → s ≡ 0) (λ e. refl)
    (λ s ih e.
    let half : s / 2 ≡ 0 = ih (omega (arith, ones_step s)) in
    omega (arith, ones_step s))

-- ---- a name above all those of a set

pub union-above : (n s : ℕ) → s < 2 ^ n → set_union (2 ^ n) s ≡ 2 ^ n + s
unfolding set_union
union-above n s h =
    let one : 1 * 2 ^ n ≡ 2 ^ n = omega arith in
    ap (λ (x : ℕ). bit_or x s) (sym one) ∙ or_shifted 1 n s h ∙ ap (λ (x : ℕ). x + s) one

pub ones_above : (n s : ℕ) → s < 2 ^ n → ones (2 ^ n + s) ≡ suc (ones s)
unfolding ones
ones_above n s h =
    let one : 1 * 2 ^ n ≡ 2 ^ n = omega arith in
    omega (arith, ap (λ (x : ℕ). ones (x + s)) one, ones_cat n 1 s h)

-- ---- one name: as a digit, as the code tests it

and_single : (n s : ℕ) → digit (bit_and s (2 ^ n)) n ≡ digit s n
and_single n s = omega (arith, digit_and s (2 ^ n) n, digit-single-same n, digit_lt s n)

pub has_out : (n s : ℕ) → T (has n s) → digit s n ≡ 1
unfolding has
has_out n s h = go (ℕ_discrete (digit s n) 1)
  where
    zeros : digit s n ≡ 0 → (m : ℕ) → digit (bit_and s (2 ^ n)) m ≡ digit 0 m
    zeros z m = other (ℕ_discrete n m)
      where
        other : Dec (n ≡ m) → digit (bit_and s (2 ^ n)) m ≡ digit 0 m
        other (yes p) = subst (λ (k : ℕ). digit (bit_and s (2 ^ n)) k ≡ digit 0 k) p (and_single n s ∙ z ∙ sym (digit-empty n))
        other (no f) = omega (arith, digit_and s (2 ^ n) m, digit-single_other n m f, digit-empty m)

    go : Dec (digit s n ≡ 1) → digit s n ≡ 1
    go (yes p) = p
    go (no f) =
        let z : digit s n ≡ 0 = omega (arith, digit_lt s n) in
        absurd (T_not (eqb (bit_and s (2 ^ n)) 0) h (subst (λ (x : ℕ). T (eqb x 0)) (sym (digits_ext (bit_and s (2 ^ n)) 0 (zeros z))) tt))

pub has_in : (n s : ℕ) → digit s n ≡ 1 → T (has n s)
unfolding has
has_in n s e =
    not_T (eqb (bit_and s (2 ^ n)) 0) (λ t.
    let z : bit_and s (2 ^ n) ≡ 0 = eqb→eq (bit_and s (2 ^ n)) 0 t in
    let one : ◌≡◌ {A = ℕ} 1 0 = sym e ∙ sym (and_single n s) ∙ ap (λ (x : ℕ). digit x n) z ∙ digit-empty n in
    omega arith)

pub has_mono : (n t s : ℕ) → T (subset t s) → T (has n t) → T (has n s)
has_mono n t s h k = has_in n s (omega (arith, subset_out t s h n, has_out n t k, digit_lt s n))

-- a name of a union is in one of the two: a union of sets without the own name is without it
pub has_not_union : (n s t : ℕ) → T (not (has n s)) → T (not (has n t)) → T (not (has n (set_union s t)))
has_not_union n s t f g =
    not_T (has n (set_union s t)) (λ h. go (ℕ_discrete (digit s n) 1) (has_out n (set_union s t) h))
  where
    go : Dec (digit s n ≡ 1) → digit (set_union s t) n ≡ 1 → ⊥
    go (yes p) e = T_not (has n s) f (has_in n s p)
    go (no p) e = T_not (has n t) g (has_in n t (omega (arith, digit-union s t n, digit_lt s n, digit_lt t n)))

-- a name that t does not hold
pub has-union-none : (n s t : ℕ) → T (not (has n t)) → has n (set_union s t) ≡ has n s
has-union-none n s t h =
    test_ext
    (has n (set_union s t))
    (has n s)
    (λ k. has_in n s (omega (arith, has_out n (set_union s t) k, digit-union s t n, none, digit_lt s n)))
    (λ k. has_in n (set_union s t) (omega (arith, has_out n s k, digit-union s t n, digit_lt t n)))
  where
    none : digit t n ≡ 0
    none = go (ℕ_discrete (digit t n) 1)
      where
        go : Dec (digit t n ≡ 1) → digit t n ≡ 0
        go (yes e) = absurd (T_not (has n t) h (has_in n t e))
        go (no f) = let l = digit_lt t n in below_two (digit t n) f l
          where
            below_two : (d : ℕ) → (d ≡ 1 → ⊥) → d < 2 → d ≡ 0
            below_two zero f l = refl
            below_two (suc zero) f l = absurd (f refl)
            below_two (suc (suc d)) f l = absurd (omega (arith, l))

pub has-empty : (n : ℕ) → T (not (has n 0))
has-empty n = not_T (has n 0) (λ h. omega (arith, has_out n 0 h, digit-empty n))

-- a set of one name has no other
pub has-single : (n m : ℕ) → T (has m (2 ^ n)) → n ≡ m
has-single n m h = go (ℕ_discrete n m)
  where
    go : Dec (n ≡ m) → n ≡ m
    go (yes p) = p
    go (no f) = absurd (omega (arith, has_out m (2 ^ n) h, digit-single_other n m f))
