-- Numbers or-ed together: the sum is zero where each is, and below a power of two where each is. Assumes nothing.
use Prim.Native.Nat.{ℕ, ◌^◌}
use mathlib.Core.Path.{◌≡◌}
use mathlib.Core.Bool.{◌&&◌}
use native.Mathlib.Omega.{arith}
use borrow.Author.Tests.{eq-eqb}
use lib.Bits.{bit_or, or_add_and, and_le_l, and_le_r, or_lt}
use lib.Dec.{eqb, eqb→eq, ltb, ltb→lt, lt→ltb}
use Rattle.names.proofs.SetLaws.{test_ext}
use Rattle.predicates.proofs.ListLaws.{both, both_l, both_r, true_T}

-- a number that is zero where two others are
pub both_zero : (x v w : ℕ) → (x ≡ 0 → (v ≡ 0) × (w ≡ 0)) → (v ≡ 0 → w ≡ 0 → x ≡ 0) → eqb x 0 ≡ eqb v 0 && eqb w 0
both_zero x v w f g =
    test_ext (eqb x 0) (eqb v 0 && eqb w 0)
    (λ h. let e = f (eqb→eq x 0 h) in both (eqb v 0) (eqb w 0) (true_T _ (eq-eqb v 0 e.0)) (true_T _ (eq-eqb w 0 e.1)))
    (λ h. true_T _ (eq-eqb x 0 (g (eqb→eq v 0 (both_l (eqb v 0) (eqb w 0) h)) (eqb→eq w 0 (both_r (eqb v 0) (eqb w 0) h)))))

pub or_zero : (v w : ℕ) → eqb (bit_or v w) 0 ≡ eqb v 0 && eqb w 0
or_zero v w =
    let sum = or_add_and v w in
    let low = and_le_l v w in
    let high = and_le_r v w in
    both_zero (bit_or v w) v w (λ e. (omega arith, omega arith)) (λ a b. omega arith)

pub or_below : (k v w : ℕ) → ltb (bit_or v w) (2 ^ k) ≡ ltb v (2 ^ k) && ltb w (2 ^ k)
or_below k v w =
    let sum = or_add_and v w in
    let low = and_le_l v w in
    let high = and_le_r v w in
    test_ext (ltb (bit_or v w) (2 ^ k)) (ltb v (2 ^ k) && ltb w (2 ^ k))
    (λ h. let b = ltb→lt (bit_or v w) (2 ^ k) h in both (ltb v (2 ^ k)) (ltb w (2 ^ k)) (lt→ltb v (2 ^ k) (omega arith)) (lt→ltb w (2 ^ k) (omega arith)))
    (λ h. lt→ltb (bit_or v w) (2 ^ k) (or_lt k v w (ltb→lt v (2 ^ k) (both_l (ltb v (2 ^ k)) (ltb w (2 ^ k)) h)) (ltb→lt w (2 ^ k) (both_r (ltb v (2 ^ k)) (ltb w (2 ^ k)) h))))
