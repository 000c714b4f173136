-- Instants in intervals, and the instants that one set of failed names allows: a held datum at a time, so that what is known of each datum is
-- known of all, and back. An instant below 0 is in no interval. Assumes nothing.
use mathlib.Core.Path.{refl, sym, subst}
use mathlib.Core.Logic.{inl, inr}
use mathlib.Core.Bool.{not}
use mathlib.Core.List.{List, [], ◌∷◌}
use Prim.Native.Nat.{ℕ, ◌≤◌, ◌<◌, min, max}
use native.Mathlib.Omega.{arith}
use lib.Dec.{T, T_not, leb, leb→le, le→leb}
use lib.IntN.{ℤ, pos, negsuc}
use Rattle.predicates.specs.Lists.{In}
use Rattle.predicates.specs.Predicates.{holds}
use Rattle.predicates.proofs.ListLaws.{both, both_l, both_r}
use Rattle.state.specs.Model.{Datum}
use Rattle.asking.specs.Instants.{Within, InAll}
use Rattle.asking.specs.code.Claims.{inside}

-- ---- intervals

pub within_none : (l r : ℕ) (x : ℤ) → r < l → Within l r x → ⊥
within_none l r (pos n) h w = omega arith
within_none l r (negsuc n) h w = w

pub within_wider : (a b l r : ℕ) (x : ℤ) → l ≤ a → b ≤ r → Within a b x → Within l r x
within_wider a b l r (pos n) h k w = (omega arith, omega arith)
within_wider a b l r (negsuc n) h k w = w

pub within-meet : (a b c d : ℕ) (x : ℤ) → Within a b x → Within c d x → Within (max a c) (min b d) x
within-meet a b c d (pos n) h k = (omega arith, omega arith)
within-meet a b c d (negsuc n) h k = h

pub meet_within : (a b c d : ℕ) (x : ℤ) → Within (max a c) (min b d) x → Within a b x × Within c d x
meet_within a b c d x h = (
  within_wider (max a c) (min b d) a b x (omega arith) (omega arith) h,
  within_wider (max a c) (min b d) c d x (omega arith) (omega arith) h,
)

pub inside_in : (x : ℕ) (d : Datum) → Within d.left d.right (pos x) → T (inside x d)
unfolding inside
inside_in x d h = both (leb d.left x) (leb x d.right) (le→leb d.left x h.0) (le→leb x d.right h.1)

pub inside_out : (x : ℕ) (d : Datum) → T (inside x d) → Within d.left d.right (pos x)
unfolding inside
inside_out x d h = (
  leb→le d.left x (both_l (leb d.left x) (leb x d.right) h),
  leb→le x d.right (both_r (leb d.left x) (leb x d.right) h),
)

-- ---- the instants that a set allows

module _ (s : ℕ) where
  -- s leaves the datum's predicate false
  abbrev pub Active : Datum → Type 0
  Active d = T (not (holds s d.terms))

  -- "true time is in the interval, or the predicate is true": the claim of a datum about the instant x
  abbrev pub Allows : ℤ → Datum → Type 0
  Allows x d = Active d → Within d.left d.right x

  pub not_active : (d : Datum) → T (holds s d.terms) → (x : ℤ) → Allows x d
  not_active d h x a = absurd (T_not (holds s d.terms) a h)

  pub inall_out : (ds : List Datum) (x : ℤ) → InAll s ds x → (d : Datum) → In d ds → Allows x d
  inall_out [] x h d m = absurd m
  inall_out (e ∷ ds) x h d (inl p) = subst (λ (c : Datum). Allows x c) (sym p) h.0
  inall_out (e ∷ ds) x h d (inr m) = inall_out ds x h.1 d m

  pub inall_in : (ds : List Datum) (x : ℤ) → ((d : Datum) → In d ds → Allows x d) → InAll s ds x
  inall_in [] x f = tt
  inall_in (e ∷ ds) x f = (f e (inl refl), inall_in ds x (λ d m. f d (inr m)))

  -- what lies between two instants that s allows
  pub inall_between : (ds : List Datum) (a b c : ℕ) → a ≤ b → b ≤ c → InAll s ds (pos a) → InAll s ds (pos c) → InAll s ds (pos b)
  inall_between ds a b c l r h k =
      inall_in ds (pos b) (λ d m v.
      let p = inall_out ds (pos a) h d m v in let q = inall_out ds (pos c) k d m v in (omega arith, omega arith))
