-- Lists by their places: tests of all elements, tests below a number, the element at a place, and the first elements of a list. No contract cites this
-- file. Assumes nothing.
use Prim.Native.Nat.{ℕ, zero, suc, ◌+◌, ◌≤◌, ◌<◌}
use mathlib.Core.Path.{◌≡◌, refl, sym, ap, subst, ◌∙◌}
use mathlib.Core.Logic.{◌⊎◌, inl, inr}
use mathlib.Core.Bool.{Bool, true, false}
use mathlib.Core.List.{List, [], ◌∷◌, ◌++◌, map, append-nil}
use native.Mathlib.Nat.{eq-or-lt_of_le, le_of_suc-le-suc}
use native.Mathlib.Decide.{ℕ_discrete}
use native.Mathlib.Numerals.{add-one}
use native.Mathlib.Omega.{arith}
use lib.Dec.{T, not_T}
use lib.ListN.{length, get_or, take, replicate}
use lib.Seq.{take-suc}
use Rattle.std.specs.List.{list_all, filter}
use Rattle.predicates.specs.Lists.{all_below, In}
use Rattle.predicates.proofs.ListLaws.{both, both_l, both_r, T_false, keep_append}

-- ---- tests of all elements

module _ {A : Type 0} where
  pub all_mono : (f g : A → Bool) (l : List A) → ((x : A) → T (f x) → T (g x)) → T (list_all f l) → T (list_all g l)
  all_mono f g [] h t = tt
  all_mono f g (x ∷ l) h t = both (g x) (list_all g l) (h x (both_l (f x) (list_all f l) t)) (all_mono f g l h (both_r (f x) (list_all f l) t))

  pub all_append : (f : A → Bool) (l m : List A) → T (list_all f l) → T (list_all f m) → T (list_all f (l ++ m))
  all_append f [] m t u = u
  all_append f (x ∷ l) m t u = both (f x) (list_all f (l ++ m)) (both_l (f x) (list_all f l) t) (all_append f l m (both_r (f x) (list_all f l) t) u)

  pub all_replicate : (f : A → Bool) (n : ℕ) (x : A) → T (f x) → T (list_all f (replicate n x))
  all_replicate f zero x t = tt
  all_replicate f (suc n) x t = both (f x) (list_all f (replicate n x)) t (all_replicate f n x t)

  pub all_get_or : (f : A → Bool) (l : List A) (i : ℕ) (d : A) → T (list_all f l) → i < length l → T (f (get_or l i d))
  all_get_or f [] i d t h = absurd (omega arith)
  all_get_or f (x ∷ l) zero d t h = both_l (f x) (list_all f l) t
  all_get_or f (x ∷ l) (suc i) d t h = all_get_or f l i d (both_r (f x) (list_all f l) t) (omega arith)

-- ---- tests below a number

pub below_in : (n : ℕ) (f : ℕ → Bool) → ((i : ℕ) → i < n → T (f i)) → T (all_below n f)
unfolding all_below
below_in zero f h = tt
below_in (suc n) f h = both (all_below n f) (f n) (below_in n f (λ i k. h i (omega arith))) (h n (omega arith))

pub below_out : (n : ℕ) (f : ℕ → Bool) → T (all_below n f) → (i : ℕ) → i < n → T (f i)
unfolding all_below
below_out zero f t i h = absurd (omega arith)
below_out (suc n) f t i h = last (eq-or-lt_of_le (le_of_suc-le-suc h)) (below_out n f (both_l (all_below n f) (f n) t) i)
  where
    last : (i ≡ n) ⊎ (i < n) → (i < n → T (f i)) → T (f i)
    last (inl e) rest = subst (λ (k : ℕ). T (f k)) (sym e) (both_r (all_below n f) (f n) t)
    last (inr k) rest = rest k

-- one that fails decides
pub below_stop : (f : ℕ → Bool) (i n : ℕ) → i < n → f i ≡ false → all_below n f ≡ false
below_stop f i n h e = T_false (all_below n f) (not_T (all_below n f) (λ t. subst (λ (b : Bool). T b) e (below_out n f t i h)))

pub below_next : (f : ℕ → Bool) (i : ℕ) → ((k : ℕ) → k < i → f k ≡ false) → f i ≡ false → (k : ℕ) → k < i + 1 → f k ≡ false
below_next f i h e k p = go (ℕ_discrete k i)
  where
    go : Dec (k ≡ i) → f k ≡ false
    go (yes q) = ap f q ∙ e
    go (no q) = h k (omega arith)

-- ---- the element at a place, and the first ones

-- an element of the front of a list by its place
pub in_take : (n : ℕ) (l : List ℕ) (x : ℕ) → In x (take n l) → (j : ℕ) × (j < n) × (x ≡ get_or l j 0)
in_take zero l x m = absurd m
in_take (suc n) [] x m = absurd m
in_take (suc n) (y ∷ l) x (inl e) = (0, omega arith, e)
in_take (suc n) (y ∷ l) x (inr m) = let r = in_take n l x m in (suc r.0, omega (arith, r.1), r.2)

pub take_in : (n : ℕ) (l : List ℕ) → n ≤ length l → {x : ℕ} → (j : ℕ) × (j < n) × (x ≡ get_or l j 0) → In x (take n l)
take_in zero l h w = absurd (omega (arith, w.1))
take_in (suc n) [] h w = absurd (omega arith)
take_in (suc n) (y ∷ l) h (zero, _, e) = inl e
take_in (suc n) (y ∷ l) h (suc j, b, e) = inr (take_in n l (omega arith) (j, omega arith, e))

pub at_in : {A : Type 0} (l : List A) (d : A) (j : ℕ) → j < length l → In (get_or l j d) l
at_in [] d j h = absurd (omega arith)
at_in (x ∷ l) d zero h = inl refl
at_in (x ∷ l) d (suc j) h = inr (at_in l d j (omega arith))

pub get_or_map : {A B : Type 0} (f : A → B) (l : List A) (a : A) (b : B) (j : ℕ) → j < length l → get_or (map f l) j b ≡ f (get_or l j a)
get_or_map f [] a b j h = absurd (omega arith)
get_or_map f (x ∷ l) a b zero h = refl
get_or_map f (x ∷ l) a b (suc j) h = get_or_map f l a b j (omega arith)

pub in_at : {A : Type 0} (l : List A) (d a : A) → In a l → (j : ℕ) × (j < length l) × (a ≡ get_or l j d)
in_at [] d a m = absurd m
in_at (x ∷ l) d a (inl e) = (0, omega arith, e)
in_at (x ∷ l) d a (inr m) = let r = in_at l d a m in (suc r.0, omega (arith, r.1), r.2)

-- what of the first elements passes a test, one element further
module _ (f : ℕ → Bool) (order : List ℕ) (i : ℕ) (h : i < length order) where
  kept-last : filter f (take (i + 1) order) ≡ filter f (take i order) ++ filter f (get_or order i 0 ∷ [])
  kept-last =
      let more : take (i + 1) order ≡ take i order ++ (get_or order i 0 ∷ []) = rw add-one (take-suc order i 0 h) in
      ap (filter f) more ∙ keep_append f (take i order) (get_or order i 0 ∷ [])

  pub kept-take : f (get_or order i 0) ≡ true → filter f (take (i + 1) order) ≡ filter f (take i order) ++ (get_or order i 0 ∷ [])
  kept-take e = rw e at kept-last

  pub kept_pass : f (get_or order i 0) ≡ false → filter f (take (i + 1) order) ≡ filter f (take i order)
  kept_pass e = (rw e at kept-last) ∙ append-nil (filter f (take i order))
