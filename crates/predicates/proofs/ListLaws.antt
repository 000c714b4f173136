-- Boolean tests as facts, tests over lists by their elements, and a list filled up with zeros. Assumes nothing.
use Prim.Native.Nat.{suc, ◌≤◌}
use mathlib.Core.Path.{◌≡◌, refl, sym, ap, subst, ◌∙◌}
use mathlib.Core.Logic.{◌⊎◌, inl, inr}
use mathlib.Core.Bool.{Bool, true, false, ◌&&◌, ◌||◌, not, cond, or_assoc}
use mathlib.Core.List.{List, [], ◌∷◌, ◌++◌, map, nil≢cons, head-eq_of_cons-eq, tail-eq_of_cons-eq}
use mathlib.Core.List.{Permᴰ}
use native.Mathlib.Nat.{le_refl}
use native.Mathlib.Omega.{arith}
use lib.Dec.{T}
use lib.ListN.{length}
use Rattle.std.specs.List.{list_any, list_all, filter}
use Rattle.predicates.specs.Lists.{In}

-- ---- Boolean tests

pub both : (a b : Bool) → T a → T b → T (a && b)
both true b p q = q
both false b p q = p

pub both_l : (a b : Bool) → T (a && b) → T a
both_l true b h = tt
both_l false b h = h

pub both_r : (a b : Bool) → T (a && b) → T b
both_r true b h = h
both_r false b h = absurd h

pub or_l : (a b : Bool) → T a → T (a || b)
or_l true b h = tt
or_l false b h = absurd h

pub or_r : (a b : Bool) → T b → T (a || b)
or_r true b h = tt
or_r false b h = h

pub or_cases : (a b : Bool) → T (a || b) → T a ⊎ T b
or_cases true b h = inl tt
or_cases false b h = inr h

pub neither : (a b : Bool) → T (not (a || b)) → T (not a) × T (not b)
neither true b h = absurd h
neither false b h = (tt, h)

pub or_swap : (a b c : Bool) → a || (b || c) ≡ b || (a || c)
or_swap true true c = refl
or_swap true false c = refl
or_swap false b c = refl

pub true_T : (b : Bool) → b ≡ true → T b
true_T b e = subst (λ (x : Bool). T x) (sym e) tt

pub T_true : (b : Bool) → T b → b ≡ true
T_true true h = refl
T_true false h = absurd h

pub T_false : (b : Bool) → T (not b) → b ≡ false
T_false true h = absurd h
T_false false h = refl

-- a test passes or not
pub split : (b : Bool) → T b ⊎ T (not b)
split true = inl tt
split false = inr tt

-- what holds of both branches, each with its test
pub cond_ind {ℓ} : {A : Type 0} (P : A → Type ℓ) (b : Bool) (x y : A) → (T b → P x) → (T (not b) → P y) → P (cond b x y)
cond_ind P true x y f g = f tt
cond_ind P false x y f g = g tt

-- ---- elements

module _ {A : Type 0} where
  pub in_l : (a : A) (l m : List A) → In a l → In a (l ++ m)
  in_l a [] m h = absurd h
  in_l a (x ∷ l) m (inl e) = inl e
  in_l a (x ∷ l) m (inr h) = inr (in_l a l m h)

  pub in_r : (a : A) (l m : List A) → In a m → In a (l ++ m)
  in_r a [] m h = h
  in_r a (x ∷ l) m h = inr (in_r a l m h)

  pub in_cases : (a : A) (l m : List A) → In a (l ++ m) → In a l ⊎ In a m
  in_cases a [] m h = inr h
  in_cases a (x ∷ l) m (inl e) = inl (inl e)
  in_cases a (x ∷ l) m (inr h) = go (in_cases a l m h)
    where
      go : In a l ⊎ In a m → ((a ≡ x) ⊎ In a l) ⊎ In a m
      go (inl k) = inl (inr k)
      go (inr k) = inr k

  pub any_in : (f : A → Bool) (l : List A) (a : A) → In a l → T (f a) → T (list_any f l)
  any_in f [] a h t = h
  any_in f (x ∷ l) a (inl e) t = or_l (f x) (list_any f l) (subst (λ y. T (f y)) e t)
  any_in f (x ∷ l) a (inr h) t = or_r (f x) (list_any f l) (any_in f l a h t)

  pub any_out : (f : A → Bool) (l : List A) → T (list_any f l) → (a : A) × In a l × T (f a)
  any_out f [] t = absurd t
  any_out f (x ∷ l) t = go (any_out f l) (or_cases (f x) (list_any f l) t)
    where
      go : (T (list_any f l) → (a : A) × In a l × T (f a)) → T (f x) ⊎ T (list_any f l) → (a : A) × In a (x ∷ l) × T (f a)
      go rest (inl h) = (x, inl refl, h)
      go rest (inr h) = let r = rest h in (r.0, inr r.1, r.2)

  pub all_out : (f : A → Bool) (l : List A) → T (list_all f l) → (a : A) → In a l → T (f a)
  all_out f [] t a h = absurd h
  all_out f (x ∷ l) t a (inl e) = subst (λ y. T (f y)) (sym e) (both_l (f x) (list_all f l) t)
  all_out f (x ∷ l) t a (inr h) = all_out f l (both_r (f x) (list_all f l) t) a h

  pub all_in : (f : A → Bool) (l : List A) → ((a : A) → In a l → T (f a)) → T (list_all f l)
  all_in f [] h = tt
  all_in f (x ∷ l) h = both (f x) (list_all f l) (h x (inl refl)) (all_in f l (λ a k. h a (inr k)))

  pub keep_in : (f : A → Bool) (l : List A) (a : A) → In a l → T (f a) → In a (filter f l)
  keep_in f [] a h t = h
  keep_in f (x ∷ l) a (inl e) t =
      cond_ind (λ m. In a m) (f x) (x ∷ filter f l) (filter f l) (λ _. inl e) (λ n. absurd (no_T (f x) n (subst (λ y. T (f y)) e t)))
    where
      no_T : (b : Bool) → T (not b) → T b → ⊥
      no_T true p q = p
      no_T false p q = q
  keep_in f (x ∷ l) a (inr h) t =
      let r = keep_in f l a h t in cond_ind (λ m. In a m) (f x) (x ∷ filter f l) (filter f l) (λ _. inr r) (λ _. r)

  pub keep_out : (f : A → Bool) (l : List A) (a : A) → In a (filter f l) → In a l × T (f a)
  keep_out f [] a = λ h. absurd h
  keep_out f (x ∷ l) a =
      let rest = keep_out f l a in
      cond_ind (λ m. In a m → In a (x ∷ l) × T (f a)) (f x) (x ∷ filter f l) (filter f l) (λ t h. first rest t h) (λ t h. later rest h)
    where
      later : (In a (filter f l) → In a l × T (f a)) → In a (filter f l) → In a (x ∷ l) × T (f a)
      later rest h = let r = rest h in (inr r.0, r.1)

      first : (In a (filter f l) → In a l × T (f a)) → T (f x) → In a (x ∷ filter f l) → In a (x ∷ l) × T (f a)
      first rest t (inl e) = (inl e, subst (λ y. T (f y)) (sym e) t)
      first rest t (inr h) = later rest h

  pub keep_passed : (f : A → Bool) (x : A) (l : List A) → T (f x) → filter f (x ∷ l) ≡ x ∷ filter f l
  keep_passed f x l t = ap (λ (b : Bool). cond b (x ∷ filter f l) (filter f l)) (T_true (f x) t)

  pub keep_failed : (f : A → Bool) (x : A) (l : List A) → T (not (f x)) → filter f (x ∷ l) ≡ filter f l
  keep_failed f x l t = ap (λ (b : Bool). cond b (x ∷ filter f l) (filter f l)) (T_false (f x) t)

  pub keep_all : (f : A → Bool) (l : List A) → T (list_all f l) → filter f l ≡ l
  keep_all f [] t = refl
  keep_all f (x ∷ l) t =
      keep_passed f x l (both_l (f x) (list_all f l) t) ∙ ap (λ (m : List A). x ∷ m) (keep_all f l (both_r (f x) (list_all f l) t))

  pub keep-none : (f : A → Bool) (l : List A) → T (list_all (λ x. not (f x)) l) → filter f l ≡ []
  keep-none f [] t = refl
  keep-none f (x ∷ l) t =
      let rest = list_all (λ y. not (f y)) l in keep_failed f x l (both_l (not (f x)) rest t) ∙ keep-none f l (both_r (not (f x)) rest t)

  pub keep-none_out : (f : A → Bool) (l : List A) → filter f l ≡ [] → (a : A) → In a l → T (f a) → ⊥
  keep-none_out f l e a h t = subst (λ (m : List A). In a m) e (keep_in f l a h t)

  pub all_keep : (f g : A → Bool) (l : List A) → T (list_all f l) → T (list_all f (filter g l))
  all_keep f g l h = all_in f (filter g l) (λ a m. all_out f l h a (keep_out g l a m).0)

  pub length-keep : (f : A → Bool) (l : List A) → length (filter f l) ≤ length l
  length-keep f [] = le_refl 0
  length-keep f (x ∷ l) =
      let h = length-keep f l in
      cond_ind (λ m. length m ≤ suc (length l)) (f x) (x ∷ filter f l) (filter f l) (λ _. omega arith) (λ _. omega arith)

-- ---- the same elements in another order

module _ {A : Type 0} where
  pub perm_in : {l m : List A} → Permᴰ l m → (a : A) → In a l → In a m
  perm_in Permᴰ.nil a h = h
  perm_in (Permᴰ.cons e d) a (inl p) = inl (p ∙ e)
  perm_in (Permᴰ.cons e d) a (inr h) = inr (perm_in d a h)
  perm_in (Permᴰ.swap e₁ e₂) a (inl p) = inr (inl (p ∙ e₁))
  perm_in (Permᴰ.swap e₁ e₂) a (inr (inl p)) = inl (p ∙ e₂)
  perm_in (Permᴰ.swap e₁ e₂) a (inr (inr h)) = inr (inr h)
  perm_in (Permᴰ.trans d₁ d₂) a h = perm_in d₂ a (perm_in d₁ a h)

module _ {A B : Type 0} (f : A → B) where
  pub map_in : (l : List A) (a : A) → In a l → In (f a) (map f l)
  map_in [] a m = m
  map_in (x ∷ l) a (inl e) = inl (ap f e)
  map_in (x ∷ l) a (inr m) = inr (map_in l a m)

  pub map_out : (l : List A) (b : B) → In b (map f l) → (a : A) × In a l × (b ≡ f a)
  map_out [] b m = absurd m
  map_out (x ∷ l) b (inl e) = (x, inl refl, e)
  map_out (x ∷ l) b (inr m) = let r = map_out l b m in (r.0, inr r.1, r.2)

-- ---- two lists one after the other

module _ {A : Type 0} where
  pub keep_append : (f : A → Bool) (xs ys : List A) → filter f (xs ++ ys) ≡ filter f xs ++ filter f ys
  keep_append f [] ys = refl
  keep_append f (x ∷ xs) ys = go (f x) (keep_append f xs ys)
    where
      go : (b : Bool) → filter f (xs ++ ys) ≡ filter f xs ++ filter f ys → cond b (x ∷ filter f (xs ++ ys)) (filter f (xs ++ ys)) ≡ cond b (x ∷ filter f xs) (filter f xs) ++ filter f ys
      go true e = ap (λ (l : List A). x ∷ l) e
      go false e = e

  -- x between ls and rs does not pass
  pub keep-without : (f : A → Bool) (ls : List A) (x : A) (rs : List A) → T (not (f x)) → filter f (ls ++ (x ∷ rs)) ≡ filter f (ls ++ rs)
  keep-without f ls x rs t =
      keep_append f ls (x ∷ rs) ∙ ap (λ (l : List A). filter f ls ++ l) (keep_failed f x rs t) ∙ sym (keep_append f ls rs)

  -- x is the first of l that passes, and the others that do are rest
  abbrev pub FirstKept : (A → Bool) → List A → A → List A → Type 0
  FirstKept f l x rest = (ls : List A) × (rs : List A) × (l ≡ ls ++ (x ∷ rs)) × (filter f ls ≡ []) × (filter f rs ≡ rest)

  pub first-kept : (f : A → Bool) (l : List A) (x : A) (rest : List A) → filter f l ≡ x ∷ rest → FirstKept f l x rest
  first-kept f [] x rest e = absurd (nil≢cons e)
  first-kept f (y ∷ l) x rest e = go (split (f y)) (first-kept f l x rest)
    where
      go : T (f y) ⊎ T (not (f y)) → (filter f l ≡ x ∷ rest → FirstKept f l x rest) → FirstKept f (y ∷ l) x rest
      go (inl t) found =
          let same : y ∷ filter f l ≡ x ∷ rest = sym (keep_passed f y l t) ∙ e in
          ([], l, ap (λ (z : A). z ∷ l) (head-eq_of_cons-eq same), refl, tail-eq_of_cons-eq same)
      go (inr t) found =
          let (ls, rs, cut, before, behind) = found (sym (keep_failed f y l t) ∙ e) in
          (y ∷ ls, rs, ap (λ (m : List A). y ∷ m) cut, keep_failed f y ls t ∙ before, behind)

  pub any_append : (f : A → Bool) (xs ys : List A) → list_any f (xs ++ ys) ≡ list_any f xs || list_any f ys
  any_append f [] ys = refl
  any_append f (x ∷ xs) ys = ap (λ (b : Bool). f x || b) (any_append f xs ys) ∙ sym (or_assoc (f x) (list_any f xs) (list_any f ys))
