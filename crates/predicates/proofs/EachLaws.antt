-- Claims of every element of a list, where a claim is any type: what a list that is filtered, mapped or added to claims, by what it was before.
-- Assumes nothing.
use mathlib.Core.Path.{refl, sym, subst}
use mathlib.Core.Logic.{◌↔◌, inl, inr, ⊎_elim}
use mathlib.Core.Bool.{Bool, not, cond}
use mathlib.Core.List.{List, [], ◌∷◌, ◌++◌, map}
use lib.Dec.{T}
use Rattle.std.specs.List.{list_any, filter}
use Rattle.predicates.specs.Lists.{In}
use Rattle.predicates.proofs.ListLaws.{split, cond_ind, in_l, in_r, in_cases, any_out, keep_in, keep_out}

module _ {A : Type 0} (F : A → Type 0) where
  -- each element has F
  abbrev pub Each : List A → Type 0
  Each l = (a : A) → In a l → F a

  pub each_cons : (x : A) (l : List A) → Each (x ∷ l) ↔ (F x × Each l)
  each_cons x l = (λ h. (h x (inl refl), λ a m. h a (inr m)), go)
    where
      go : F x × Each l → (a : A) → In a (x ∷ l) → F a
      go h a (inl e) = subst F (sym e) h.0
      go h a (inr m) = h.1 a m

  -- one more, last
  each_last : (l : List A) (x : A) → Each (l ++ (x ∷ [])) ↔ (F x × Each l)
  each_last l x = (
    λ h. (h x (in_r x l (x ∷ []) (inl refl)), λ a m. h a (in_l a l (x ∷ []) m)),
    λ h a m. ⊎_elim (h.1 a) ((each_cons x []).1 (h.0, λ b k. absurd k) a) (in_cases a l (x ∷ []) m),
  )

  -- elements go that have F anyway
  pub each_dropped : (r : A → Bool) (l : List A) → ((a : A) → T (r a) → F a) → Each (filter (λ a. not (r a)) l) ↔ Each l
  each_dropped r l f = (
    λ h a m. ⊎_elim (f a) (λ t. h a (keep_in (λ b. not (r b)) l a m t)) (split (r a)),
    λ h a m. h a (keep_out (λ b. not (r b)) l a m).0,
  )

  -- x is added, unless some element says as much as x; then those go that say no more than x
  pub each_added : (r : A → A → Bool) → ((a b : A) → T (r a b) → F a → F b) → (x : A) (l : List A)
      → Each (cond (list_any (λ a. r a x) l) l (filter (λ a. not (r x a)) l ++ (x ∷ []))) ↔ (F x × Each l)
  each_added r f x l =
      let rest = filter (λ a. not (r x a)) l in
      cond_ind (λ m. Each m ↔ (F x × Each l)) (list_any (λ a. r a x) l) l (rest ++ (x ∷ []))
      (λ t. let a = any_out (λ a. r a x) l t in (λ h. (f a.0 x a.2 (h a.0 a.1), h), λ h. h.1))
      (λ _. (
        λ h. let k = (each_last rest x).0 h in (k.0, (each_dropped (r x) l (λ a t. f x a t k.0)).0 k.1),
        λ h. (each_last rest x).1 (h.0, (each_dropped (r x) l (λ a t. f x a t h.0)).1 h.1),
      ))

pub each_map : {A B : Type 0} (F : B → Type 0) (f : A → B) (l : List A) → Each F (map f l) ↔ Each (λ a. F (f a)) l
each_map F f [] = (λ h a m. absurd m, λ h b m. absurd m)
each_map F f (x ∷ l) =
    let rest = each_map F f l in (
      λ h. let k = (each_cons F (f x) (map f l)).0 h in (each_cons (λ a. F (f a)) x l).1 (k.0, rest.0 k.1),
      λ h. let k = (each_cons (λ a. F (f a)) x l).0 h in (each_cons F (f x) (map f l)).1 (k.0, rest.1 k.1),
    )
