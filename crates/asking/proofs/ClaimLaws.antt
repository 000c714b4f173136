-- What has to be explained: a set allows an instant exactly when it makes the predicates true that the instant needs, and it allows every instant
-- when it makes all of them true. Assumes nothing.
use mathlib.Core.Path.{refl}
use mathlib.Core.Logic.{◌⊎◌, inl, inr}
use mathlib.Core.Bool.{Bool, not}
use mathlib.Core.List.{List, [], ◌∷◌, ◌++◌}
use Prim.Native.Nat.{ℕ}
use lib.Dec.{T, T_not}
use lib.IntN.{ℤ, pos}
use Rattle.std.specs.List.{list_all, filter}
use Rattle.predicates.specs.Lists.{In}
use Rattle.predicates.specs.Predicates.{holds}
use Rattle.predicates.proofs.ListLaws.{both, split, in_l, in_r, all_in, all_out, keep_in, keep_out, map_in}
use Rattle.state.specs.Model.{Datum, Store, State}
use Rattle.predicates.proofs.IndexLaws.{all_append}
use Rattle.asking.specs.Instants.{Fine, Counts}
use Rattle.asking.specs.code.Claims.{inside, terms_of, needed_at, everything, Explained}
use Rattle.asking.proofs.InstantLaws.{inside_in, inside_out, Allows, not_active, inall_in, inall_out}

-- ---- a test of some entries and of the predicates of some data

module _ (f : List ℕ → Bool) where
  pub claims_in : (es : List (List ℕ)) (ds : List Datum) → T (list_all f es) → ((d : Datum) → In d ds → T (f d.terms)) → T (list_all f (es ++ terms_of ds))
  claims_in es ds h g = all_append f es (terms_of ds) h (each ds g)
    where
      each : (ds : List Datum) → ((d : Datum) → In d ds → T (f d.terms)) → T (list_all f (terms_of ds))
      each [] g = tt
      each (d ∷ ds) g = both (f d.terms) (list_all f (terms_of ds)) (g d (inl refl)) (each ds (λ e m. g e (inr m)))

  pub claims_out : (es : List (List ℕ)) (ds : List Datum) → T (list_all f (es ++ terms_of ds)) → T (list_all f es) × ((d : Datum) → In d ds → T (f d.terms))
  claims_out es ds h = (
    all_in f es (λ p m. all_out f (es ++ terms_of ds) h p (in_l p es (terms_of ds) m)),
    λ d m. all_out f (es ++ terms_of ds) h d.terms (in_r d.terms es (terms_of ds) (map_in (λ (e : Datum). e.terms) ds d m)),
  )

-- ---- for one set

module _ (s : ℕ) (k : Store) where
  pub everything_in : T (list_all (holds s) k.entries) → ((d : Datum) → In d k.held → T (holds s d.terms)) → T (list_all (holds s) (everything k))
  unfolding everything
  everything_in h f = claims_in (holds s) k.entries k.held h f

  pub everything_out : T (list_all (holds s) (everything k)) → (x : ℤ) → Fine s k x
  unfolding everything
  everything_out h x =
      let r = claims_out (holds s) k.entries k.held h in (r.0, inall_in s k.held x (λ d m. not_active s d (r.1 d m) x))

  pub needed_in : (x : ℕ) → Fine s k (pos x) → T (list_all (holds s) (needed_at x k))
  unfolding needed_at
  needed_in x h =
      claims_in (holds s) k.entries (filter (λ d. not (inside x d)) k.held) h.0
      (λ d m. go d (keep_out (λ (e : Datum). not (inside x e)) k.held d m) (split (holds s d.terms)))
    where
      go : (d : Datum) → In d k.held × T (not (inside x d)) → T (holds s d.terms) ⊎ T (not (holds s d.terms)) → T (holds s d.terms)
      go d r (inl t) = t
      go d r (inr a) = absurd (T_not (inside x d) r.1 (inside_in x d (inall_out s k.held (pos x) h.1 d r.0 a)))

  pub needed_out : (x : ℕ) → T (list_all (holds s) (needed_at x k)) → Fine s k (pos x)
  unfolding needed_at
  needed_out x h =
      let r = claims_out (holds s) k.entries (filter (λ d. not (inside x d)) k.held) h in
      (r.0, inall_in s k.held (pos x) (λ d m. go r.1 d m (split (inside x d))))
    where
      go : ((d : Datum) → In d (filter (λ e. not (inside x e)) k.held) → T (holds s d.terms)) → (d : Datum) → In d k.held
          → T (inside x d) ⊎ T (not (inside x d)) → Allows s (pos x) d
      go f d m (inl i) = λ _. inside_out x d i
      go f d m (inr o) = not_active s d (f d (keep_in (λ (e : Datum). not (inside x e)) k.held d m o)) (pos x)

-- ---- for some set within the limit

module _ (limit : ℕ) (st : State) where
  pub counts_in : (x : ℕ) → Explained limit st (needed_at x st.store) → Counts limit st (pos x)
  counts_in x h = (h.0, h.1, needed_out h.0 st.store x h.2)
