-- What is saved of a sender is what document 02 says of all triples that it has given: the rule for one more triple keeps the first of the largest.
-- The idea: the test for a larger triple compares sums, so it is an order in which no two differ but by their size. Assumes nothing.
use Prim.Native.Nat.{ℕ, ◌+◌}
use mathlib.Core.Path.{◌≡◌, refl, sym, ap, subst, ◌∙◌}
use mathlib.Core.Bool.{Bool, true, false, not, cond}
use mathlib.Core.List.{List, [], ◌∷◌, ◌++◌, append_assoc, append-nil}
use mathlib.Core.Logic.{⊎_elim}
use native.Mathlib.Omega.{arith}
use lib.Dec.{T, ltb, ltb→lt, lt→ltb, nltb→le}
use Rattle.predicates.specs.Lists.{In}
use Rattle.predicates.proofs.ListLaws.{in_cases}
use Rattle.clocks.specs.declared.Triple.{Triple}
use Rattle.clocks.specs.Clocks.{ahead, behind, ahead_of, behind_of, Saved, nothing, three, saving, saved_of, FirstLargest, SavedThree}

-- an order of triples: what is larger than one that is no smaller than another is larger than that one too
module _ (larger : Triple → Triple → Bool) (through : (u a t : Triple) → T (larger u a) → T (larger a t) → T (larger u t))
    (past : (u a t : Triple) → T (not (larger a u)) → T (larger a t) → T (larger u t)) where
  -- one triple more: the larger of it and the largest so far, the earlier on a tie
  largest_next : (ts : List Triple) (a t : Triple) → FirstLargest larger ts a → FirstLargest larger (ts ++ (t ∷ [])) (cond (larger a t) t a)
  largest_next ts a t f = go (larger a t) refl
    where
      go : (b : Bool) → larger a t ≡ b → FirstLargest larger (ts ++ (t ∷ [])) (cond b t a)
      go true e =
          record {
            front = ts;
            rest = [];
            parts = refl;
            more = λ u m. ⊎_elim (λ k. through u a t (f.more u k) (subst T (sym e) tt)) (λ k. ⊎_elim (λ q. subst (λ (v : Triple). T (larger v t)) (sym q) (subst T (sym e) tt)) (λ r. past u a t (f.most u r) (subst T (sym e) tt)) k)
                (in_cases u f.front (a ∷ f.rest) (subst (λ (l : List Triple). In u l) f.parts m));
            most = λ u m. absurd m;
          }
      go false e =
          record {
            front = f.front;
            rest = f.rest ++ (t ∷ []);
            parts = ap (λ (l : List Triple). l ++ (t ∷ [])) f.parts ∙ append_assoc f.front (a ∷ f.rest) (t ∷ []);
            more = f.more;
            most = λ u m. ⊎_elim (f.most u) (λ k. ⊎_elim (λ q. subst (λ (v : Triple). T (not (larger a v))) (sym q) (subst (λ (b : Bool). T (not b)) (sym e) tt)) (λ r. absurd r) k)
                (in_cases u f.rest (t ∷ []) m);
          }

-- ---- both orders: p less q is compared as sums

less_through : (p q r s t v : ℕ) → T (ltb (p + s) (r + q)) → T (ltb (r + v) (t + s)) → T (ltb (p + v) (t + q))
less_through p q r s t v h k = lt→ltb (p + v) (t + q) (omega (arith, ltb→lt (p + s) (r + q) h, ltb→lt (r + v) (t + s) k))

less_past : (p q r s t v : ℕ) → T (not (ltb (r + q) (p + s))) → T (ltb (r + v) (t + s)) → T (ltb (p + v) (t + q))
less_past p q r s t v h k = lt→ltb (p + v) (t + q) (omega (arith, nltb→le (r + q) (p + s) h, ltb→lt (r + v) (t + s) k))

ahead_next : (ts : List Triple) (a t : Triple) → FirstLargest ahead ts a → FirstLargest ahead (ts ++ (t ∷ [])) (ahead_of a t)
unfolding ahead_of
ahead_next =
    largest_next ahead
    (λ u a t. less_through (u.there + u.half) u.here (a.there + a.half) a.here (t.there + t.half) t.here)
    (λ u a t. less_past (u.there + u.half) u.here (a.there + a.half) a.here (t.there + t.half) t.here)

behind_next : (ts : List Triple) (a t : Triple) → FirstLargest behind ts a → FirstLargest behind (ts ++ (t ∷ [])) (behind_of a t)
unfolding behind_of
behind_next =
    largest_next behind
    (λ u a t. less_through (u.here + u.half) u.there (a.here + a.half) a.there (t.here + t.half) t.there)
    (λ u a t. less_past (u.here + u.half) u.there (a.here + a.half) a.there (t.here + t.half) t.there)

-- ---- what is saved

saved_next : (ts : List Triple) (s : Saved) (t : Triple) → SavedThree ts s → SavedThree (ts ++ (t ∷ [])) (saving s t)
unfolding SavedThree saving
saved_next ts nothing t h = absurd h
saved_next ts (three p a b) t h =
    ((ts, refl), ahead_next ts a t h.1, behind_next ts b t h.2)

saved_on : (ts us : List Triple) (s : Saved) → SavedThree ts s → SavedThree (ts ++ us) (saved_of s us)
unfolding saved_of
saved_on ts [] s h = subst (λ (l : List Triple). SavedThree l s) (sym (append-nil ts)) h
saved_on ts (u ∷ us) s h =
    subst (λ (l : List Triple). SavedThree l (saved_of (saving s u) us)) (append_assoc ts (u ∷ []) us) (saved_on (ts ++ (u ∷ [])) us (saving s u) (saved_next ts s u h))

-- after any triples that a sender has given, the three that are saved are those of document 02
pub saved-three : (t : Triple) (ts : List Triple) → SavedThree (t ∷ ts) (saved_of nothing (t ∷ ts))
unfolding SavedThree saving saved_of
saved-three t ts =
    saved_on (t ∷ []) ts (three t t t) (([], refl), only ahead, only behind)
  where
    only : (larger : Triple → Triple → Bool) → FirstLargest larger (t ∷ []) t
    only larger = record { front = []; rest = []; parts = refl; more = λ u m. absurd m; most = λ u m. absurd m }
