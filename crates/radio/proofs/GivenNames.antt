-- The names that a written message gives (`names_of`), identifier by identifier: one that the mask has is put last, any other is passed over.
-- No contract cites this file. Assumes nothing.
use Prim.Native.Nat.{ℕ, ◌+◌, ◌≤◌}
use mathlib.Core.Path.{◌≡◌, refl, sym, ap, ◌∙◌}
use mathlib.Core.Bool.{true, false}
use mathlib.Core.List.{List, [], ◌∷◌, ◌++◌, map, map-append, append-nil}
use native.Mathlib.Omega.{arith}
use lib.ListN.{length, get_or, set, length-append, length-set}
use Rattle.numbers.specs.Numbers.{tab, put}
use Rattle.numbers.proofs.NumberLaws.{tab_suc, put_then}
use Rattle.names.specs.Sets.{has}
use Rattle.std.specs.List.{filter}
use Rattle.predicates.proofs.ListLaws.{keep_append}
use Rattle.epochs.specs.Epochs.{name}

-- those of the first i identifiers
unfoldable pub names_below : List ℕ → ℕ → ℕ → List ℕ
names_below ks mask i = map (λ n. name n (get_or ks n 0)) (filter (λ n. has n mask) (tab i (λ n. n)))

module _ (ks : List ℕ) (mask i : ℕ) where
  pub below_next : has i mask ≡ true → names_below ks mask (i + 1) ≡ names_below ks mask i ++ (name i (get_or ks i 0) ∷ [])
  unfolding names_below
  below_next e =
      rw (tab_suc i (λ n. n), keep_append (λ n. has n mask) (tab i (λ n. n)) (i ∷ []), e)
      (map-append (λ n. name n (get_or ks n 0)) (filter (λ n. has n mask) (tab i (λ n. n))) (i ∷ []))

  pub below_skip : has i mask ≡ false → names_below ks mask (i + 1) ≡ names_below ks mask i
  unfolding names_below
  below_skip e =
      rw (tab_suc i (λ n. n), keep_append (λ n. has n mask) (tab i (λ n. n)) (i ∷ []), e)
      (ap (λ (l : List ℕ). map (λ n. name n (get_or ks n 0)) l) (append-nil (filter (λ n. has n mask) (tab i (λ n. n)))))

-- r of them are stored at the front of a list; the rest of it is as it was
pub record Given (ks : List ℕ) (mask i : ℕ) (names₀ names : List ℕ) (r : ℕ) : Type 0 where
  pub counted : r ≡ length (names_below ks mask i)
  pub few : r ≤ i
  pub long : length names ≡ length names₀
  pub stored : names ≡ put 0 (names_below ks mask i) names₀

pub given-none : (ks : List ℕ) (mask : ℕ) (names : List ℕ) → Given ks mask 0 names names 0
unfolding names_below tab put
given-none ks mask names = record { counted = refl; few = omega arith; long = refl; stored = refl }

module _ (ks : List ℕ) (mask i : ℕ) (names₀ names : List ℕ) (r : ℕ) (g : Given ks mask i names₀ names r) where
  pub given_skip : has i mask ≡ false → Given ks mask (i + 1) names₀ names r
  given_skip e =
      record {
        counted = rw (below_skip ks mask i e) g.counted;
        few = omega (arith, g.few);
        long = g.long;
        stored = rw (below_skip ks mask i e) g.stored;
      }

  pub given_next : (v : ℕ) → has i mask ≡ true → v ≡ name i (get_or ks i 0) → Given ks mask (i + 1) names₀ (set names r v) (r + 1)
  unfolding put
  given_next v e p =
      record {
        counted = rw (below_next ks mask i e, length-append (names_below ks mask i) (name i (get_or ks i 0) ∷ [])) (omega (arith, g.counted));
        few = omega (arith, g.few);
        long = length-set names r v ∙ g.long;
        stored = rw (below_next ks mask i e, p)
            (put_then r 0 r (names_below ks mask i) (name i (get_or ks i 0) ∷ []) names₀ names (set names r (name i (get_or ks i 0))) (sym g.counted) (omega arith) g.stored refl);
      }
