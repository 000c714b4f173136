-- Parts that stand one behind the other, as those of a state do, and the one law for storing a part: in bytes that begin with parts, storing other
-- bytes of the same length at the place of part k gives the bytes with that part exchanged.
-- The idea: `Begins ps s₀ s` says that s is s₀ with the parts ps stored in front, each of its size. A call begins with the parts of the state that
-- it is lent (`proofs.StateLaws`), or with whatever stands there (`begins-any`), and stores part after part (`part_stored`).
-- No contract cites this file. Assumes nothing.
use Prim.Native.Nat.{ℕ, zero, suc, ◌+◌, ◌*◌, ◌≤◌, ◌<◌}
use mathlib.Core.Path.{◌≡◌, refl, sym, ap, ◌∙◌}
use mathlib.Core.List.{List, [], ◌∷◌}
use native.Mathlib.Nat.{zero-add, add-zero, add_assoc}
use native.Mathlib.Omega.{arith}
use lib.ListN.{length, get_or, set}
use lib.Seq.{set-set}
use Rattle.numbers.specs.Numbers.{put}
use Rattle.numbers.proofs.NumberLaws.{put-append, set-put}
use Rattle.epochs.specs.Epochs.{epochs_most}
use Rattle.clocks.specs.Places.{place_size}
use Rattle.state.specs.Layout.{joined, data_most, datum_size, entries_most, entry_size, clocks_most, state_size}
use Rattle.state.proofs.LayoutLaws.{part, length_part, part_add, At, at_first_lem, at_then}
use Rattle.state.proofs.PutLaws.{put_swap, part_stands, put_stands}

-- ---- parts of given sizes

-- each part has its size
abbrev pub Sized : List ℕ → List (List ℕ) → Type 0
Sized [] [] = Unit {0}
Sized [] (p ∷ ps) = ⊥
Sized (n ∷ ns) [] = ⊥
Sized (n ∷ ns) (p ∷ ps) = (length p ≡ n) × Sized ns ps

-- where part k begins
abbrev pub place_in : List ℕ → ℕ → ℕ
place_in ns zero = 0
place_in [] (suc k) = 0
place_in (n ∷ ns) (suc k) = n + place_in ns k

-- the parts one behind the other
abbrev pub together : List (List ℕ) → List ℕ
together ps = joined (λ p. p) ps

-- the parts of these sizes that stand in s from index at on
unfoldable pub cut_from : ℕ → List ℕ → List ℕ → List (List ℕ)
cut_from at [] s = []
cut_from at (n ∷ ns) s = part at n s ∷ cut_from (at + n) ns s

-- all sizes together
abbrev total : List ℕ → ℕ
total [] = 0
total (n ∷ ns) = n + total ns

cut_sized : (at : ℕ) (ns s : List ℕ) → at + total ns ≤ length s → Sized ns (cut_from at ns s)
unfolding cut_from
cut_sized at [] s h = tt
cut_sized at (n ∷ ns) s h = (length_part at n s (omega arith), cut_sized (at + n) ns s (omega arith))

pub cut_together : (at : ℕ) (ns s : List ℕ) → together (cut_from at ns s) ≡ part at (total ns) s
unfolding cut_from joined
cut_together at [] s = refl
cut_together at (n ∷ ns) s = rw (cut_together (at + n) ns s) (sym (part_add at n (total ns) s))

pub length_together : (ns : List ℕ) (ps : List (List ℕ)) → Sized ns ps → length (together ps) ≡ total ns
unfolding joined
length_together [] [] z = refl
length_together [] (p ∷ ps) z = absurd z
length_together (n ∷ ns) [] z = absurd z
length_together (n ∷ ns) (p ∷ ps) z = rw (lib.ListN.length-append, z.0, length_together ns ps z.1)

-- part k stands at its place
pub at_part_in : (ns : List ℕ) (ps : List (List ℕ)) (k at : ℕ) (s : List ℕ) → Sized ns ps → k < length ps → At at (together ps) s
    → At (at + place_in ns k) (get_or ps k []) s
unfolding joined
at_part_in [] [] k at s z l h = absurd (omega arith)
at_part_in [] (p ∷ ps) k at s z l h = absurd z
at_part_in (n ∷ ns) [] k at s z l h = absurd z
at_part_in (n ∷ ns) (p ∷ ps) zero at s z l h = rw add-zero (at_first_lem at p (together ps) s h)
at_part_in (n ∷ ns) (p ∷ ps) (suc k) at s z l h =
    rw (← (add_assoc at n (place_in ns k))) (at_part_in ns ps k (at + n) s z.1 (omega arith) (at_then n at p (together ps) s z.0 h))

-- ---- one part exchanged

-- what is stored over as much
pub put-over : (at : ℕ) (v p s : List ℕ) → length v ≡ length p → put at v (put at p s) ≡ put at v s
unfolding put
put-over at [] [] s e = refl
put-over at [] (x ∷ p) s e = absurd (omega arith)
put-over at (y ∷ v) [] s e = absurd (omega arith)
put-over at (y ∷ v) (x ∷ p) s e =
    rw (set-put at (suc at) y p (set s at x) (omega arith), set-set s at x y) (put-over (suc at) v p (set s at y) (omega arith))

sized_set : (ns : List ℕ) (ps : List (List ℕ)) (k : ℕ) (v : List ℕ) → Sized ns ps → length v ≡ get_or ns k 0 → Sized ns (set ps k v)
sized_set [] [] k v z e = tt
sized_set [] (p ∷ ps) k v z e = absurd z
sized_set (n ∷ ns) [] k v z e = absurd z
sized_set (n ∷ ns) (p ∷ ps) zero v z e = (e, z.1)
sized_set (n ∷ ns) (p ∷ ps) (suc k) v z e = (z.0, sized_set ns ps k v z.1 e)

part_put : (ns : List ℕ) (ps : List (List ℕ)) (k at : ℕ) (v s : List ℕ) → Sized ns ps → k < length ps → length v ≡ get_or ns k 0
    → put (at + place_in ns k) v (put at (together ps) s) ≡ put at (together (set ps k v)) s
unfolding joined
part_put [] [] k at v s z l e = absurd (omega arith)
part_put [] (p ∷ ps) k at v s z l e = absurd z
part_put (n ∷ ns) [] k at v s z l e = absurd z
part_put (n ∷ ns) (p ∷ ps) zero at v s z l e =
    rw (add-zero, put-append n at p (together ps) s z.0, put-append n at v (together ps) s e)
    (put_swap at (at + n) v (together ps) (put at p s) (omega arith) ∙ ap (λ (t : List ℕ). put (at + n) (together ps) t) (put-over at v p s (omega (arith, z.0))))
part_put (n ∷ ns) (p ∷ ps) (suc k) at v s z l e =
    rw (← (add_assoc at n (place_in ns k)), put-append n at p (together ps) s z.0, put-append n at p (together (set ps k v)) s z.0)
    (part_put ns ps k (at + n) v (put at p s) z.1 (omega arith) e)

-- ---- a state's parts

-- their sizes
abbrev pub part_sizes : List ℕ
part_sizes = 4 ∷ 4 ∷ 8 ∷ 4 ∷ 4 ∷ data_most * datum_size ∷ entries_most * entry_size ∷ clocks_most * place_size ∷ epochs_most ∷ []

-- s is s₀ with the parts stored in front
pub record Begins (ps : List (List ℕ)) (s₀ s : List ℕ) : Type 0 where
  pub sized : Sized part_sizes ps
  pub stored : s ≡ put 0 (together ps) s₀

-- whatever stands there
pub begins-any : (s : List ℕ) → state_size ≤ length s → Begins (cut_from 0 part_sizes s) s s
begins-any s h =
    record {
      sized = cut_sized 0 part_sizes s h;
      stored = rw (cut_together 0 part_sizes s) (sym (put_stands 0 (part 0 (total part_sizes) s) s (part_stands 0 (total part_sizes) s)));
    }

-- THE law: a part is stored, and is exchanged
pub part_stored : (k : ℕ) (v : List ℕ) (ps : List (List ℕ)) (s₀ s t : List ℕ) → k < length ps → length v ≡ get_or part_sizes k 0
    → t ≡ put (place_in part_sizes k) v s → Begins ps s₀ s → Begins (set ps k v) s₀ t
part_stored k v ps s₀ s t l e p b =
    record {
      sized = sized_set part_sizes ps k v b.sized e;
      stored = p ∙ rw (b.stored, ← (zero-add (place_in part_sizes k))) (part_put part_sizes ps k 0 v s₀ b.sized l e);
    }
