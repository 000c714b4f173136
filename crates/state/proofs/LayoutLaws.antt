-- Laws of the layout (`specs.Layout`): how long each part is, and what stands at which place.
-- The idea: `At at a s` says that the bytes a stand in s from index at on. What is written is taken apart by `at_first_lem` and `at_then`, and
-- a list of elements of one size by `at_joined`; the way back goes by `part at n s`, the n bytes that stand there.
-- No contract cites this file. Assumes nothing.
use Prim.Native.Nat.{ℕ, zero, suc, ◌+◌, ◌*◌, ◌^◌, ◌≤◌, ◌<◌}
use mathlib.Core.Path.{◌≡◌, refl, sym, ap, ◌∙◌}
use mathlib.Core.Bool.{Bool, true}
use mathlib.Core.List.{List, [], ◌∷◌, ◌++◌, append_assoc, append-nil}
use native.Mathlib.Nat.{zero-add, add-zero, add-suc, suc-add, suc-mul, zero-mul}
use native.Mathlib.Omega.{arith}
use lib.Dec.{T, eqb, eqb→eq}
use lib.ListN.{length, get_or, take, drop, get_or-append, length-append, length-replicate, length-drop}
use lib.Seq.{slice, take-nil, take-add, take_at, drop_at, drop-drop, get_or-drop, length-take-le}
use Rattle.numbers.specs.Numbers.{num, bytes, tab, bytes_of}
use Rattle.numbers.proofs.NumberLaws.{num-bytes, length-bytes, length-bytes_of, tab_ext}
use Rattle.std.specs.List.{list_all}
use Rattle.predicates.specs.Lists.{padded}
use Rattle.predicates.proofs.ListLaws.{both, both_l, both_r}
use Rattle.epochs.specs.Epochs.{epochs_most, epochs_in}
use Rattle.state.specs.Model.{Datum}
use Rattle.state.specs.Layout.{zeros, joined, row_bytes, datum_bytes, entry_bytes}
use Rattle.predicates.proofs.IndexLaws.{all_append}

-- ---- tests over all elements

module _ {A : Type 0} where
  pub all-tab : (f : A → Bool) (n : ℕ) (g : ℕ → A) → ((i : ℕ) → i < n → T (f (g i))) → T (list_all f (tab n g))
  unfolding tab
  all-tab f zero g h = tt
  all-tab f (suc n) g h =
      all_append f (tab n g) (g n ∷ []) (all-tab f n g (λ i k. h i (omega arith))) (both (f (g n)) true (h n (omega arith)) tt)

-- a list of zeros alone
pub all_zero : (l : List ℕ) → T (list_all (λ b. eqb b 0) l) → l ≡ zeros (length l)
all_zero [] t = refl
all_zero (b ∷ l) t =
    let e : b ≡ 0 = eqb→eq b 0 (both_l (eqb b 0) _ t) in
    rw (e, ← (all_zero l (both_r (eqb b 0) _ t)))

-- ---- parts of a list

-- the n elements from index at on
abbrev pub part : ℕ → ℕ → List ℕ → List ℕ
part at n s = take n (drop at s)

pub length_part : (at n : ℕ) (s : List ℕ) → at + n ≤ length s → length (part at n s) ≡ n
length_part at n s h = length-take-le n (drop at s) (omega (arith, length-drop at s))

pub part_add : (at m n : ℕ) (s : List ℕ) → part at (m + n) s ≡ part at m s ++ part (at + m) n s
part_add at m n s = rw (take-add m n (drop at s), drop-drop m at s)

-- a part, by its end
pub slice_part : (at n : ℕ) (s : List ℕ) → slice at (at + n) s ≡ part at n s
slice_part zero n s = rw zero-add
slice_part (suc at) n [] = rw suc-add (sym (take-nil n))
slice_part (suc at) n (x ∷ s) = rw suc-add (slice_part at n s)

-- the bytes a stand in s from index at on
abbrev pub At : ℕ → List ℕ → List ℕ → Type 0
At at a s = (r : List ℕ) × (drop at s ≡ a ++ r)

pub at_first_lem : (at : ℕ) (a b s : List ℕ) → At at (a ++ b) s → At at a s
at_first_lem at a b s h = (b ++ h.0, h.1 ∙ append_assoc a b h.0)

pub at_then : (n at : ℕ) (a b s : List ℕ) → length a ≡ n → At at (a ++ b) s → At (at + n) b s
at_then n at a b s e h =
    (h.0, sym (drop-drop n at s) ∙ ap (λ (t : List ℕ). drop n t) (h.1 ∙ append_assoc a b h.0) ∙ drop_at a (b ++ h.0) n e)

pub at_part : (n at : ℕ) (a s : List ℕ) → length a ≡ n → At at a s → part at n s ≡ a
at_part n at a s e h = ap (λ (t : List ℕ). take n t) h.1 ∙ take_at a h.0 n e

pub num-drop : (n k at : ℕ) (s : List ℕ) → num at n (drop k s) ≡ num (k + at) n s
unfolding num
num-drop zero k at s = refl
num-drop (suc n) k at s = rw (get_or-drop, num-drop n k (suc at) s, add-suc)

-- a number that stands at a place is read there
pub num_at : (n at x : ℕ) (s : List ℕ) → x < 256 ^ n → At at (bytes n x) s → num at n s ≡ x
num_at n at x s b h =
    ap (λ (k : ℕ). num k n s) (sym (add-zero at)) ∙ sym (num-drop n at 0 s) ∙ ap (λ (t : List ℕ). num 0 n t) h.1 ∙ num-bytes n x h.0 b

-- ---- joined: elements one after the other

pub bytes_of-joined : (ws : List ℕ) → bytes_of ws ≡ joined (bytes 4) ws
unfolding bytes_of joined
bytes_of-joined [] = refl
bytes_of-joined (w ∷ ws) = rw (bytes_of-joined ws)

module _ {A : Type 0} (f : A → List ℕ) where
  joined-append : (xs ys : List A) → joined f (xs ++ ys) ≡ joined f xs ++ joined f ys
  unfolding joined
  joined-append [] ys = refl
  joined-append (x ∷ xs) ys = rw (joined-append xs ys, append_assoc)

  -- the elements that stand at places, written
  pub joined-tab : (size at n : ℕ) (g : ℕ → A) (s : List ℕ) → ((i : ℕ) → i < n → f (g i) ≡ part (at + i * size) size s)
      → joined f (tab n g) ≡ part at (n * size) s
  unfolding joined tab
  joined-tab size at zero g s h = rw zero-mul
  joined-tab size at (suc n) g s h =
      rw (joined-append, append-nil, joined-tab size at n g s (λ i k. h i (omega arith)), h n (omega arith), suc-mul, part_add)

  -- elements of one size
  module _ (p : A → Bool) (size : ℕ) (sized : (x : A) → T (p x) → length (f x) ≡ size) where
    pub length-joined : (xs : List A) → T (list_all p xs) → length (joined f xs) ≡ length xs * size
    unfolding joined
    length-joined [] t = rw zero-mul
    length-joined (x ∷ xs) t =
        rw (length-append, sized x (both_l (p x) (list_all p xs) t), length-joined xs (both_r (p x) (list_all p xs) t), suc-mul) (omega arith)

    -- element i stands i sizes on
    pub at_joined : (d : A) (at i : ℕ) (xs : List A) (s : List ℕ) → T (list_all p xs) → i < length xs → At at (joined f xs) s
        → At (at + i * size) (f (get_or xs i d)) s
    unfolding joined
    at_joined d at i [] s t k h = absurd (omega arith)
    at_joined d at zero (x ∷ xs) s t k h = rw (zero-mul, add-zero) (at_first_lem at (f x) (joined f xs) s h)
    at_joined d at (suc i) (x ∷ xs) s t k h =
        let rest = at_then size at (f x) (joined f xs) s (sized x (both_l (p x) (list_all p xs) t)) h in
        let e : at + suc i * size ≡ at + size + i * size = rw suc-mul (omega arith) in
        rw e (at_joined d (at + size) i xs s (both_r (p x) (list_all p xs) t) (omega arith) rest)

-- ---- length

pub length-padded : (n : ℕ) (p : List ℕ) → length p ≤ n → length (padded n p) ≡ n
unfolding padded
length-padded n p h = rw (length-append, length-replicate) (omega arith)

-- a count of 4 bytes and `width` masks
pub length-row : (width : ℕ) (p : List ℕ) → length p ≤ width → length (row_bytes width p) ≡ 4 + width * 4
unfolding row_bytes
length-row width p h = rw (length-append, length-bytes, length-bytes_of, length-padded width p h)

pub length-datum : (d : Datum) → length d.terms ≤ 8 → length (datum_bytes d) ≡ 60
unfolding datum_bytes
length-datum d h = simp (length-append, length-bytes, length-row 8 d.terms h)

pub length_entry : (e : List ℕ) → length e ≤ 16 → length (entry_bytes e) ≡ 68
unfolding entry_bytes
length_entry e h = length-row 16 e h

-- ---- epochs

-- those that stand at a place are read there
pub known_at_lem : (at : ℕ) (es s : List ℕ) → length es ≡ epochs_most → At at es s → epochs_in at s ≡ es
unfolding epochs_in
known_at_lem at es s e h =
    tab_ext 0 epochs_most (λ n. get_or s (at + n) 0) es e
    (λ n k. sym (get_or-drop at s n 0) ∙ ap (λ (t : List ℕ). get_or t n 0) h.1 ∙ get_or-append es h.0 0 n (omega (arith, k, e)))
