-- Lists that are filled, filtered and joined in place: the calls of `sums`, on plain values. No contract cites this file. Assumes nothing.
use Prim.Native.Nat.{ℕ, suc, ◌+◌, ◌-◌, ◌^◌, ◌≤◌, ◌<◌}
use mathlib.Core.Path.{◌≡◌, refl, sym, ap, ◌∙◌}
use mathlib.Core.Bool.{Bool, true, false, not, cond, or_comm}
use mathlib.Core.List.{List, [], ◌∷◌, ◌++◌, append_assoc, append-nil}
use native.Mathlib.Nat.{zero-add}
use native.Mathlib.Numerals.{add-one}
use native.Mathlib.Omega.{arith}
use borrow.Rule.Slice.PartMut.{put_mid}
use lib.ListN.{length, get_or, take, drop, set, replicate, length-append, length-set, length-drop, drop_of_length-le}
use lib.Seq.{sets, sets-eq, length-sets, drop-append-add, length-take-le, take_at, drop_at, set_at, drop-drop, take-set-le, get_or-set_same}
use Rattle.names.specs.Sets.{has}
use Rattle.predicates.specs.Lists.{padded}
use Rattle.predicates.specs.Predicates.{holds, struck, normal, formed}
use Rattle.predicates.specs.code.Sifts.{sifted}
use Rattle.predicates.proofs.LoopLaws.{drop_next}
use Rattle.predicates.proofs.PlaceLaws.{padded-zeros, length-padded}
use Rattle.predicates.proofs.PredicateLaws.{holds-sum, normal-same}

-- ---- a run that is stored place by place

pub zeros-turn : (s : List ℕ) (i n : ℕ) → i < n → sets (set s i 0) (i + 1) (replicate (n - (i + 1)) 0) ≡ sets s i (replicate (n - i) 0)
zeros-turn s i n h = let e : n - i ≡ suc (n - (i + 1)) = omega arith in rw (e, add-one)

pub zeros_end : (s : List ℕ) (i n : ℕ) → n ≤ i → sets s i (replicate (n - i) 0) ≡ s
zeros_end s i n h = let e : n - i ≡ 0 = omega arith in rw e

pub copy-turn : (s p : List ℕ) (at i : ℕ) → i < length p → sets (set s (at + i) (get_or p i 0)) (at + (i + 1)) (drop (i + 1) p) ≡ sets s (at + i) (drop i p)
copy-turn s p at i h = let e : at + (i + 1) ≡ suc (at + i) = omega arith in rw (e, drop_next p i h)

-- a list that is copied into the places from `at` on; k places are lent for it
pub copied : (at k : ℕ) (l ys p : List ℕ) → at + length p ≤ length l → k ≡ length p → ys ≡ p → put_mid at k l ys ≡ sets l at p
copied at k l ys p h m e =
    let same : drop k (drop at l) ≡ drop (at + length p) l = rw m (drop-drop (length p) at l) in
    rw (e, same, ← append_assoc (take at l) p (drop (at + length p) l)) (sym (sets-eq p l at h))

-- ---- two predicates, one behind the other

pub both_calls : (l p q s t : List ℕ) → length p + length q ≤ length l → s ≡ sets l 0 p → t ≡ sets s (length p) q
    → t ≡ (p ++ q) ++ drop (length p + length q) l
both_calls l p q s t h a b =
    let n = length p + length q in
    let one : s ≡ p ++ drop (length p) l = a ∙ sets-eq p l 0 (omega arith) ∙ rw zero-add in
    let long : length s ≡ length l = ap length a ∙ length-sets l 0 p in
    let behind : drop n s ≡ drop n l =
    ap (λ (x : List ℕ). drop n x) one ∙ drop-append-add p (drop (length p) l) (length q) ∙ drop-drop (length q) (length p) l in
    b ∙ sets-eq q s (length p) (omega arith) ∙ rw (ap (λ (x : List ℕ). take (length p) x) one ∙ take_at p (drop (length p) l) (length p) refl, behind)

-- ---- striking a name: a sifting in which what has been kept plays no part

pub struck-sifted : (name : ℕ) (kept p : List ℕ) → sifted (λ k t. has name t) kept p ≡ struck name p
unfolding sifted struck
struck-sifted name kept [] = refl
struck-sifted name kept (t ∷ p) = go (has name t) (struck-sifted name kept p) (struck-sifted name (kept ++ (t ∷ [])) p)
  where
    go : (b : Bool) → sifted (λ k u. has name u) kept p ≡ struck name p → sifted (λ k u. has name u) (kept ++ (t ∷ [])) p ≡ struck name p
        → cond b (sifted (λ k u. has name u) kept p) (t ∷ sifted (λ k u. has name u) (kept ++ (t ∷ [])) p) ≡ cond (not b) (t ∷ struck name p) (struck name p)
    go true e f = e
    go false e f = ap (λ (q : List ℕ). t ∷ q) f

-- ---- what a receiver forms

-- the sender's term may stand last
formed-last : (own sender : ℕ) (p : List ℕ) → normal (struck own p ++ (2 ^ sender ∷ [])) ≡ formed own sender p
unfolding formed
formed-last own sender p = normal-same (struck own p ++ (2 ^ sender ∷ [])) (2 ^ sender ∷ struck own p) same
  where
    same : (s : ℕ) → holds s (struck own p ++ (2 ^ sender ∷ [])) ≡ holds s (2 ^ sender ∷ struck own p)
    same s =
        holds-sum s (struck own p) (2 ^ sender ∷ []) ∙ or_comm (holds s (struck own p)) (holds s (2 ^ sender ∷ []))
        ∙ sym (holds-sum s (2 ^ sender ∷ []) (struck own p))

-- the last place is cleared, the own name struck before it, and the sender's term put behind what is left
module _ (l y z : List ℕ) (own sender n k r : ℕ) (h : n + 1 ≡ length l)
    (b : k ≡ length (struck own (take n (set l n 0)))) (o : k ≤ n) (c : y ≡ padded n (struck own (take n (set l n 0)))) where
  kept : List ℕ
  kept = struck own (take n l)

  used : struck own (take n (set l n 0)) ≡ kept
  unfolding kept
  used = ap (λ (x : List ℕ). struck own x) (take-set-le n l n 0 (omega arith))

  behind : drop n (set l n 0) ≡ 0 ∷ []
  behind =
      let long : length (set l n 0) ≡ length l = length-set l n 0 in
      drop_next (set l n 0) n (omega arith) ∙ rw (get_or-set_same l n 0 0 (omega arith), drop_of_length-le (set l n 0) {i = n + 1} (omega arith))

  count : k ≡ length kept
  count = b ∙ ap length used

  made : set (y ++ drop n (set l n 0)) k (2 ^ sender) ≡ (kept ++ (2 ^ sender ∷ [])) ++ replicate (n - k) 0
  unfolding padded
  made =
      let e : n + 1 - length kept ≡ suc (n - k) = omega (arith, count) in
      let small : length kept ≤ n = omega (arith, count) in
      let zeros = replicate (n - k) 0 in
      let long : padded n kept ++ (0 ∷ []) ≡ kept ++ (0 ∷ zeros) = padded-zeros n 1 kept [] small ∙ append-nil (padded (n + 1) kept) ∙ rw e in
      ap (λ (x : List ℕ). set (x ++ drop n (set l n 0)) k (2 ^ sender)) c ∙ rw (used, behind, long) (set_at kept 0 zeros (2 ^ sender) k (sym count) ∙ sym (append_assoc kept (2 ^ sender ∷ []) zeros))

  module _ (u : List ℕ) (w : u ≡ set (y ++ drop n (set l n 0)) k (2 ^ sender))
      (p : r ≡ length (normal (take (k + 1) u))) (q : z ≡ padded (k + 1) (normal (take (k + 1) u))) where
    width : length (kept ++ (2 ^ sender ∷ [])) ≡ k + 1
    width = omega (arith, length-append kept (2 ^ sender ∷ []), count)

    front : normal (take (k + 1) u) ≡ formed own sender (take n l)
    unfolding kept
    front =
        ap (λ (x : List ℕ). normal (take (k + 1) x)) (w ∙ made)
        ∙ ap (λ (x : List ℕ). normal x) (take_at (kept ++ (2 ^ sender ∷ [])) (replicate (n - k) 0) (k + 1) width) ∙ formed-last own sender (take n l)

    form_value : r ≡ length (formed own sender (take n l))
    form_value = p ∙ ap length front

    form_terms : r ≤ k + 1 → z ++ drop (k + 1) u ≡ padded (length l) (formed own sender (take n l))
    form_terms m =
        let rest : drop (k + 1) u ≡ replicate (n - k) 0 =
        ap (λ (x : List ℕ). drop (k + 1) x) (w ∙ made) ∙ drop_at (kept ++ (2 ^ sender ∷ [])) (replicate (n - k) 0) (k + 1) width in
        let all : k + 1 + (n - k) ≡ length l = omega arith in
        let made = formed own sender (take n l) in
        rw (q, front, rest, ← append-nil {A = ℕ} (replicate (n - k) 0)) (padded-zeros (k + 1) (n - k) made [] (omega (arith, form_value)) ∙ append-nil (padded (k + 1 + (n - k)) made) ∙ rw all)

-- so with what the calls promise
pub form_calls : (l y z u : List ℕ) (own sender n k r v : ℕ) → 0 < length l → n ≡ length l - 1
    → (k ≡ length (struck own (take n (set l n 0)))) × (k ≤ length (take n (set l n 0)))
    → y ≡ padded (length (take n (set l n 0))) (struck own (take n (set l n 0)))
    → v ≡ 2 ^ sender → u ≡ set (y ++ drop n (set l n 0)) k v
    → (r ≡ length (normal (take (k + 1) u))) × (r ≤ length (take (k + 1) u)) → z ≡ padded (length (take (k + 1) u)) (normal (take (k + 1) u))
    → ((r ≡ length (formed own sender (take n l))) × (r ≤ length l)) × (z ++ drop (k + 1) u ≡ padded (length l) (formed own sender (take n l)))
form_calls l y z u own sender n k r v h e b c s w p q =
    let long : length (set l n 0) ≡ length l = length-set l n 0 in
    let used : length (take n (set l n 0)) ≡ n = length-take-le n (set l n 0) (omega arith) in
    let y_is : y ≡ padded n (struck own (take n (set l n 0))) = rw used at c in
    let small : k ≤ n = omega (arith, b.1) in
    let wide : length y ≡ n = ap length y_is ∙ length-padded n (struck own (take n (set l n 0))) (omega (arith, b.0)) in
    let all : length u ≡ length l =
    ap length w ∙ length-set (y ++ drop n (set l n 0)) k v ∙ omega (arith, length-append y (drop n (set l n 0)), length-drop n (set l n 0)) in
    let front : length (take (k + 1) u) ≡ k + 1 = length-take-le (k + 1) u (omega arith) in
    let z_is : z ≡ padded (k + 1) (normal (take (k + 1) u)) = rw front at q in
    let u_is : u ≡ set (y ++ drop n (set l n 0)) k (2 ^ sender) = rw s at w in
    let last : n + 1 ≡ length l = omega arith in
    let few : r ≤ k + 1 = omega (arith, p.1) in (
      (form_value l y z own sender n k r last b.0 small y_is u u_is p.0 z_is, omega arith),
      form_terms l y z own sender n k r last b.0 small y_is u u_is p.0 z_is few,
    )

-- what stands at the front of an array filled up with zeros
pub padded-front : (n : ℕ) (x y : List ℕ) → take (length x) (padded n x ++ y) ≡ x
unfolding padded
padded-front n x y = rw (append_assoc x (replicate (n - length x) 0) y) (take_at x (replicate (n - length x) 0 ++ y) (length x) refl)
