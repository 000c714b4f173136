-- Laws of `specs.Kept`: a byte more at the end of those that were taken, the bytes of a line that are kept, and the zeros behind them.
-- The idea: `kept_after` and `text_after` go from the first byte on, the loop adds one behind. No contract cites this file. Assumes nothing.
use Prim.Native.Nat.{ℕ, ◌+◌, ◌*◌, ◌-◌, ◌≤◌, ◌<◌}
use mathlib.Core.Path.{◌≡◌, refl, sym, ◌∙◌}
use mathlib.Core.List.{List, [], ◌∷◌, ◌++◌, append_assoc, append-nil}
use native.Mathlib.Numerals.{add-one}
use native.Mathlib.Omega.{arith}
use lib.Dec.{eqb}
use lib.ListN.{length, get_or, take, drop, set, replicate, length-append, length-drop, drop_of_length-le, replicate-append-replicate}
use borrow.Rule.Slice.PartMut.{put_mid}
use borrow.Author.Tests.{ne_eqb}
use lib.Seq.{take-suc, take-suc-set, take_all, take_at, length-take-le, drop-drop, sets-eq}
use Rattle.std.proofs.lemmas.List.{drop-set-lt, drop-replicate}
use Rattle.numbers.specs.Numbers.{put}
use Rattle.numbers.proofs.NumberLaws.{put_then, put_front}
use Rattle.predicates.proofs.ListLaws.{cond_ind}
use Rattle.lines.specs.code.Sizes.{answer_most}
use Rattle.lines.specs.Lines.{line_most}
use Rattle.lines.proofs.ResultLaws.{line_short}
use Rattle.stream.specs.Kept.{Kept, result_of, kept_next, text_next, kept_after, text_after, last_text}

-- ---- the line so far

pub kept_byte : (l : List ℕ) (n b : ℕ) → n < line_most + 1 → line_most + 1 ≤ length l → take (n + 1) (set l n b) ≡ take (line_most + 1) (take n l ++ (b ∷ []))
kept_byte l n b h k =
    let front : length (take n l) ≡ n = length-take-le n l (omega arith) in
    let short : length (take n l ++ (b ∷ [])) ≤ line_most + 1 = rw length-append (omega arith) in
    rw (add-one n, take-suc-set l n b (omega arith), take_all (line_most + 1) (take n l ++ (b ∷ [])) short)

pub kept_full : (l : List ℕ) (n b : ℕ) → n ≤ line_most + 1 → line_most + 1 ≤ n → line_most + 1 ≤ length l → take n l ≡ take (line_most + 1) (take n l ++ (b ∷ []))
kept_full l n b h k m =
    let front : length (take n l) ≡ line_most + 1 = length-take-le n l (omega arith) ∙ omega arith in
    sym (take_at (take n l) (b ∷ []) (line_most + 1) front)

-- ---- behind the line so far

-- there are zeros alone, also when a byte more has come
pub zeros_byte : (l : List ℕ) (n b : ℕ) → drop n l ≡ replicate (line_most + 1 - n) 0 → n < line_most + 1
    → drop (n + 1) (set l n b) ≡ replicate (line_most + 1 - (n + 1)) 0
zeros_byte l n b zeros h =
    let rest : drop (n + 1) l ≡ drop 1 (drop n l) = sym (drop-drop 1 n l) in
    let count : (line_most + 1 - n) - 1 ≡ line_most + 1 - (n + 1) = omega arith in
    rw (drop-set-lt (n + 1) l n b (omega arith), rest, zeros, drop-replicate {X = ℕ} 1 (line_most + 1 - n) 0, count)

-- and when the line has ended and its bytes are cleared
pub zeros_line : (l ys : List ℕ) (n : ℕ) → drop n l ≡ replicate (line_most + 1 - n) 0 → n ≤ line_most + 1 → ys ≡ replicate n 0
    → put_mid 0 n l ys ≡ replicate (line_most + 1) 0
zeros_line l ys n zeros h e =
    let count : n + (line_most + 1 - n) ≡ line_most + 1 = omega arith in
    rw (e, zeros, replicate-append-replicate, count)

-- ---- bytes behind others

-- a list of bytes behind another
pub kept_append : (k : Kept) (xs ys : List ℕ) → kept_after k (xs ++ ys) ≡ kept_after (kept_after k xs) ys
unfolding kept_after
kept_append k [] ys = refl
kept_append k (x ∷ xs) ys = kept_append (kept_next k x) xs ys

kept_snoc : (k : Kept) (xs : List ℕ) (b : ℕ) → kept_after k (xs ++ (b ∷ [])) ≡ kept_next (kept_after k xs) b
unfolding kept_after
kept_snoc k xs b = kept_append k xs (b ∷ [])

text_snoc : (k : Kept) (xs : List ℕ) (b : ℕ) → text_after k (xs ++ (b ∷ [])) ≡ text_after k xs ++ text_next (kept_after k xs) b
unfolding text_after kept_after
text_snoc k [] b = append-nil (text_next k b)
text_snoc k (x ∷ xs) b = rw (text_snoc (kept_next k x) xs b, append_assoc)

-- a turn of the loop
module _ (k₀ k k' : Kept) (piece : List ℕ) (i filled filled' : ℕ) (o₀ o o' : List ℕ) (inside : i < length piece) where
  pub feed_next : k ≡ kept_after k₀ (take i piece) → filled ≡ length (text_after k₀ (take i piece)) → o ≡ put 0 (text_after k₀ (take i piece)) o₀
      → k' ≡ kept_next k (get_or piece i 0) → filled' ≡ filled + length (text_next k (get_or piece i 0))
      → o' ≡ put filled (text_next k (get_or piece i 0)) o
      → (k' ≡ kept_after k₀ (take (i + 1) piece)) × (filled' ≡ length (text_after k₀ (take (i + 1) piece)))
      × (o' ≡ put 0 (text_after k₀ (take (i + 1) piece)) o₀)
  feed_next e f g e' f' g' =
      let bytes : take (i + 1) piece ≡ take i piece ++ (get_or piece i 0 ∷ []) = rw (add-one, take-suc piece i 0 inside) in
      let next = rw e at f' in
      let text = rw e at g' in
      let at : filled ≡ 0 + length (text_after k₀ (take i piece)) = omega arith in (
        rw (bytes, kept_snoc k₀ (take i piece), ← e) e',
        rw (bytes, text_snoc k₀ (take i piece), length-append) (omega arith),
        rw (bytes, text_snoc k₀ (take i piece)) (put_then _ 0 filled (text_after k₀ (take i piece)) _ o₀ o o' refl at g text),
      )

-- ---- pieces

-- what a piece prints stands behind what the bytes before it printed
pub text-append : (k : Kept) (xs ys : List ℕ) → text_after k (xs ++ ys) ≡ text_after k xs ++ text_after (kept_after k xs) ys
unfolding text_after kept_after
text-append k [] ys = refl
text-append k (x ∷ xs) ys = rw (text-append (kept_next k x) xs ys, append_assoc)

-- no byte prints more than an answer
pub text-most : (k : Kept) (bs : List ℕ) → length (text_after k bs) ≤ answer_most * length bs
unfolding text_after text_next result_of
text-most k [] = omega arith
text-most k (b ∷ bs) =
    let first : length (text_next k b) ≤ answer_most =
    cond_ind (λ (t : List ℕ). length t ≤ answer_most) (eqb b 10) _ _ (λ _. line_short _ _ _) (λ _. omega arith) in
    rw length-append (omega (arith, text-most (kept_next k b) bs))

-- what a part of the output behind a place prints at its front stands from that place on
pub put_behind : (at n : ℕ) (ts s t : List ℕ) → t ≡ put 0 ts (take n (drop at s)) → n ≡ length s - at → at + length ts ≤ length s → put_mid at n s t ≡ put at ts s
unfolding put
put_behind at n ts s t f e h =
    let rest : take n (drop at s) ≡ drop at s = take_all n (drop at s) (omega (arith, length-drop at s)) in
    let none : drop n (drop at s) ≡ [] = drop_of_length-le (drop at s) {i = n} (omega (arith, length-drop at s)) in
    let front = put_front (length ts) ts (drop at s) refl (omega (arith, length-drop at s)) in
    rw (f, rest, none, append-nil, front, drop-drop, sets-eq ts s at h, append_assoc)

-- ---- the end of the input

pub last_none : (k : Kept) {n : ℕ} → length k.line ≡ n → n ≡ 0 → last_text k ≡ []
unfolding last_text
last_none k e z = rw (e, z)

pub last_some : (k : Kept) {n : ℕ} → length k.line ≡ n → (n ≡ 0 → ⊥) → last_text k ≡ (result_of k).text
unfolding last_text
last_some k {n} e h = rw (e, ne_eqb n 0 h)
