-- Laws of `specs.Decimal`: copying a text, the digits of a number, and lines put together from their parts.
-- The idea: `digits` goes by the number of places, and a line is one store behind the other. No contract cites this file. Assumes nothing.
use Prim.Native.Nat.{ℕ, zero, suc, ◌+◌, ◌*◌, ◌-◌, ◌/◌, ◌%◌, ◌^◌, ◌≤◌, ◌<◌}
use mathlib.Core.Path.{◌≡◌, refl, ap}
use mathlib.Core.List.{List, [], ◌∷◌, ◌++◌, append_assoc, append-nil}
use native.Mathlib.Nat.{pow-suc, div-lt_iff_lt-mul}
use native.Mathlib.Numerals.{add-one}
use native.Mathlib.Omega.{arith}
use borrow.Author.Tests.{lt-ltb, le-ltb}
use lib.Dec.{lit<, ltb}
use lib.ListN.{length, get_or, take, set, length-append}
use lib.Seq.{take-suc, take_all, drop-drop, sets-eq}
use borrow.Rule.Slice.PartMut.{put_mid}
use Rattle.std.proofs.lemmas.Grind.{flat_map-append}
use Rattle.predicates.proofs.ListLaws.{cond_ind}
use Rattle.numbers.specs.Numbers.{put}
use Rattle.numbers.proofs.NumberLaws.{put_then}
use Rattle.fields.specs.Decimal.{digits, decimal, with_one, with_two}
use Rattle.fields.specs.code.Lines.{spaced, with_numbers}

-- ---- texts

-- a text in place of as many bytes as it has
pub copied : (at n : ℕ) (ts s t : List ℕ) → n ≡ length ts → t ≡ ts → at + length ts ≤ length s → put_mid at n s t ≡ put at ts s
unfolding put
copied at n ts s t e q h = rw (e, q, sets-eq ts s at h, append_assoc, drop-drop)

-- two texts, the second stored behind the first: their place behind, and both at once
pub text_then : (at next end : ℕ) (a b s t u : List ℕ) → next ≡ at + length a → t ≡ put at a s → end ≡ next + length b → u ≡ put next b t →
    (end ≡ at + length (a ++ b)) × (u ≡ put at (a ++ b) s)
text_then at next end a b s t u e p f q = (rw length-append (omega arith), put_then (length a) at next a b s t u refl e p q)

-- ---- digits

-- a number below 10 has one
pub digits-one : (k n : ℕ) → 0 < k → n < 10 → digits k n ≡ (48 + n) ∷ []
unfolding digits
digits-one zero n p h = absurd (omega arith)
digits-one (suc k) n p h = rw (lt-ltb n 10 h)

-- another one has those of its tenth, and then its last
pub digits_more : (k n : ℕ) → 0 < k → 10 ≤ n → digits k n ≡ digits (k - 1) (n / 10) ++ ((48 + n % 10) ∷ [])
unfolding digits
digits_more zero n p h = absurd (omega arith)
digits_more (suc k) n p h =
    let e : suc k - 1 ≡ k = omega arith in
    rw (le-ltb n 10 h, e)

-- the tenth of a number of k digits has one less
pub tenth_fits : (k n : ℕ) → 0 < k → n < 10 ^ k → n / 10 < 10 ^ (k - 1)
tenth_fits zero n p h = absurd (omega arith)
tenth_fits (suc k) n p h =
    let e : suc k - 1 ≡ k = omega arith in
    rw e ((div-lt_iff_lt-mul {k = 10} {x = n} {y = 10 ^ k} (lit< tt)).1 (rw pow-suc at h))

-- what is left of a number: its tenth was stored, and then its last digit
pub digits-put : (at k n end : ℕ) (s t : List ℕ) → 0 < k → 10 ≤ n → end ≡ at + length (digits (k - 1) (n / 10)) →
    t ≡ put at (digits (k - 1) (n / 10)) s → (end + 1 ≡ at + length (digits k n)) × (set t end (48 + n % 10) ≡ put at (digits k n) s)
unfolding put
digits-put at k n end s t p h e q =
    let more = digits_more k n p h in
    (rw (more, length-append) (omega arith), rw more (put_then _ at end (digits (k - 1) (n / 10)) ((48 + n % 10) ∷ []) s t _ refl e q refl))

-- a number has at most as many as it has places
pub digits-length : (k n : ℕ) → length (digits k n) ≤ k
unfolding digits
digits-length zero n = omega arith
digits-length (suc k) n =
    cond_ind (λ (l : List ℕ). length l ≤ suc k) (ltb n 10) _ _ (λ _. omega arith)
    (λ _. rw length-append (omega (arith, digits-length k (n / 10))))

-- ---- lines

-- a word and a number
pub with_one_lem : (word : List ℕ) (a i j end : ℕ) (s t u v : List ℕ) → i ≡ 0 + length word → t ≡ put 0 word s
    → j ≡ i + length (decimal a) → u ≡ put i (decimal a) t → end ≡ j + 1 → v ≡ put j (10 ∷ []) u
    → (end ≡ length (with_one word a)) × (v ≡ put 0 (with_one word a) s)
unfolding with_one
with_one_lem word a i j end s t u v e₁ p₁ e₂ p₂ e₃ p₃ =
    let tail = text_then i j end (decimal a) (10 ∷ []) t u v e₂ p₂ e₃ p₃ in
    let all = text_then 0 i end word _ s t v e₁ p₁ tail.0 tail.1 in
    (omega arith, all.1)

-- a word and two numbers
pub with_two_lem : (word : List ℕ) (a b i j k l end : ℕ) (s t u v w x : List ℕ) → i ≡ 0 + length word → t ≡ put 0 word s
    → j ≡ i + length (decimal a) → u ≡ put i (decimal a) t → k ≡ j + 1 → v ≡ put j (32 ∷ []) u
    → l ≡ k + length (decimal b) → w ≡ put k (decimal b) v → end ≡ l + 1 → x ≡ put l (10 ∷ []) w
    → (end ≡ length (with_two word a b)) × (x ≡ put 0 (with_two word a b) s)
unfolding with_two
with_two_lem word a b i j k l end s t u v w x e₁ p₁ e₂ p₂ e₃ p₃ e₄ p₄ e₅ p₅ =
    let last = text_then k l end (decimal b) (10 ∷ []) v w x e₄ p₄ e₅ p₅ in
    let third = text_then j k end (32 ∷ []) _ u v x e₃ p₃ last.0 last.1 in
    let second = text_then i j end (decimal a) _ t u x e₂ p₂ third.0 third.1 in
    let all = text_then 0 i end word _ s t x e₁ p₁ second.0 second.1 in
    (omega arith, all.1)

-- a word with numbers: a space and the next one, and the line feed behind them all
pub line_next : (word ns : List ℕ) (i : ℕ) → i < length ns →
    word ++ spaced (take (i + 1) ns) ≡ ((word ++ spaced (take i ns)) ++ (32 ∷ [])) ++ decimal (get_or ns i 0)
line_next word ns i h = rw (add-one, take-suc ns i 0 h, flat_map-append) (simp (append_assoc, append-nil))

pub line-end : (word ns : List ℕ) (i : ℕ) → length ns ≤ i → (word ++ spaced (take i ns)) ++ (10 ∷ []) ≡ with_numbers word ns
unfolding with_numbers
line-end word ns i h = rw (take_all i ns h, append_assoc)

-- a line has as many bytes as its numbers need at most
pub spaced-length : (ns : List ℕ) → length (spaced ns) ≤ 21 * length ns
spaced-length [] = omega arith
spaced-length (n ∷ ns) = rw length-append (omega (arith, digits-length 20 n, spaced-length ns))

-- a line of one number, and of two
pub with_numbers-one : (word : List ℕ) (a : ℕ) → with_numbers word (a ∷ []) ≡ with_one (word ++ (32 ∷ [])) a
unfolding with_numbers with_one
with_numbers-one word a = simp append_assoc

pub with_numbers-two : (word : List ℕ) (a b : ℕ) → with_numbers word (a ∷ (b ∷ [])) ≡ with_two (word ++ (32 ∷ [])) a b
unfolding with_numbers with_two
with_numbers-two word a b = simp (append-nil, append_assoc) (ap (λ l. word ++ (32 ∷ l)) (append_assoc (decimal a) (32 ∷ decimal b) (10 ∷ [])))

-- how long they can be
pub with_one-length : (word : List ℕ) (a : ℕ) → length (with_one word a) ≤ length word + 21
unfolding with_one
with_one-length word a = simp length-append (omega (arith, digits-length 20 a))

pub with_two-length : (word : List ℕ) (a b : ℕ) → length (with_two word a b) ≤ length word + 42
unfolding with_two
with_two-length word a b = simp length-append (omega (arith, digits-length 20 a, digits-length 20 b))
