-- Laws of `specs.Numbers`, over every width n: numbers, their bytes, what is stored, tables, words.
-- The idea: a number is read and stored byte by byte, so each law goes by the width, and a list that is stored goes element by element.
-- A law is named after what it is about, then after what it says; `-next` is a turn of a loop, `-done` its end.
-- No contract cites this file: the proofs of this crate and of those above it do. Assumes nothing.
use Prim.Native.Nat.{ℕ, zero, suc, ◌+◌, ◌*◌, ◌-◌, ◌/◌, ◌%◌, ◌^◌, ◌≤◌, ◌<◌}
use mathlib.Core.Path.{◌≡◌, refl, sym, ap, ◌∙◌}
use mathlib.Core.List.{List, [], ◌∷◌, ◌++◌, map, map-append, append_assoc, append-nil}
use mathlib.Core.Logic.{◌⊎◌, ⊎_elim}
use native.Mathlib.Nat.{zero-add, add-zero, add-suc, suc-add, suc-mul, mul_assoc, div-div-eq-div-mul, pow-zero, pow-suc, pow-succ', mod-add-div, div-lt_iff_lt-mul, eq-or-lt_of_le, le_of_suc-le-suc}
use native.Mathlib.Numerals.{add-one}
use native.Mathlib.Omega.{arith}
use borrow.Rule.Slice.PartMut.{put_mid}
use lib.Dec.{lit<}
use lib.ListN.{length, get_or, take, drop, set, length-append, get_or-append}
use lib.Seq.{sets, sets-eq, take-suc-set, drop-drop, set-set, set_comm, take_at, take_all, take-add, take-suc, drop-cons, length-take-le, length-sets, get_or_at, get_or-take, get_or-set_other, set-get_or, ext_get_or}
use Rattle.std.specs.Int.{byte_at, bytes_low_first}
use Rattle.numbers.specs.Numbers.{num, bytes, put, tab, Bytes, Words, words_of, bytes_of}

-- ---- counting

pub above_zero : {n : ℕ} → (n ≡ 0 → ⊥) → 0 < n
above_zero h = omega arith

-- ---- num: a number in bytes

-- a number in n bytes is below 256 ^ n
pub num-bound : (n at : ℕ) (s : List ℕ) → Bytes s → num at n s < 256 ^ n
unfolding num Bytes
num-bound zero at s b = omega arith
num-bound (suc n) at s b = rw pow-suc (omega (arith, b at, num-bound n (suc at) s b))

-- a number depends on its bytes alone
pub num_cong : (n at : ℕ) (s t : List ℕ) → ((i : ℕ) → at ≤ i → i < at + n → get_or s i 0 ≡ get_or t i 0) → num at n s ≡ num at n t
unfolding num
num_cong zero at s t h = refl
num_cong (suc n) at s t h =
    rw (h at (omega arith) (omega arith), num_cong n (suc at) s t (λ i p q. h i (omega arith) (omega arith)))

-- a number in m + n bytes: that in the first m, and 256 ^ m times that in the other n
pub num_add : (m n at : ℕ) (s : List ℕ) → num at (m + n) s ≡ num at m s + 256 ^ m * num (at + m) n s
unfolding num
num_add zero n at s = rw (zero-add n, add-zero at) (omega arith)
num_add (suc m) n at s =
    rw (suc-add, pow-succ' 256 m, mul_assoc, add-suc, ← (suc-add at m)) (omega (arith, num_add m n (suc at) s))

-- a number behind one element more
num_cons : (n at v : ℕ) (s : List ℕ) → num (suc at) n (v ∷ s) ≡ num at n s
unfolding num
num_cons zero at v s = refl
num_cons (suc n) at v s = rw (num_cons n (suc at) v s)

-- a number behind a list
pub num-append : (n at k : ℕ) (a s : List ℕ) → k ≡ length a + at → num k n (a ++ s) ≡ num at n s
num-append n at k [] s e = rw (e, zero-add)
num-append n at k (v ∷ a) s e = rw (e, suc-add, num_cons) (num-append n at (length a + at) a s refl)

-- ---- bytes: the bytes of a number

pub length-bytes : (n x : ℕ) → length (bytes n x) ≡ n
unfolding bytes
length-bytes zero x = refl
length-bytes (suc n) x = ap suc (length-bytes n (x / 256))

-- the number in the n bytes of x is x
pub num-bytes : (n x : ℕ) (s : List ℕ) → x < 256 ^ n → num 0 n (bytes n x ++ s) ≡ x
unfolding num bytes
num-bytes zero x s h = omega (arith, rw pow-zero at h)
num-bytes (suc n) x s h =
    let small : x / 256 < 256 ^ n = (div-lt_iff_lt-mul {k = 256} {x = x} {y = 256 ^ n} (lit< tt)).1 (rw pow-suc at h) in
    omega (arith, num_cons n 0 (x % 256) (bytes n (x / 256) ++ s), num-bytes n (x / 256) s small, mod-add-div x 256)

-- the first byte of a number in bytes, and those of the rest
bytes-num_cons : (n at : ℕ) (s : List ℕ) → Bytes s → bytes (suc n) (num at (suc n) s) ≡ get_or s at 0 ∷ bytes n (num (suc at) n s)
unfolding num bytes Bytes
bytes-num_cons n at s b =
    let low : (get_or s at 0 + 256 * num (suc at) n s) % 256 ≡ get_or s at 0 = omega (arith, b at) in
    let high : (get_or s at 0 + 256 * num (suc at) n s) / 256 ≡ num (suc at) n s = omega (arith, b at) in
    rw (low, high)

-- the bytes of the number in n bytes are these bytes
pub bytes-num : (n at : ℕ) (s : List ℕ) → Bytes s → at + n ≤ length s → bytes n (num at n s) ≡ take n (drop at s)
unfolding bytes
bytes-num zero at s b h = refl
bytes-num (suc n) at s b h =
    let inside : at < length s = omega arith in
    rw (bytes-num_cons n at s b, drop-cons s at 0 inside, bytes-num n (suc at) s b (omega arith))

-- ---- the library's bytes of a number

byte_is : (i x : ℕ) → byte_at i x ≡ x / 256 ^ i % 256
byte_is zero x = rw pow-zero (omega arith)
byte_is (suc i) x = refl

pub bytes-le : (n i x : ℕ) → bytes_low_first i n x ≡ bytes n (x / 256 ^ i)
unfolding bytes
bytes-le zero i x = refl
bytes-le (suc n) i x =
    let next : x / 256 ^ suc i ≡ x / 256 ^ i / 256 = rw pow-suc (sym (div-div-eq-div-mul x (256 ^ i) 256)) in
    rw (byte_is i x, bytes-le n (suc i) x, next)

-- ---- put: a list stored in another

pub length-put : (at : ℕ) (vs s : List ℕ) → length (put at vs s) ≡ length s
unfolding put
length-put at vs s = length-sets s at vs

-- an element before what is stored stays
pub get_or-put-before : (at i : ℕ) (vs s : List ℕ) → i < at → get_or (put at vs s) i 0 ≡ get_or s i 0
unfolding put
get_or-put-before at i [] s h = refl
get_or-put-before at i (v ∷ vs) s h =
    get_or-put-before (suc at) i vs (set s at v) (omega arith) ∙ get_or-set_other s at i v 0 (λ e. omega arith)

-- an element after what is stored stays
pub get_or-put-after : (at i : ℕ) (vs s : List ℕ) → at + length vs ≤ i → get_or (put at vs s) i 0 ≡ get_or s i 0
unfolding put
get_or-put-after at i [] s h = refl
get_or-put-after at i (v ∷ vs) s h =
    get_or-put-after (suc at) i vs (set s at v) (omega arith) ∙ get_or-set_other s at i v 0 (λ e. omega arith)

-- a number before or after what is stored stays
pub num-put-apart : (n at i : ℕ) (vs s : List ℕ) → (i + n ≤ at) ⊎ (at + length vs ≤ i) → num i n (put at vs s) ≡ num i n s
num-put-apart n at i vs s h =
    num_cong n i (put at vs s) s
    (λ k p q. ⊎_elim (λ w. get_or-put-before at k vs s (omega arith)) (λ w. get_or-put-after at k vs s (omega arith)) h)

-- storing the number that is there changes nothing
pub put_num-same : (n at : ℕ) (s : List ℕ) → Bytes s → put at (bytes n (num at n s)) s ≡ s
unfolding put bytes
put_num-same zero at s b = refl
put_num-same (suc n) at s b =
    let first : put (suc at) (bytes n (num (suc at) n s)) (set s at (get_or s at 0)) ≡ s = rw (set-get_or s at 0) (put_num-same n (suc at) s b) in
    rw (bytes-num_cons n at s b) first

-- two lists, the first of n elements: stored at once, or one after the other
pub put-append : (n at : ℕ) (a b s : List ℕ) → length a ≡ n → put at (a ++ b) s ≡ put (at + n) b (put at a s)
unfolding put
put-append n at [] b s e = rw (← e, add-zero)
put-append n at (v ∷ a) b s e =
    rw (← e, add-suc at (length a), ← (suc-add at (length a))) (put-append (length a) (suc at) a b (set s at v) refl)

-- what two writers leave, the second one behind the n elements of the first
pub put_then : (n at next : ℕ) (a b s t u : List ℕ) →
    length a ≡ n → next ≡ at + n → t ≡ put at a s → u ≡ put next b t → u ≡ put at (a ++ b) s
put_then n at next a b s t u e f p q = rw (put-append n at a b s e, ← p, ← f, ← q)

-- an element before what is stored
pub set-put : (at b x : ℕ) (vs s : List ℕ) → at < b → set (put b vs s) at x ≡ put b vs (set s at x)
unfolding put
set-put at b x [] s h = refl
set-put at b x (v ∷ vs) s h =
    rw (set-put at (suc b) x vs (set s b v) (omega arith), set_comm s b at v x (λ e. omega arith))

-- an element of what is stored
pub put-set : (at n x : ℕ) (vs s : List ℕ) → n < length vs → set (put at vs s) (at + n) x ≡ put at (set vs n x) s
unfolding put
put-set at n x [] s h = absurd (omega (arith, h))
put-set at zero x (v ∷ vs) s h =
    ap (λ (k : ℕ). set (sets (set s at v) (suc at) vs) k x) (add-zero at)
    ∙ set-put at (suc at) x vs (set s at v) (omega arith)
    ∙ ap (λ (u : List ℕ). sets u (suc at) vs) (set-set s at v x)
put-set at (suc n) x (v ∷ vs) s h =
    let next : at + suc n ≡ suc at + n = omega arith in
    ap (λ (k : ℕ). set (sets (set s at v) (suc at) vs) k x) next ∙ put-set (suc at) n x vs (set s at v) (omega (arith, h))

-- n elements stored from the start: they, and then what was there
pub put_front : (n : ℕ) (vs s : List ℕ) → length vs ≡ n → n ≤ length s → put 0 vs s ≡ vs ++ drop n s
unfolding put
put_front n vs s e h =
    let fits : 0 + length vs ≤ length s = omega arith in
    rw (sets-eq vs s 0 fits, zero-add, e)

-- what is stored from the start is there
pub take_put : (n : ℕ) (vs s : List ℕ) → length vs ≡ n → n ≤ length s → take n (put 0 vs s) ≡ vs
take_put n vs s e h = rw (put_front n vs s e h) (take_at vs (drop n s) n e)

-- what is stored in k places that are lent for it
pub put-lent : (at k : ℕ) (s ys vs : List ℕ) → at + length vs ≤ length s → k ≡ length vs → ys ≡ vs → put_mid at k s ys ≡ put at vs s
unfolding put
put-lent at k s ys vs h m e =
    let same : drop k (drop at s) ≡ drop (at + length vs) s = rw m (drop-drop (length vs) at s) in
    rw (e, same, ← append_assoc (take at s) vs (drop (at + length vs) s)) (sym (sets-eq vs s at h))

-- a turn of the loop that stores a number
pub bytes_next : (n i x : ℕ) (p vs : List ℕ) → i < n → i < length p → take i p ++ bytes (n - i) x ≡ vs
    → take (i + 1) (set p i (x % 256)) ++ bytes (n - (i + 1)) (x / 256) ≡ vs
unfolding bytes
bytes_next n i x p vs h g q =
    let e : n - i ≡ suc (n - (i + 1)) = omega arith in
    rw (add-one, take-suc-set p i (x % 256) g, append_assoc (take i p) (x % 256 ∷ []) (bytes (n - suc i) (x / 256))) (rw (e, add-one) at q)

-- ---- tab: a list by its elements

pub length-tab : {A : Type 0} (n : ℕ) (f : ℕ → A) → length (tab n f) ≡ n
unfolding tab
length-tab zero f = refl
length-tab (suc n) f = rw length-append (omega (arith, length-tab n f))

pub get_or-tab : {A : Type 0} (n i : ℕ) (f : ℕ → A) (d : A) → i < n → get_or (tab n f) i d ≡ f i
unfolding tab
get_or-tab zero i f d h = absurd (omega arith)
get_or-tab (suc n) i f d h =
    ⊎_elim
    (λ (p : i ≡ n). rw p (get_or_at (tab n f) (f n) [] d n (length-tab n f)))
    (λ (p : i < n). get_or-append (tab n f) (f n ∷ []) d i (rw length-tab p) ∙ get_or-tab n i f d p)
    (eq-or-lt_of_le (le_of_suc-le-suc h))

-- a list is the table of its elements
pub tab_ext : {A : Type 0} (d : A) (n : ℕ) (f : ℕ → A) (vs : List A) → length vs ≡ n → ((i : ℕ) → i < n → f i ≡ get_or vs i d) → tab n f ≡ vs
tab_ext d n f vs e h =
    ext_get_or d (tab n f) vs (length-tab n f ∙ sym e)
    (λ i p. let below : i < n = rw length-tab at p in get_or-tab n i f d below ∙ h i below)

-- the front of a table
pub take-tab : {A : Type 0} (d : A) (n k : ℕ) (f : ℕ → A) → k ≤ n → take k (tab n f) ≡ tab k f
take-tab d n k f h =
    sym (tab_ext d k f (take k (tab n f)) (length-take-le k (tab n f) (rw length-tab h))
    (λ i p. sym (get_or-take k (tab n f) i d p ∙ get_or-tab n i f d (omega arith))))

-- a turn of the loop that fills a table
pub tab_next : (f : ℕ → ℕ) (i v : ℕ) (t : List ℕ) → i < length t → v ≡ f i → take i t ≡ tab i f → take (i + 1) (set t i v) ≡ tab (i + 1) f
unfolding tab
tab_next f i v t h e q = rw (add-one, take-suc-set t i v h, e, q)

-- ---- words_of and bytes_of: words in bytes

pub length-bytes_of : (ws : List ℕ) → length (bytes_of ws) ≡ length ws * 4
unfolding bytes_of
length-bytes_of [] = refl
length-bytes_of (w ∷ ws) = rw (length-append, length-bytes) (omega (arith, length-bytes_of ws))

pub bytes_of-append : (ws vs : List ℕ) → bytes_of (ws ++ vs) ≡ bytes_of ws ++ bytes_of vs
unfolding bytes_of
bytes_of-append [] vs = refl
bytes_of-append (w ∷ ws) vs = rw (bytes_of-append ws vs, append_assoc)

-- a turn of the loop that stores words
pub bytes_of_next : (at i : ℕ) (ws s t u : List ℕ) → i < length ws →
    t ≡ put at (bytes_of (take i ws)) s → u ≡ put (at + i * 4) (bytes 4 (get_or ws i 0)) t → u ≡ put at (bytes_of (take (i + 1) ws)) s
unfolding bytes_of
bytes_of_next at i ws s t u h p q =
    let long : length (bytes_of (take i ws)) ≡ i * 4 = length-bytes_of (take i ws) ∙ rw (length-take-le i ws (omega arith)) in
    rw (add-one, take-suc ws i 0 h, bytes_of-append, append-nil) (put_then (i * 4) at (at + i * 4) _ _ s t u long refl p q)

-- word i in the bytes of words
pub num-bytes_of : (ws : List ℕ) (i : ℕ) → Words ws → i < length ws → num (i * 4) 4 (bytes_of ws) ≡ get_or ws i 0
unfolding bytes_of Words
num-bytes_of [] i w h = absurd (omega arith)
num-bytes_of (v ∷ ws) zero w h = num-bytes 4 v (bytes_of ws) (w 0)
num-bytes_of (v ∷ ws) (suc i) w h =
    num-append 4 (i * 4) (suc i * 4) (bytes 4 v) (bytes_of ws) (omega (arith, length-bytes 4 v))
    ∙ num-bytes_of ws i (λ k. w (suc k)) (omega arith)

-- the words in the bytes of words are these words
pub words-bytes : (ws : List ℕ) → Words ws → words_of (bytes_of ws) ≡ ws
unfolding words_of
words-bytes ws w =
    let count : length ws ≡ length (bytes_of ws) / 4 = omega (arith, length-bytes_of ws) in
    tab_ext 0 _ _ ws count (λ i h. num-bytes_of ws i w (omega arith))

-- the bytes of the first n words in bytes
bytes_of-tab : (n : ℕ) (s : List ℕ) → Bytes s → n * 4 ≤ length s → bytes_of (tab n (λ i. num (i * 4) 4 s)) ≡ take (n * 4) s
unfolding bytes_of tab
bytes_of-tab zero s b h = refl
bytes_of-tab (suc n) s b h =
    rw (bytes_of-append, bytes_of-tab n s b (omega arith), append-nil, bytes-num 4 (n * 4) s b (omega arith), suc-mul, take-add)

-- the bytes of the words in bytes are these bytes
pub bytes-words : (s : List ℕ) → Bytes s → length s % 4 ≡ 0 → bytes_of (words_of s) ≡ s
unfolding words_of
bytes-words s b e =
    bytes_of-tab (length s / 4) s b (omega arith) ∙ take_all (length s / 4 * 4) s (omega arith)

-- ---- a list by its elements

module _ {A : Type 0} where
  pub tab_suc : (n : ℕ) (f : ℕ → A) → tab (n + 1) f ≡ tab n f ++ (f n ∷ [])
  unfolding tab
  tab_suc n f = rw add-one

  pub tab_cong : (n : ℕ) (f g : ℕ → A) → ((i : ℕ) → i < n → f i ≡ g i) → tab n f ≡ tab n g
  unfolding tab
  tab_cong zero f g h = refl
  tab_cong (suc n) f g h = rw (tab_cong n f g (λ i p. h i (omega arith)), h n (omega arith))

pub map-tab : {A B : Type 0} (f : A → B) (n : ℕ) (g : ℕ → A) → map f (tab n g) ≡ tab n (λ i. f (g i))
unfolding tab
map-tab f zero g = refl
map-tab f (suc n) g = map-append f (tab n g) (g n ∷ []) ∙ rw (map-tab f n g)
