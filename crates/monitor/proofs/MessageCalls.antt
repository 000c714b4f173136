-- The calls on messages alone, on plain values: bytes that cannot be a message's are read as no words, and what the exits of the calls leave.
-- No contract cites this file. Assumes nothing.
use Prim.Native.Nat.{ℕ, ◌+◌, ◌*◌, ◌/◌, ◌%◌, ◌≤◌, ◌<◌}
use mathlib.Core.Path.{◌≡◌, refl, sym, ap, ◌∙◌}
use mathlib.Core.Bool.{Bool, true, false, not, ◌||◌, cond}
use mathlib.Core.List.{List, []}
use native.Mathlib.Omega.{arith}
use borrow.Author.Tests.{lt-ltb, le-ltb, eqb-true, ltb-true, ltb-false}
use lib.Dec.{T, ltb, eqb}
use lib.ListN.{length, get_or, take, drop}
use Rattle.predicates.proofs.LoopLaws.{drop_next}
use Rattle.refusals.specs.declared.Refusal.{Refusal}
use Rattle.refusals.specs.Refusals.{number_of}
use Rattle.numbers.specs.Numbers.{num, bytes, words_of, bytes_of, put}
use Rattle.numbers.proofs.NumberLaws.{length-tab, length-bytes, length-bytes_of, take_put, put-append}
use Rattle.message.specs.Words.{ends_limit}
use Rattle.message.specs.Read.{term_words}
use Rattle.radio.specs.Read.{words_most, bytes_most, read_words, epoch_words}
use Rattle.radio.specs.Write.{rewritten, rewritten_as}
use Rattle.message.specs.Read.{Reading}
use Rattle.message.specs.Read.{Message, Refused}
use Rattle.epochs.specs.code.Known.{Named}
use Rattle.radio.proofs.ReadLaws.{read_out, terms-middle, length-middle, epochs-few, refused-above}
use Rattle.radio.proofs.MessageLaws.{rewrite-length}
use Rattle.radio.proofs.HeardNames.{heard-names}
use Rattle.engine.specs.Refusals.{delay_most}
use Rattle.message.proofs.ReadLaws.{number_above}
use Rattle.state.specs.Layout.{state_size, joined}
use Rattle.state.specs.Form.{in_form}
use Rattle.state.specs.Refusal.{lent, after}
use Rattle.state.proofs.LentLaws.{after-refused, lent_stays, lent-taken}
use Rattle.monitor.specs.Ask.{wide}
use Rattle.monitor.specs.Messages.{read_bytes, rewritten_bytes}
use Rattle.monitor.specs.code.Words.{words_in}
use Rattle.state.specs.Model.{name_most}

-- more than 43 words, or none, are 10
read_many : (ws : List ℕ) → words_most < length ws → read_words ws ≡ Refused 10
unfolding read_words
read_many ws h = rw (le-ltb (length ws) 6 (omega arith), lt-ltb words_most (length ws) h)

length-words : (m : List ℕ) → length (words_of m) ≡ length m / 4
unfolding words_of
length-words m = length-tab (length m / 4) (λ i. num (i * 4) 4 m)

too_many_lem : (m : List ℕ) → eqb (length m % 4) 0 ≡ true → ltb bytes_most (length m) ≡ true → read_words (words_of m) ≡ Refused 10
too_many_lem m e f = read_many (words_of m) (omega (arith, length-words m, eqb-true (length m % 4) 0 e, ltb-true bytes_most (length m) f))

pub read_words_in : (m : List ℕ) → read_words (words_in m) ≡ read_bytes m
unfolding read_bytes words_in read_words
read_words_in m = go (eqb (length m % 4) 0) (ltb bytes_most (length m)) refl refl
  where
    go : (a b : Bool) → eqb (length m % 4) 0 ≡ a → ltb bytes_most (length m) ≡ b → read_words (cond a (cond b [] (words_of m)) []) ≡ cond a (read_words (words_of m)) (Refused 10)
    go true true e f = sym (too_many_lem m e f)
    go true false e f = refl
    go false b e f = refl

pub rewritten-words_in : (m : List ℕ) → rewritten (words_in m) ≡ rewritten_as (read_bytes m) (words_of m)
unfolding rewritten rewritten_as read_bytes words_in
rewritten-words_in m = ap (λ (r : Reading). rewritten_as r (words_in m)) (read_words_in m) ∙ go (eqb (length m % 4) 0) (ltb bytes_most (length m)) refl refl
  where
    go : (a b : Bool) → eqb (length m % 4) 0 ≡ a → ltb bytes_most (length m) ≡ b → rewritten_as (read_bytes m) (words_in m) ≡ rewritten_as (read_bytes m) (words_of m)
    go true true e f = rw (e, f, too_many_lem m e f)
    go true false e f = rw (e, f)
    go false b e f = rw e

-- a refused reading leaves what the number says: the bytes as they were
pub refused_stays : (m bytes s : List ℕ) (number : ℕ) → read_bytes m ≡ Refused number → s ≡ after number bytes s
refused_stays m bytes s number e =
    let above = refused-above (words_in m) number (read_words_in m ∙ e) in
    after-refused number bytes s (λ z. omega arith)

-- ---- the words in bytes

module _ (m : List ℕ) where
  pub words_in-none : (not (eqb (length m % 4) 0) || ltb bytes_most (length m)) ≡ true → words_in m ≡ []
  unfolding words_in
  words_in-none e = go (eqb (length m % 4) 0) (ltb bytes_most (length m)) e
    where
      go : (a b : Bool) → not a || b ≡ true → cond a (cond b [] (words_of m)) [] ≡ []
      go true true e = refl
      go true false e = cc
      go false b e = refl

  pub words_in-all : (not (eqb (length m % 4) 0) || ltb bytes_most (length m)) ≡ false
      → (words_in m ≡ words_of m) × (length m % 4 ≡ 0) × (length m ≤ bytes_most)
  unfolding words_in
  words_in-all e = go (eqb (length m % 4) 0) (ltb bytes_most (length m)) refl refl e
    where
      go : (a b : Bool) → eqb (length m % 4) 0 ≡ a → ltb bytes_most (length m) ≡ b → not a || b ≡ false
          → (cond a (cond b [] (words_of m)) [] ≡ words_of m) × (length m % 4 ≡ 0) × (length m ≤ bytes_most)
      go true true p q e = cc
      go true false p q e = (refl, eqb-true (length m % 4) 0 p, ltb-false bytes_most (length m) q)
      go false b p q e = cc

  -- what is read of these words is the reading of the bytes
  pub got_read : (words : List ℕ) → words ≡ words_in m → (got : Reading) → got ≡ read_words words → got ≡ read_bytes m
  got_read words e got p = p ∙ ap (λ (x : List ℕ). read_words x) e ∙ read_words_in m

-- ---- numbers of 8 bytes, one behind the other

pub numbers_next : (i : ℕ) (ns s : List ℕ) → i < length ns
    → put (i * 8) (wide (drop i ns)) s ≡ put ((i + 1) * 8) (wide (drop (i + 1) ns)) (put (i * 8) (bytes 8 (get_or ns i 0)) s)
unfolding wide joined
numbers_next i ns s h =
    let e : (i + 1) * 8 ≡ i * 8 + 8 = omega arith in
    rw (drop_next ns i h, e) (put-append 8 (i * 8) (bytes 8 (get_or ns i 0)) (joined (bytes 8) (drop (i + 1) ns)) s (length-bytes 8 (get_or ns i 0)))

-- ---- what the first tests of a call on a lent state tell

pub lent_refused : (s out bytes : List ℕ) (refusal : Refusal) (next : ℕ) → number_of refusal ≡ lent s 0
    → (number_of refusal ≡ lent s next) × (out ≡ after (lent s next) bytes out)
lent_refused s out bytes refusal next e = lent_stays s out bytes (number_of refusal) next e (λ z. omega (arith, number_above refusal))

pub lent_fine : (s : List ℕ) → 0 ≡ lent s 0 → (state_size ≤ length s) × T (in_form s)
lent_fine s e = lent-taken s 0 e refl

-- ---- what rewriting leaves: `words` were taken from m, and `written` holds at its front what was written of them

module _ {s l r n : ℕ} (m : List ℕ) (e : read_bytes m ≡ Message s l r n) where
  again : read_words (words_in m) ≡ Message s l r n
  again = read_words_in m ∙ e

  -- how many words it has
  abbrev size : ℕ
  size = length (epoch_words (Message s l r n) (words_in m)) + n + 6

  pub rewritten-few : size ≤ words_most
  rewritten-few = let t = read_out (words_in m) again in omega (arith, epochs-few t, t.taken.count_le)

  pub length-rewritten_bytes : length (rewritten_bytes m) ≡ size * 4
  unfolding rewritten_bytes
  length-rewritten_bytes =
      length-bytes_of (rewritten_as (read_bytes m) (words_of m))
      ∙ ap (λ (x : ℕ). x * 4) (ap length (sym (rewritten-words_in m)) ∙ rewrite-length (words_in m) again)

  pub written_bytes_lem : (words written : List ℕ) → size ≤ length words → written ≡ put 0 (rewritten (words_in m)) words
      → bytes_of (take size written) ≡ rewritten_bytes m
  unfolding rewritten_bytes
  written_bytes_lem words written h p =
      ap bytes_of (ap (λ (x : List ℕ). take size x) p ∙ take_put size (rewritten (words_in m)) words (rewrite-length (words_in m) again) h ∙ rewritten-words_in m)

-- ---- a taken message is all of its bytes' words

pub words_in-taken : {s l r n : ℕ} (m : List ℕ) → read_bytes m ≡ Message s l r n → words_in m ≡ words_of m
unfolding words_in read_bytes
words_in-taken {s} {l} {r} {n} m e = go (eqb (length m % 4) 0) (ltb bytes_most (length m)) refl refl e
  where
    go : (a b : Bool) → eqb (length m % 4) 0 ≡ a → ltb bytes_most (length m) ≡ b → cond a (read_words (words_of m)) (Refused 10) ≡ Message s l r n → cond a (cond b [] (words_of m)) [] ≡ words_of m
    go true true p q e = let z : ◌≡◌ {A = ℕ} 0 1 = cc (too_many_lem m p q) in absurd (omega arith)
    go true false p q e = refl
    go false b p q e = let z : ◌≡◌ {A = ℕ} 0 1 = cc in absurd (omega arith)

-- what a taken message says
pub taken_says : {s l r n : ℕ} (m : List ℕ) → read_bytes m ≡ Message s l r n →
    (s ≤ name_most) × (l ≤ r) × (r < ends_limit) × (length (term_words (Message s l r n) (words_in m)) ≤ 8)
    × Named (epoch_words (Message s l r n) (words_in m))
taken_says m e =
    let t = read_out (words_in m) (read_words_in m ∙ e) in
    let here = t.taken in
    (here.sender_le, here.left_le, here.right_lt, omega (arith, ap length (terms-middle t), length-middle t, here.count_le), heard-names t)

-- ---- delays that pass the test for 21

pub delays_fit : (least greatest : ℕ) → (ltb greatest least || ltb delay_most greatest) ≡ false → (least ≤ greatest) × (greatest ≤ delay_most)
delays_fit least greatest e = go (ltb greatest least) (ltb delay_most greatest) refl refl e
  where
    go : (a b : Bool) → ltb greatest least ≡ a → ltb delay_most greatest ≡ b → a || b ≡ false → (least ≤ greatest) × (greatest ≤ delay_most)
    go true b p q e = let z : ◌≡◌ {A = ℕ} 0 1 = cc in absurd (omega arith)
    go false true p q e = let z : ◌≡◌ {A = ℕ} 0 1 = cc in absurd (omega arith)
    go false false p q e = (ltb-false greatest least p, ltb-false delay_most greatest q)
