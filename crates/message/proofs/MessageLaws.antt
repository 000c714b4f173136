-- The laws of demand 2 about messages: what is written is read back, an accepted message in ends form is rewritten as the same words,
-- and any accepted message is rewritten in ends form with the same sender, interval and terms.
-- The laws named `-more` and `again-` are for words between head and interval; document 01 has none, and the others are those of none.
-- The idea: `Taken` of `proofs.ReadLaws` holds of every written message, and in ends form it leaves each word no choice.
-- No contract cites this file. Assumes nothing.
use Rattle.std.proofs.Common.{◌≡◌, ℕ, zero, suc, ◌+◌, ◌-◌, ◌*◌, ◌/◌, ◌%◌, ◌^◌, ◌<◌, ◌≤◌, Bool, true, false, cond, T, eqb, leb, List, [], ◌∷◌, ◌++◌, map, length, get_or, take, drop, sym, refl, ap, ◌∙◌, subst, append_assoc, add-zero, add_assoc, arith, eqb→eq, length-append, take-append-drop, drop_of_length-le, length-take-le, get_or-drop, drop-cons, take-take, drop-drop, take_at, take-add, drop_at, eq-eqb, le-leb}
use lib.Dec.{eqb_refl}
use lib.ListN.{length-map, get_or-map}
use lib.Seq.{slice, slice_empty, slice-cons, length-slice, get_or_at}
use Rattle.numbers.specs.Numbers.{Words}
use Rattle.predicates.specs.Predicates.{is_normal}
use Rattle.predicates.proofs.ListLaws.{both_l, both_r, T_true, true_T}
use Rattle.predicates.proofs.LoopLaws.{drop_next}
use Rattle.message.specs.Words.{payload_size, ends_limit, terms_most, kind_of, payload, word, of_kind, masks, check}
use Rattle.message.specs.Read.{is_ends, width, span_kinds, middle, kinds_fit, check_fits, pair, span, read_from, read_plain, term_words}
use Rattle.message.specs.Write.{end_words, front, body, message_words, rewritten_plain_as, rewritten_plain}
use Rattle.message.specs.Read.{Span, Bad}
use Rattle.message.specs.Read.{Reading}
use Rattle.message.specs.Read.{Message, Refused}
use Rattle.message.proofs.ReadLaws.{Taken, NoTerms, from_in, from_out, read_in, read_out, kind_at, start_bounds, terms-middle-from, terms-middle, length-middle}

-- each term is a mask of 29 bits
abbrev pub Masks : List ℕ → Type 0
Masks ts = (i : ℕ) → get_or ts i 0 < payload_size

-- ---- words, and the terms that they carry

pub word-kind : (k x : ℕ) → x < payload_size → eqb (kind_of (word k x)) k ≡ true
word-kind k x h = eq-eqb (kind_of (word k x)) k (omega arith)

payload-word : (k x : ℕ) → x < payload_size → payload (word k x) ≡ x
payload-word k x h = omega arith

-- an end in two words
pair-word : (k x : ℕ) → x < ends_limit → payload (word k (x / payload_size)) * payload_size + payload (word k (x % payload_size)) ≡ x
pair-word k x h = rw (payload-word k (x / payload_size) (omega arith), payload-word k (x % payload_size) (omega arith)) (omega arith)

check_lt : (ws : List ℕ) → check ws < payload_size
unfolding check
check_lt ws = omega arith

pub masks-terms : (ts : List ℕ) → Masks ts → masks (map (λ t. word 6 t) ts) ≡ ts
unfolding masks
masks-terms [] m = refl
masks-terms (t ∷ ts) m = rw (payload-word 6 t (m 0), masks-terms ts (λ i. m (suc i)))

terms-masks : (ws : List ℕ) → T (of_kind 6 ws) → map (λ t. word 6 t) (masks ws) ≡ ws
unfolding masks of_kind
terms-masks [] h = refl
terms-masks (w ∷ ws) h =
    let k = eqb→eq (kind_of w) 6 (both_l (eqb (kind_of w) 6) _ h) in
    let e : word 6 (payload w) ≡ w = omega arith in
    rw (e, terms-masks ws (both_r (eqb (kind_of w) 6) _ h))

terms-kind : (ts : List ℕ) → Masks ts → T (of_kind 6 (map (λ t. word 6 t) ts))
unfolding of_kind
terms-kind [] m = tt
terms-kind (t ∷ ts) m = rw (word-kind 6 t (m 0)) (terms-kind ts (λ i. m (suc i)))

pub masks_lt : (ws : List ℕ) → Masks (masks ws)
unfolding masks
masks_lt ws i = rw (get_or-map (λ w. payload w) ws i 0) (omega arith)

-- ---- parts from a place on

-- a part behind place `at`
part_at : (at a b : ℕ) (ws : List ℕ) → at ≤ length ws → slice (at + a) (at + b) ws ≡ slice a b (drop at ws)
part_at at a b ws h =
    rw (take-add at b ws, ← (drop-drop a at (take at ws ++ take b (drop at ws))), drop_at (take at ws) (take b (drop at ws)) at (length-take-le at ws h))

pair_at : (at i : ℕ) (ws : List ℕ) → pair ws (at + i) ≡ pair (drop at ws) i
unfolding pair
pair_at at i ws = rw (add_assoc at i 1, ← (get_or-drop at ws i 0), ← (get_or-drop at ws (i + 1) 0))

-- ---- the parts of a written message; `more` are the words right behind its head

module _ (s : ℕ) (more : List ℕ) (l r : ℕ) (ts : List ℕ) where
  length_front : length (front s more l r (length ts)) ≡ length more + 5
  unfolding front end_words
  length_front = omega (arith, length-append more (end_words l r))

  length-body : length (body s more l r ts) ≡ length more + length ts + 5
  unfolding body
  length-body =
      length-append (front s more l r (length ts)) (map (λ t. word 6 t) ts) ∙ omega (arith, length_front, length-map ts (λ t. word 6 t))

  pub length-message-more : length (message_words s more l r ts) ≡ length more + length ts + 6
  unfolding message_words
  length-message-more = length-append (body s more l r ts) _ ∙ omega (arith, length-body)

  -- the place of the last word
  last-message : length (body s more l r ts) ≡ length (message_words s more l r ts) - 1
  last-message = omega (arith, length-body, length-message-more)

  -- all words but the last, and the last
  take-message : take (length (message_words s more l r ts) - 1) (message_words s more l r ts) ≡ body s more l r ts
  unfolding message_words
  take-message = take_at (body s more l r ts) _ _ last-message

  drop-message : drop (length (message_words s more l r ts) - 1) (message_words s more l r ts) ≡ word 7 (check (body s more l r ts)) ∷ []
  unfolding message_words
  drop-message = drop_at (body s more l r ts) _ _ last-message

  get_or-message : get_or (message_words s more l r ts) (length (message_words s more l r ts) - 1) 0 ≡ word 7 (check (body s more l r ts))
  unfolding message_words
  get_or-message = get_or_at (body s more l r ts) _ [] 0 _ last-message

  -- the words from the interval on, and those between it and the head
  abbrev rest : List ℕ
  rest = end_words l r ++ (map (λ t. word 6 t) ts ++ (word 7 (check (body s more l r ts)) ∷ []))

  pub parts-message : message_words s more l r ts ≡ (word 1 (s + 32 * length ts) ∷ more) ++ rest
  unfolding message_words body front
  parts-message = simp append_assoc

  ends-message : drop (1 + length more) (message_words s more l r ts) ≡ rest
  ends-message = rw parts-message (drop_at (word 1 (s + 32 * length ts) ∷ more) rest (1 + length more) (omega arith))

  pub more-message : slice 1 (1 + length more) (message_words s more l r ts) ≡ more
  more-message =
      rw parts-message (ap (λ (ws : List ℕ). drop 1 ws) (take_at (word 1 (s + 32 * length ts) ∷ more) rest (1 + length more) (omega arith)))

  pub middle-message : middle (1 + length more) true (message_words s more l r ts) ≡ map (λ t. word 6 t) ts
  unfolding middle body width
  middle-message =
      ap (λ (ws : List ℕ). drop (1 + length more + 4) ws) take-message
      ∙ drop_at (front s more l r (length ts)) (map (λ t. word 6 t) ts) (1 + length more + 4) (omega (arith, length_front))

  -- what is written is taken
  module _ (a : s ≤ 28) (b : l ≤ r) (c : r < ends_limit) (d : length ts ≤ terms_most) (e : T (is_normal ts)) (m : Masks ts) where
    ends_fit : T (span_kinds (1 + length more) true (message_words s more l r ts))
    unfolding span_kinds of_kind end_words
    ends_fit =
        let at = 1 + length more in
        let ws = message_words s more l r ts in
        let fits : at ≤ length ws = omega (arith, length-message-more) in
        let left : slice at (at + 2) ws ≡ slice 0 2 (drop at ws) = rw add-zero at (part_at at 0 2 ws fits) in
        rw (
          left,
          part_at at 2 4 ws fits,
          ends-message,
          word-kind 2 (l / payload_size) (omega arith),
          word-kind 2 (l % payload_size) (omega arith),
          word-kind 3 (r / payload_size) (omega arith),
          word-kind 3 (r % payload_size) (omega arith),
        ) tt

    message_kinds : T (kinds_fit (1 + length more) true (message_words s more l r ts))
    unfolding kinds_fit of_kind
    message_kinds =
        rw (
          T_true (span_kinds (1 + length more) true (message_words s more l r ts)) ends_fit,
          middle-message,
          drop-message,
          T_true (of_kind 6 (map (λ t. word 6 t) ts)) (terms-kind ts m),
          word-kind 7 (check (body s more l r ts)) (check_lt (body s more l r ts)),
        ) tt

    message-sum : T (check_fits (message_words s more l r ts))
    unfolding check_fits
    message-sum =
        rw (get_or-message, take-message, payload-word 7 (check (body s more l r ts)) (check_lt (body s more l r ts)))
        (eqb_refl (check (body s more l r ts)))

    message-span : span (1 + length more) true (message_words s more l r ts) ≡ Span l r
    unfolding span pair end_words
    message-span =
        let at = 1 + length more in
        let ws = message_words s more l r ts in
        let left : pair ws at ≡ l = rw add-zero at (pair_at at 0 ws) ∙ rw ends-message (pair-word 2 l (omega arith)) in
        let right : pair ws (at + 2) ≡ r = pair_at at 2 ws ∙ rw ends-message (pair-word 3 r c) in
        rw (left, right, le-leb l r b)

    pub taken-message : Taken (1 + length more) true (message_words s more l r ts) s l r (length ts)
    unfolding is_ends message_words body front end_words width
    taken-message =
        let at = 1 + length more in
        let first : get_or (message_words s more l r ts) at 0 ≡ word 2 (l / payload_size) =
        rw add-zero at (sym (get_or-drop at (message_words s more l r ts) 0 0)) ∙ rw ends-message in
        record {
          form = eq-eqb (kind_of (get_or (message_words s more l r ts) at 0)) 2 (omega (arith, first));
          size = omega (arith, length-message-more);
          head = refl;
          sender = omega arith;
          count = omega arith;
          sender_le = a;
          count_le = d;
          kinds = message_kinds;
          sum = message-sum;
          interval = message-span;
          left_le = b;
          right_lt = c;
          normal = rw (middle-message, masks-terms ts m) e;
        }

    -- what is written is read back
    pub read-write-more : read_from (1 + length more) (message_words s more l r ts) ≡ Message s l r (length ts)
    read-write-more = from_in taken-message

    pub terms-write-more : NoTerms more → masks (term_words (Message s l r (length ts)) (message_words s more l r ts)) ≡ ts
    terms-write-more none = rw (terms-middle-from taken-message (omega arith) (rw more-message none), middle-message) (masks-terms ts m)

-- where nothing stands between head and interval
module _ (s l r : ℕ) (ts : List ℕ) where
  pub length-message : length (message_words s [] l r ts) ≡ length ts + 6
  length-message = omega (arith, length-message-more s [] l r ts)

  module _ (a : s ≤ 28) (b : l ≤ r) (c : r < ends_limit) (d : length ts ≤ terms_most) (e : T (is_normal ts)) (m : Masks ts) where
    pub read-write : read_plain (message_words s [] l r ts) ≡ Message s l r (length ts)
    read-write = read_in (taken-message s [] l r ts a b c d e m)

    pub terms-write : masks (term_words (Message s l r (length ts)) (message_words s [] l r ts)) ≡ ts
    terms-write = terms-write-more s [] l r ts a b c d e m refl

-- ---- each word is below 2 ^ 32

pub words_cons : (w : ℕ) (ws : List ℕ) → w < 2 ^ 32 → Words ws → Words (w ∷ ws)
unfolding Words
words_cons w ws h k zero = h
words_cons w ws h k (suc i) = k i

pub words-none : Words []
unfolding Words
words-none i = omega arith

words_append : (vs ws : List ℕ) → Words vs → Words ws → Words (vs ++ ws)
unfolding Words
words_append [] ws h k = k
words_append (v ∷ vs) ws h k = words_cons v (vs ++ ws) (h 0) (words_append vs ws (λ i. h (suc i)) k)

words-terms : (ts : List ℕ) → Masks ts → Words (map (λ t. word 6 t) ts)
words-terms [] m = words-none
words-terms (t ∷ ts) m = words_cons _ _ (omega (arith, m 0)) (words-terms ts (λ i. m (suc i)))

pub words-message-more : (s : ℕ) (more : List ℕ) (l r : ℕ) (ts : List ℕ) → s ≤ 28 → l ≤ r → r < ends_limit → length ts ≤ terms_most → Masks ts → Words more
    → Words (message_words s more l r ts)
unfolding message_words body front end_words
words-message-more s more l r ts a b c d m w =
    let ends : Words (end_words l r) =
    words_cons _ _ (omega arith) (words_cons _ _ (omega arith) (words_cons _ _ (omega arith) (words_cons _ _ (omega arith) words-none))) in
    words_append (body s more l r ts) _
    (words_append (front s more l r (length ts)) _ (words_cons _ _ (omega arith) (words_append more _ w ends)) (words-terms ts m))
    (words_cons _ _ (omega (arith, check_lt (body s more l r ts))) words-none)

pub words-message : (s l r : ℕ) (ts : List ℕ) → s ≤ 28 → l ≤ r → r < ends_limit → length ts ≤ terms_most → Masks ts → Words (message_words s [] l r ts)
words-message s l r ts a b c d m = words-message-more s [] l r ts a b c d m words-none

-- ---- an accepted message in ends form is written again as the same words

-- the ends of an interval in ends form
span-ends : (b : Bool) (x y l r : ℕ) → cond b (Span x y) Bad ≡ Span l r → (x ≡ l) × (y ≡ r)
span-ends true x y l r e = ((cc), (cc))
span-ends false x y l r e = ((cc), (cc))

-- the two words of an end that was read are those it is written in
word-pair : (k x i j : ℕ) (ws : List ℕ) → j ≡ i + 2 → j ≤ length ws → T (of_kind k (slice i j ws)) → pair ws i ≡ x →
    (word k (x / payload_size) ≡ get_or ws i 0) × (word k (x % payload_size) ≡ get_or ws (i + 1) 0)
unfolding pair
word-pair k x i j ws e h t p =
    let high = kind_at k i j i ws t (omega arith) (omega arith) h in
    let low = kind_at k i j (i + 1) ws t (omega arith) (omega arith) h in
    omega arith

-- four words from a place on, one by one
take_four : (at : ℕ) (ws : List ℕ) → at + 4 ≤ length ws →
    take 4 (drop at ws) ≡ get_or ws at 0 ∷ get_or ws (at + 1) 0 ∷ get_or ws (at + 2) 0 ∷ get_or ws (at + 2 + 1) 0 ∷ []
take_four at ws h =
    ap (λ (t : List ℕ). take 4 t)
    (next at (at + 1) refl (omega arith) ∙ ap (λ (t : List ℕ). get_or ws at 0 ∷ t)
    (next (at + 1) (at + 2) (omega arith) (omega arith) ∙ ap (λ (t : List ℕ). get_or ws (at + 1) 0 ∷ t)
    (next (at + 2) (at + 2 + 1) refl (omega arith) ∙ ap (λ (t : List ℕ). get_or ws (at + 2) 0 ∷ t) (next (at + 2 + 1) (at + 4) (omega arith) (omega arith)))))
  where
    next : (i j : ℕ) → j ≡ i + 1 → i < length ws → drop i ws ≡ get_or ws i 0 ∷ drop j ws
    next i j e k = rw e (drop_next ws i k)

drop-last : (ws : List ℕ) → 0 < length ws → drop (length ws - 1) ws ≡ get_or ws (length ws - 1) 0 ∷ []
drop-last ws h = drop-cons ws (length ws - 1) 0 (omega arith) ∙ rw (drop_of_length-le ws {i = suc (length ws - 1)} (omega arith))

pub length-terms : {at : ℕ} {ends : Bool} {ws : List ℕ} {s l r n : ℕ} → Taken at ends ws s l r n → length (masks (middle at ends ws)) ≡ n
unfolding masks
length-terms {at} {ends} {ws} t = length-map (middle at ends ws) (λ w. payload w) ∙ length-middle t

module _ (at : ℕ) (ws : List ℕ) (s l r n : ℕ) (p : 0 < at) (t : Taken at true ws s l r n) where
  -- the front, all words but the last, and the last one
  front_read : front s (slice 1 at ws) l r n ≡ take (at + 4) ws
  unfolding front end_words span kinds_fit span_kinds width
  front_read =
      let kinds = t.kinds in
      let size : length ws ≡ at + 4 + n + 1 = t.size in
      let both = span-ends (leb (pair ws at) (pair ws (at + 2))) (pair ws at) (pair ws (at + 2)) l r t.interval in
      let left = word-pair 2 l at (at + 2) ws refl (omega arith) (search (both_l, both_r) depth 9) both.0 in
      let right = word-pair 3 r (at + 2) (at + 4) ws (omega arith) (omega arith) (search (both_l, both_r) depth 9) both.1 in
      rw (take-add at 4 ws, take_four at ws (omega arith), slice-cons 0 at ws 0 p (omega arith), t.head, left.0, left.1, right.0, right.1)

  body-read : body s (slice 1 at ws) l r (masks (middle at true ws)) ≡ take (length ws - 1) ws
  unfolding body middle kinds_fit width
  body-read =
      let kinds = t.kinds in
      let size : length ws ≡ at + 4 + n + 1 = t.size in
      let between : T (of_kind 6 (middle at true ws)) = search (both_l, both_r) depth 9 in
      rw (length-terms t, terms-masks (middle at true ws) between, front_read, ← (take-take (at + 4) (length ws - 1) ws (omega arith)))
      (take-append-drop (at + 4) (take (length ws - 1) ws))

  last-read : word 7 (check (take (length ws - 1) ws)) ∷ [] ≡ drop (length ws - 1) ws
  unfolding check_fits kinds_fit of_kind
  last-read =
      let w = get_or ws (length ws - 1) 0 in
      let kinds = t.kinds in
      let last : T (of_kind 7 (drop (length ws - 1) ws)) = search (both_l, both_r) depth 9 in
      let kind = eqb→eq (kind_of w) 7 (both_l (eqb (kind_of w) 7) true (rw (drop-last ws (omega arith)) at last)) in
      let low = eqb→eq (payload w) (check (take (length ws - 1) ws)) t.sum in
      rw (drop-last ws (omega arith)) (ap (λ (x : ℕ). x ∷ []) (omega arith))

  -- the words that were read are those that are written
  write_read : message_words s (slice 1 at ws) l r (masks (middle at true ws)) ≡ ws
  unfolding message_words
  write_read = rw (body-read, last-read) (take-append-drop (length ws - 1) ws)

-- ---- rewriting, for a message whose interval begins at place `at`: the words between head and interval stay

abbrev pub again : ℕ → ℕ → ℕ → ℕ → List ℕ → List ℕ
again at s l r ws = message_words s (slice 1 at ws) l r (masks (middle at (is_ends at ws) ws))

module _ {s l r n : ℕ} (at : ℕ) (ws : List ℕ) (p : 0 < at) (e : read_from at ws ≡ Message s l r n) where
  taken_again : Taken at true (again at s l r ws) s l r n
  taken_again =
      let t = from_out at ws e in
      let ts = masks (middle at (is_ends at ws) ws) in
      let place : 1 + length (slice 1 at ws) ≡ at = omega (arith, length-slice 1 at ws (omega (arith, start_bounds at (is_ends at ws)))) in
      subst (λ (k : ℕ). Taken k true (again at s l r ws) s l r n) place
      (subst (λ (k : ℕ). Taken (1 + length (slice 1 at ws)) true (again at s l r ws) s l r k) (length-terms t)
      (taken-message s (slice 1 at ws) l r ts t.sender_le t.left_le t.right_lt (omega (arith, length-terms t)) t.normal (masks_lt _)))

  -- an accepted message in ends form is rewritten as the same words
  pub again_ends : T (is_ends at ws) → again at s l r ws ≡ ws
  again_ends h =
      let ends : is_ends at ws ≡ true = T_true (is_ends at ws) h in
      rw ends (write_read at ws s l r n p (subst (λ (b : Bool). Taken at b ws s l r n) ends (from_out at ws e)))

  -- any accepted message is rewritten in ends form, and reads the same
  pub again_form : T (is_ends at (again at s l r ws))
  again_form = true_T _ taken_again.form

  pub again_reads : read_from at (again at s l r ws) ≡ read_from at ws
  again_reads = from_in taken_again ∙ sym e

-- ---- rewriting

module _ {s l r n : ℕ} (ws : List ℕ) (e : read_plain ws ≡ Message s l r n) where
  from : read_from 1 ws ≡ Message s l r n
  from = from_in (read_out ws e)

  rewritten_as_lem : rewritten_plain ws ≡ again 1 s l r ws
  unfolding rewritten_plain rewritten_plain_as
  rewritten_as_lem = rw (e, terms-middle (read_out ws e), slice_empty 1 ws)

  taken-rewritten : Taken 1 true (rewritten_plain ws) s l r n
  taken-rewritten = rw rewritten_as_lem (taken_again 1 ws (omega arith) from)

  -- an accepted message in ends form is rewritten as the same words
  pub rewrite-ends : T (is_ends 1 ws) → rewritten_plain ws ≡ ws
  rewrite-ends h = rewritten_as_lem ∙ again_ends 1 ws (omega arith) from h

  -- any accepted message is rewritten in ends form, with the same sender, interval and terms
  pub rewrite-form : T (is_ends 1 (rewritten_plain ws))
  rewrite-form = true_T _ taken-rewritten.form

  pub rewrite-length : length (rewritten_plain ws) ≡ n + 6
  unfolding width
  rewrite-length = omega (arith, taken-rewritten)

  pub rewrite-reads : read_plain (rewritten_plain ws) ≡ read_plain ws
  rewrite-reads = read_in taken-rewritten ∙ sym e

  pub rewrite-terms : masks (term_words (read_plain (rewritten_plain ws)) (rewritten_plain ws)) ≡ masks (term_words (read_plain ws) ws)
  rewrite-terms =
      let ts = masks (middle 1 (is_ends 1 ws) ws) in
      let written : rewritten_plain ws ≡ message_words s [] l r ts = rw (rewritten_as_lem, slice_empty 1 ws) in
      rw (rewrite-reads, e, terms-middle taken-rewritten, terms-middle (read_out ws e), written, middle-message s [] l r ts)
      (masks-terms ts (masks_lt _))

-- what is rewritten, or the nothing of a refused message, is words below 2 ^ 32
pub words-rewritten : (ws : List ℕ) → Words (rewritten_plain ws)
unfolding rewritten_plain rewritten_plain_as
words-rewritten ws = by (read_plain ws) refl
  where
    by : (x : Reading) → read_plain ws ≡ x → Words (rewritten_plain ws)
    by (Refused k) e = rw e words-none
    by (Message s l r n) e =
        let t = read_out ws e in
        rw (e, terms-middle t)
        (words-message s l r _ t.sender_le t.left_le t.right_lt (omega (arith, length-terms t)) (masks_lt _))
