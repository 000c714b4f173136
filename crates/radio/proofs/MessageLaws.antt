-- The laws of demand 2 about live messages: what is written is read back, an accepted message in ends form is rewritten as the same words,
-- and any accepted message is rewritten in ends form with the same sender, interval, terms and epoch words.
-- The idea: the names of a written message end where its interval begins, so `Live` of `proofs.ReadLaws` holds of it.
-- No contract cites this file. Assumes nothing.
use Prim.Native.Nat.{ℕ, ◌+◌, ◌/◌, ◌≤◌, ◌<◌}
use mathlib.Core.Path.{◌≡◌, refl, sym, ap, subst, ◌∙◌}
use mathlib.Core.Bool.{true}
use mathlib.Core.List.{List, [], ◌∷◌}
use native.Mathlib.Omega.{arith}
use lib.Dec.{T, ltb, ltb→lt, eqb}
use lib.ListN.{length, get_or}
use borrow.Author.Tests.{eq-eqb}
use Rattle.numbers.specs.Numbers.{Words}
use Rattle.std.specs.List.{list_all}
use Rattle.predicates.specs.Predicates.{is_normal}
use Rattle.predicates.proofs.ListLaws.{true_T, both_l, both_r}
use Rattle.predicates.proofs.IndexLaws.{all_mono}
use Rattle.message.specs.Words.{payload_size, ends_limit, terms_most, kind_of, word, of_kind, masks}
use Rattle.message.specs.Read.{is_ends, middle, term_words}
use Rattle.message.specs.Write.{end_words, message_words}
use Rattle.message.specs.Read.{Reading}
use Rattle.message.specs.Read.{Message, Refused}
use Rattle.message.proofs.ReadLaws.{from_in}
use Rattle.message.proofs.MessageLaws.{Masks, masks-terms, masks_lt, length-message-more, parts-message, more-message, middle-message, taken-message}
use Rattle.message.proofs.MessageLaws.{words_cons, words-none, words-message-more, length-terms, again, again_ends}
use Rattle.epochs.specs.Epochs.{name_limit, epoch_most}
use Rattle.radio.specs.Names.{wanted, names_fit, names_of}
use Rattle.radio.specs.Read.{epoch_count, opening, epoch_part, read_words, epoch_words}
use Rattle.radio.specs.Write.{rewritten_as, rewritten}
use Rattle.radio.proofs.NameLaws.{fit_below, wanted_lt, names_of_lem}
use Rattle.radio.proofs.ReadLaws.{leading-append, leading-none, Live, read_in, read_out, epochs_part, terms-middle}

-- ---- names are words of kind 0

names-kind : (names : List ℕ) → T (list_all (λ w. ltb w name_limit) names) → T (of_kind 0 names)
unfolding of_kind
names-kind names t =
    all_mono (λ w. ltb w name_limit) (λ w. eqb (kind_of w) 0) names (λ w h. true_T _ (eq-eqb (kind_of w) 0 (omega (arith, ltb→lt w name_limit h)))) t

names-words : (names : List ℕ) → T (list_all (λ w. ltb w name_limit) names) → Words names
names-words [] t = words-none
names-words (w ∷ names) t =
    words_cons w names (omega (arith, ltb→lt w name_limit (both_l (ltb w name_limit) _ t))) (names-words names (both_r (ltb w name_limit) _ t))

-- ---- what is written, with names that fit its sender and its terms

module _ (s : ℕ) (names : List ℕ) (l r : ℕ) (ts : List ℕ) (f : T (names_fit (wanted s ts) names)) where
  -- the names are all its epoch words
  count-message : epoch_count (message_words s names l r ts) ≡ length names
  unfolding epoch_count end_words
  count-message =
      let kinds = names-kind names (fit_below (wanted s ts) names f) in
      rw (parts-message s names l r ts, leading-append names _ kinds, leading-none (word 2 (l / payload_size)) _ (λ e. omega arith)) (omega arith)

  part_message : epoch_part (message_words s names l r ts) ≡ names
  unfolding epoch_part
  part_message = rw count-message (more-message s names l r ts)

  module _ (a : s ≤ 28) (b : l ≤ r) (c : r < ends_limit) (d : length ts ≤ terms_most) (e : T (is_normal ts)) (m : Masks ts) where
    pub live-message : Live true (message_words s names l r ts) s l r (length ts)
    live-message =
        record {
          taken = rw count-message (taken-message s names l r ts a b c d e m);
          fit = rw (part_message, count-message, middle-message s names l r ts, masks-terms ts m) f;
        }

    -- what is written is read back
    pub read-write : read_words (message_words s names l r ts) ≡ Message s l r (length ts)
    read-write = read_in live-message

    pub terms-write : masks (term_words (Message s l r (length ts)) (message_words s names l r ts)) ≡ ts
    terms-write = rw (terms-middle live-message, count-message, middle-message s names l r ts) (masks-terms ts m)

    pub epochs-write : epoch_words (Message s l r (length ts)) (message_words s names l r ts) ≡ names
    epochs-write = epochs_part live-message ∙ part_message

    pub words-message : Words (message_words s names l r ts)
    words-message = words-message-more s names l r ts a b c d m (names-words names (fit_below (wanted s ts) names f))

-- the names of the sender and of the terms under known epochs fit them
pub names_known : (s : ℕ) (ts ks : List ℕ) → s ≤ 28 → Masks ts → ((n : ℕ) → get_or ks n 0 ≤ epoch_most)
    → T (names_fit (wanted s ts) (names_of ks (wanted s ts)))
names_known s ts ks a m low = names_of_lem ks (wanted s ts) low (wanted_lt s ts a m)

-- ---- rewriting

module _ {s l r n : ℕ} (ws : List ℕ) (e : read_words ws ≡ Message s l r n) where
  live : Live (is_ends (opening ws) ws) ws s l r n
  live = read_out ws e

  rewritten_as_lem : rewritten ws ≡ again (opening ws) s l r ws
  unfolding rewritten rewritten_as epoch_part
  rewritten_as_lem = rw (e, epochs_part live, terms-middle live)

  abbrev terms : List ℕ
  terms = masks (middle (opening ws) (is_ends (opening ws) ws) ws)

  count : length terms ≡ n
  count = length-terms live.taken

  few : length terms ≤ terms_most
  few = omega (arith, count, live.taken.count_le)

  live-rewritten : Live true (rewritten ws) s l r n
  unfolding epoch_part
  live-rewritten =
      let t = live.taken in
      rw rewritten_as_lem
      (subst (λ (k : ℕ). Live true (message_words s (epoch_part ws) l r terms) s l r k) count
      (live-message s (epoch_part ws) l r terms live.fit t.sender_le t.left_le t.right_lt few t.normal (masks_lt _)))

  -- an accepted message in ends form is rewritten as the same words
  pub rewrite-ends : T (is_ends (opening ws) ws) → rewritten ws ≡ ws
  rewrite-ends h = rewritten_as_lem ∙ again_ends (opening ws) ws (omega arith) (from_in live.taken) h

  -- any accepted message is rewritten in ends form, with the same sender, interval, terms and epoch words
  pub rewrite-form : T (is_ends (opening (rewritten ws)) (rewritten ws))
  rewrite-form = true_T _ live-rewritten.taken.form

  pub rewrite-reads : read_words (rewritten ws) ≡ read_words ws
  rewrite-reads = read_in live-rewritten ∙ sym e

  pub rewrite-length : length (rewritten ws) ≡ length (epoch_words (Message s l r n) ws) + n + 6
  unfolding epoch_part
  rewrite-length = rw (rewritten_as_lem, epochs_part live) (length-message-more s (epoch_part ws) l r terms ∙ omega (arith, count))

  pub rewrite-terms : masks (term_words (read_words (rewritten ws)) (rewritten ws)) ≡ masks (term_words (read_words ws) ws)
  unfolding epoch_part term_words
  rewrite-terms =
      let t = live.taken in
      rw (rewrite-reads, e, rewritten_as_lem)
      (terms-write s (epoch_part ws) l r terms live.fit t.sender_le t.left_le t.right_lt few t.normal (masks_lt _)
      ∙ sym (ap (λ (x : List ℕ). masks x) (terms-middle live)))

  pub rewrite-epochs : epoch_words (read_words (rewritten ws)) (rewritten ws) ≡ epoch_words (read_words ws) ws
  unfolding epoch_part epoch_words
  rewrite-epochs =
      let t = live.taken in
      rw (rewrite-reads, e, rewritten_as_lem)
      (epochs-write s (epoch_part ws) l r terms live.fit t.sender_le t.left_le t.right_lt few t.normal (masks_lt _)
      ∙ sym (epochs_part live))

-- what is rewritten, or the nothing of a refused message, is words below 2 ^ 32
pub words-rewritten : (ws : List ℕ) → Words (rewritten ws)
unfolding rewritten rewritten_as
words-rewritten ws = by (read_words ws) refl
  where
    by : (x : Reading) → read_words ws ≡ x → Words (rewritten ws)
    by (Refused k) e = rw e words-none
    by (Message s l r n) e =
        let live = read_out ws e in
        let t = live.taken in
        let ts = masks (middle (opening ws) (is_ends (opening ws) ws) ws) in
        let few : length ts ≤ terms_most = omega (arith, length-terms t) in
        rw (e, epochs_part live, terms-middle live)
        (words-message s (epoch_part ws) l r ts live.fit t.sender_le t.left_le t.right_lt few t.normal (masks_lt _))
