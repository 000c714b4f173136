-- Writing a held datum as a message, on plain values: what is read from the state's bytes is the datum's words, and the message reads back.
-- The idea: a state in form has an own name of at most 28, and each held datum has ends in order below 2^58 and 1 to 8 terms of 29 bits in normal
-- form. This is all that `read-write` and `terms-write` of the crate `radio` ask, so a message written from a held datum is accepted and has the
-- own name, that interval and those terms. No contract cites this file. Assumes nothing.
use Prim.Native.Nat.{ℕ, zero, suc, ◌+◌, ◌*◌, ◌%◌, ◌^◌, ◌≤◌, ◌<◌}
use mathlib.Core.Path.{◌≡◌, refl, sym, ap, ◌∙◌}
use mathlib.Core.Bool.{not}
use mathlib.Core.List.{List, [], ◌∷◌}
use native.Mathlib.Omega.{arith}
use borrow.Author.Tests.{le-ltb, eq-eqb, leb-false, ltb-false}
use lib.Dec.{T, leb, ltb, ltb→lt}
use lib.ListN.{length, get_or, take}
use Rattle.numbers.specs.Numbers.{num, bytes, Words, words_of, bytes_of, put}
use Rattle.numbers.proofs.NumberLaws.{length-bytes_of, words-bytes, take_put}
use Rattle.std.specs.List.{list_all}
use Rattle.predicates.specs.Predicates.{is_normal}
use Rattle.predicates.proofs.ListLaws.{both_l, both_r, T_false}
use Rattle.message.specs.Words.{payload, masks, ends_limit}
use Rattle.message.specs.Read.{term_words}
use Rattle.message.specs.Write.{message_words}
use Rattle.message.specs.Read.{Message}
use Rattle.message.proofs.MessageLaws.{Masks, length-message-more}
use Rattle.epochs.specs.Epochs.{epoch_most, epochs_most, epochs_in}
use Rattle.radio.specs.Names.{wanted, names_fit, names_of}
use Rattle.radio.specs.Read.{epoch_words}
use Rattle.radio.proofs.NameLaws.{fit_few, wanted_lt}
use Rattle.radio.proofs.MessageLaws.{names_known, words-message, read-write, terms-write, epochs-write}
use Rattle.state.specs.Layout.{datum_place, row_at, datum_at, held_count, own_at, epochs_at, left_millionths_in, row_in, datum_terms}
use Rattle.state.specs.Form.{term_fits, terms_fit, in_form}
use Rattle.state.proofs.StateLaws.{form-datum, datum_at_ok, length-datum_at, epochs_fit_lem}
use Rattle.state.specs.Refusal.{after}
use Rattle.state.proofs.LentLaws.{refuse-none, lent_passed}
use Rattle.state.proofs.OkLaws.{ok_datum_out, ok_terms_out}
use Rattle.state.proofs.StateLaws.{own-fits}
use Rattle.monitor.specs.Messages.{read_bytes, read_number, reading_bytes, answered}
use Rattle.monitor.specs.Calls.{written_words, written_bytes, write_number, write_output}
use Rattle.names.specs.Sets.{no_set}
use Rattle.ends.specs.declared.Ends.{Ends}
use Rattle.ends.specs.Ends.{down, up, count_of, Split, BothSplit}
use Rattle.ends.proofs.EndLaws.{count-whole}
use Rattle.state.specs.Model.{name_most}
use Rattle.state.specs.code.Tables.{terms_of, ends_at, datum_row}
use Rattle.state.proofs.FormLaws.{ends_split}

-- ---- terms of a state

-- each has 29 bits
fit_masks : (own : ℕ) (ts : List ℕ) → T (list_all (term_fits own) ts) → Masks ts
unfolding term_fits
fit_masks own [] t i = omega arith
fit_masks own (x ∷ ts) t zero = ltb→lt x no_set (search (both_l, both_r) depth 9)
fit_masks own (x ∷ ts) t (suc i) = fit_masks own ts (both_r (term_fits own x) (list_all (term_fits own) ts) t) i

-- so the terms that they carry as words are themselves
masks-same : (ts : List ℕ) → Masks ts → masks ts ≡ ts
unfolding masks
masks-same [] m = refl
masks-same (t ∷ ts) m = let e : payload t ≡ t = omega (arith, m 0) in rw (e, masks-same ts (λ i. m (suc i)))

-- ---- the held datum at a position, in bytes in form

-- the facts that the message of it asks
pub record Held (s : List ℕ) (position : ℕ) : Type 0 where
  pub own_le : num own_at 4 s ≤ name_most
  pub ends : down (datum_at s position).left ≤ up (datum_at s position).right
  pub below : up (datum_at s position).right < ends_limit
  pub split : BothSplit (ends_at s position)
  pub few : length (datum_at s position).terms ≤ 8
  pub norm : T (is_normal (datum_at s position).terms)
  pub small : Masks (datum_at s position).terms
  pub count : length (datum_at s position).terms ≡ num (datum_place position + row_in) 4 s
  pub epochs : (n : ℕ) → get_or (epochs_in epochs_at s) n 0 ≤ epoch_most

module _ (s : List ℕ) (t : T (in_form s)) (position : ℕ) (h : position < held_count s) where
  terms-small : T (terms_fit (num own_at 4 s) datum_terms (datum_at s position).terms) → Masks (datum_at s position).terms
  unfolding terms_fit
  terms-small f = fit_masks (num own_at 4 s) (datum_at s position).terms (search (both_l, both_r) depth 9)

  pub held_out : Held s position
  held_out =
      let d = ok_datum_out (num own_at 4 s) (datum_at s position) (datum_at_ok s t position h) in
      let p = ok_terms_out (num own_at 4 s) datum_terms (datum_at s position).terms d.fit in
      record {
        own_le = own-fits s t;
        ends = omega (arith, d.ends);
        below = omega (arith, d.below);
        split = ends_split (num own_at 4 s) s position (form-datum s t position h);
        few = p.few;
        norm = p.norm;
        small = terms-small d.fit;
        count = length-datum_at s t position h;
        epochs = epochs_fit_lem s t;
      }

-- ---- what writing reads, and what it leaves

module _ (s : List ℕ) (position : ℕ) where
  -- the row that is read of it
  pub row_ends : (datum_row s position).ends ≡ ends_at s position
  unfolding datum_row
  row_ends = refl

  pub row_count : (datum_row s position).count ≡ num (datum_place position + row_in) 4 s
  unfolding datum_row
  row_count = refl

  pub row_terms : terms_of (datum_row s position) ≡ (datum_at s position).terms
  unfolding datum_row datum_at row_at
  row_terms = refl

  pub length-written_bytes : length (written_bytes s position) ≡ length (written_words s position) * 4
  unfolding written_bytes
  length-written_bytes = length-bytes_of (written_words s position)

  -- the bytes of the words at the front of an array
  pub written_bytes_lem : (n : ℕ) (words old : List ℕ) → n ≡ length (written_words s position) → n ≤ length old → words ≡ put 0 (written_words s position) old
      → bytes_of (take n words) ≡ written_bytes s position
  unfolding written_bytes
  written_bytes_lem n words old e h p =
      ap bytes_of (ap (λ (x : List ℕ). take n x) p ∙ take_put n (written_words s position) old (sym e) h)

module _ (s : List ℕ) (position : ℕ) (f : Held s position) where
  -- the names that it gives
  abbrev given : List ℕ
  given = names_of (epochs_in epochs_at s) (wanted (num own_at 4 s) (datum_at s position).terms)

  pub given_fit : T (names_fit (wanted (num own_at 4 s) (datum_at s position).terms) given)
  given_fit = names_known (num own_at 4 s) (datum_at s position).terms (epochs_in epochs_at s) f.own_le f.small f.epochs

  pub given-few : length given ≤ epochs_most
  given-few =
      fit_few (wanted (num own_at 4 s) (datum_at s position).terms) given given_fit
      (wanted_lt (num own_at 4 s) (datum_at s position).terms f.own_le f.small)

  -- those that are looked up are these
  pub given-told : (mask own : ℕ) (terms names : List ℕ) → own ≡ num own_at 4 s → terms ≡ (datum_at s position).terms → mask ≡ wanted own (masks terms)
      → names ≡ names_of (epochs_in epochs_at s) mask → names ≡ given
  given-told mask own terms names a b c d = d ∙ rw (c, a, b, masks-same (datum_at s position).terms f.small)

  pub length-written : length (written_words s position) ≡ length given + num (datum_place position + row_in) 4 s + 6
  unfolding written_words
  length-written =
      omega (arith, length-message-more (num own_at 4 s) given (down (datum_at s position).left) (up (datum_at s position).right) (datum_at s position).terms, f.count)

  -- the ends that were read
  module _ (e : Ends) (p : e ≡ ends_at s position) where
    pub right_split : Split e.right × (e.right.whole < 2 ^ 63)
    unfolding datum_at ends_at
    right_split = rw p (f.split.1, omega (arith, f.below))

    -- the left one down and the right one up
    pub left_down : e.left.whole ≡ down (datum_at s position).left
    unfolding datum_at ends_at
    left_down = rw p (sym (count-whole (num (datum_place position) 8 s) (num (datum_place position + left_millionths_in) 4 s) f.split.0))

    pub right-up : (right : ℕ) → right ≡ up (count_of e.right) → right ≡ up (datum_at s position).right
    unfolding datum_at ends_at
    right-up right r = r ∙ rw p

  pub ends_lt : (left right : ℕ) → left ≡ down (datum_at s position).left → right ≡ up (datum_at s position).right → (left < ends_limit) × (right < ends_limit)
  ends_lt left right a b = (omega (arith, f.ends, f.below), omega (arith, f.below))

  -- the words that are written
  pub words-written : (own left right : ℕ) (names terms : List ℕ) → own ≡ num own_at 4 s → left ≡ down (datum_at s position).left
      → right ≡ up (datum_at s position).right → names ≡ given → terms ≡ (datum_at s position).terms
      → message_words own names left right (masks terms) ≡ written_words s position
  unfolding written_words
  words-written own left right names terms a b c n d = rw (a, b, c, n, d, masks-same (datum_at s position).terms f.small)

  words_small : Words (written_words s position)
  unfolding written_words
  words_small = words-message _ given _ _ _ given_fit f.own_le f.ends f.below f.few f.norm f.small

  pub words_back : words_of (written_bytes s position) ≡ written_words s position
  unfolding written_bytes
  words_back = words-bytes (written_words s position) words_small

-- ---- a message written from a held datum reads back to the own name, the rounded interval and those terms

module _ (s : List ℕ) (t : T (in_form s)) (position : ℕ) (h : position < held_count s) where
  pub write-reads : read_bytes (written_bytes s position)
      ≡ Message (num own_at 4 s) (down (datum_at s position).left) (up (datum_at s position).right) (length (datum_at s position).terms)
  unfolding read_bytes written_words
  write-reads =
      let f = held_out s t position h in
      rw (eq-eqb (length (written_bytes s position) % 4) 0 (omega (arith, length-written_bytes s position)), words_back s position f)
      (read-write _ _ _ _ _ (given_fit s position f) f.own_le f.ends f.below f.few f.norm f.small)

  pub write-terms : masks (term_words (read_bytes (written_bytes s position)) (words_of (written_bytes s position))) ≡ (datum_at s position).terms
  unfolding written_words
  write-terms =
      let f = held_out s t position h in
      rw (write-reads, words_back s position f) (terms-write _ _ _ _ _ (given_fit s position f) f.own_le f.ends f.below f.few f.norm f.small)

  -- with the epochs known
  pub write-epochs : epoch_words (read_bytes (written_bytes s position)) (words_of (written_bytes s position))
      ≡ names_of (epochs_in epochs_at s) (wanted (num own_at 4 s) (datum_at s position).terms)
  unfolding written_words
  write-epochs =
      let f = held_out s t position h in
      rw (write-reads, words_back s position f)
      (epochs-write _ _ _ _ _ (given_fit s position f) f.own_le f.ends f.below f.few f.norm f.small)

  -- so reading it is taken, in an output of at least 32 bytes
  pub write-accepted : (out : List ℕ) → 32 ≤ length out → read_number (written_bytes s position) out ≡ 0
  unfolding read_number answered reading_bytes bytes
  write-accepted out k = let long = le-ltb (length out) 32 k in rw (write-reads, long)

-- ---- the call as a whole

module _ (s : List ℕ) (position : ℕ) (out : List ℕ) (e : write_number s position out ≡ 0) where
  -- what is taken was refused by no test
  tests : T (in_form s) × T (not (leb (held_count s) position)) × T (not (ltb (length out) (length (written_bytes s position))))
  unfolding write_number
  tests =
      let lent-to = lent_passed s _ e in
      let there = refuse-none (leb (held_count s) position) 23 _ (omega arith) lent-to.2 in
      let room = refuse-none (ltb (length out) (length (written_bytes s position))) 24 0 (omega arith) there.1 in
      (lent-to.1, there.0, room.0)

  -- a taken writing has a state in form and a held datum at the position
  pub write-form : T (in_form s)
  write-form = tests.0

  pub write-held : position < held_count s
  write-held = leb-false (held_count s) position (T_false (leb (held_count s) position) tests.1)

  -- and leaves the message at the front of the output
  pub write-front : take (length (written_bytes s position)) (write_output s position out) ≡ written_bytes s position
  unfolding write_output after
  write-front = rw e (take_put (length (written_bytes s position)) (written_bytes s position) out refl (ltb-false _ _ (T_false _ tests.2)))

  pub write-front-reads : read_bytes (take (length (written_bytes s position)) (write_output s position out))
      ≡ Message (num own_at 4 s) (down (datum_at s position).left) (up (datum_at s position).right) (length (datum_at s position).terms)
  write-front-reads = ap read_bytes write-front ∙ write-reads s write-form position write-held
