-- Demand 2 of messages, over the bytes that C hands in and gets: an accepted message in ends form is rewritten as the same bytes, and every accepted
-- message as one in ends form that reads back to the same sender, interval and terms. The laws over words are `read-write`, `terms-write`,
-- `rewrite-ends`, `rewrite-reads`, `rewrite-terms` and `rewrite-epochs` of the crate `radio`. Assumes nothing.
use Prim.Native.Nat.{ℕ, ◌*◌, ◌%◌, ◌≤◌, ◌<◌}
use mathlib.Core.Path.{◌≡◌, refl, ap, ◌∙◌}
use mathlib.Core.Bool.{Bool, true, false, cond}
use mathlib.Core.List.{List}
use native.Mathlib.Omega.{arith}
use borrow.Author.Tests.{eq-eqb, eqb-true}
use lib.Dec.{T, eqb}
use lib.ListN.{length}
use Rattle.numbers.specs.Numbers.{Bytes, words_of, bytes_of}
use Rattle.numbers.proofs.NumberLaws.{bytes-words, words-bytes, length-bytes_of}
use Rattle.predicates.specs.Predicates.{is_normal}
use Rattle.message.specs.Words.{masks, ends_limit, terms_most}
use Rattle.message.specs.Read.{is_ends, term_words}
use Rattle.message.specs.Write.{message_words}
use Rattle.radio.specs.Names.{wanted, names_fit}
use Rattle.radio.specs.Read.{opening, read_words, epoch_words}
use Rattle.radio.specs.Write.{rewritten}
use Rattle.message.specs.Read.{Message, Refused}
use Rattle.message.proofs.MessageLaws.{Masks}
use Rattle.radio.proofs.MessageLaws.{words-message, read-write, terms-write, epochs-write}
use Rattle.radio.proofs.MessageLaws.{rewrite-ends, rewrite-form, rewrite-reads, rewrite-terms, rewrite-epochs, words-rewritten}
use Rattle.state.specs.Model.{name_most}
use Rattle.engine.specs.Receiving.{Delivery}
use Rattle.monitor.specs.Messages.{read_bytes, rewritten_bytes}
use Rattle.monitor.specs.Receive.{brings, delivered, delivered_as, receipt_with}

module _ {s l r n : ℕ} (m : List ℕ) (e : read_bytes m ≡ Message s l r n) where
  -- a taken message has whole words
  whole : eqb (length m % 4) 0 ≡ true
  unfolding read_bytes
  whole = go (eqb (length m % 4) 0) e
    where
      go : (b : Bool) → cond b (read_words (words_of m)) (Refused 10) ≡ Message s l r n → b ≡ true
      go true p = refl
      go false p = let z : ◌≡◌ {A = ℕ} 0 1 = cc in absurd (omega arith)

  words-read : read_words (words_of m) ≡ Message s l r n
  unfolding read_bytes
  words-read = rw whole at e

  written : rewritten_bytes m ≡ bytes_of (rewritten (words_of m))
  unfolding rewritten_bytes rewritten
  written = rw (e, words-read)

  back : words_of (rewritten_bytes m) ≡ rewritten (words_of m)
  back = ap words_of written ∙ words-bytes (rewritten (words_of m)) (words-rewritten (words_of m))

  -- "an accepted message in ends form is written again as the same words"
  pub rewrite-same_bytes : Bytes m → T (is_ends (opening (words_of m)) (words_of m)) → rewritten_bytes m ≡ m
  rewrite-same_bytes b h =
      written ∙ ap bytes_of (rewrite-ends (words_of m) words-read h) ∙ bytes-words m b (eqb-true (length m % 4) 0 whole)

  -- "Rewriting takes a message and writes it in ends form with the sender, interval and terms it has"
  pub rewrite-ends-bytes : T (is_ends (opening (words_of (rewritten_bytes m))) (words_of (rewritten_bytes m)))
  rewrite-ends-bytes = rw back (rewrite-form (words_of m) words-read)

  pub rewrite-read_bytes : read_bytes (rewritten_bytes m) ≡ read_bytes m
  unfolding read_bytes
  rewrite-read_bytes =
      let long : length (rewritten_bytes m) ≡ length (rewritten (words_of m)) * 4 = ap length written ∙ length-bytes_of (rewritten (words_of m)) in
      rw (eq-eqb (length (rewritten_bytes m) % 4) 0 (omega arith), whole, back) (rewrite-reads (words_of m) words-read)

  pub rewrite-terms-bytes : masks (term_words (read_bytes m) (words_of (rewritten_bytes m))) ≡ masks (term_words (read_bytes m) (words_of m))
  rewrite-terms-bytes = rw (e, back) (rw (rewrite-reads (words_of m) words-read, words-read) at (rewrite-terms (words_of m) words-read))

  -- and the epoch words it has
  pub rewrite-epochs-bytes : epoch_words (read_bytes m) (words_of (rewritten_bytes m)) ≡ epoch_words (read_bytes m) (words_of m)
  rewrite-epochs-bytes = rw (e, back) (rw (rewrite-reads (words_of m) words-read, words-read) at (rewrite-epochs (words_of m) words-read))

-- ---- a message that is written, received

-- "Written messages read back to the same sender, interval and terms", and so a receipt of one brings them
pub message-brings : (d : Delivery) → T (names_fit (wanted d.sender d.terms) d.names) → d.sender ≤ name_most → d.left ≤ d.right
    → d.right < ends_limit → length d.terms ≤ terms_most → T (is_normal d.terms) → Masks d.terms
    → delivered (receipt_with d.least d.greatest d.readings (bytes_of (message_words d.sender d.names d.left d.right d.terms)))
    ≡ brings d
unfolding delivered delivered_as read_bytes
message-brings d fit a b c few norm small =
    let ws = message_words d.sender d.names d.left d.right d.terms in
    let back : words_of (bytes_of ws) ≡ ws =
    words-bytes ws (words-message d.sender d.names d.left d.right d.terms fit a b c few norm small) in
    let whole : length (bytes_of ws) % 4 ≡ 0 = omega (arith, length-bytes_of ws) in
    rw (
      eq-eqb (length (bytes_of ws) % 4) 0 whole,
      back,
      read-write d.sender d.names d.left d.right d.terms fit a b c few norm small,
      back,
      epochs-write d.sender d.names d.left d.right d.terms fit a b c few norm small,
      terms-write d.sender d.names d.left d.right d.terms fit a b c few norm small,
    )
