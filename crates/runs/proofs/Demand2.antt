-- Demand 2 of messages, over what C gets.
-- The idea: a taken writing has a state in form and a held datum, whose message is at the front of the output and reads back (`write-reads` and its
-- kin of the crate `monitor`); an accepted message is one that reads as a message, and so does what is written of it (`rewrite-read_bytes` and
-- its kin). The numbers that are read fit 8 bytes each. Assumes nothing.
use Prim.Native.Nat.{ℕ, ◌^◌, ◌≤◌, ◌<◌}
use mathlib.Core.Path.{◌≡◌, refl, sym, ap, ◌∙◌}
use mathlib.Core.Bool.{true}
use mathlib.Core.List.{List, [], ◌∷◌}
use native.Mathlib.Omega.{arith}
use borrow.Author.Tests.{le-ltb}
use lib.Dec.{T, lt→ltb}
use lib.ListN.{length, take}
use Rattle.numbers.specs.Numbers.{num, bytes}
use Rattle.numbers.proofs.NumberLaws.{take_put}
use Rattle.std.specs.List.{list_all}
use Rattle.predicates.proofs.ListLaws.{both}
use Rattle.ends.specs.Ends.{down, up}
use Rattle.message.specs.Read.{term_words}
use Rattle.message.specs.Read.{Reading}
use Rattle.message.specs.Read.{Message, Refused}
use Rattle.radio.specs.Names.{wanted, names_of}
use Rattle.radio.specs.Read.{epoch_words}
use Rattle.radio.proofs.ReadLaws.{refused-above}
use Rattle.state.specs.Layout.{own_at, head_of, datum_at, joined}
use Rattle.state.specs.Refusal.{after}
use Rattle.monitor.specs.Messages.{read_bytes, answered, reading_bytes, read_number, read_output, rewritten_bytes, rewrite_number, rewrite_output}
use Rattle.monitor.specs.code.Words.{words_in}
use Rattle.monitor.specs.Calls.{written_bytes, write_number, write_output}
use Rattle.monitor.specs.Ask.{wide, Shows}
use Rattle.monitor.proofs.MessageCalls.{read_words_in}
use Rattle.monitor.proofs.CallLaws.{held_out, write-form, write-held, write-front, write-reads, write-terms, write-epochs}
use Rattle.monitor.proofs.Demand2.{rewrite-same_bytes, rewrite-ends-bytes, rewrite-read_bytes, rewrite-terms-bytes, rewrite-epochs-bytes}
use Rattle.runs.specs.Demand1.{layout_size}
use Rattle.runs.specs.Demand2.{terms_in, names_in, Says, written_in, WrittenReads, rewritten_in, SaysAs, Rewrites, RewrittenReads, Demand2}
use Rattle.runs.proofs.Answers.{Small, shown}
use Rattle.runs.proofs.Demand1.{written-size, rewritten-size}

-- ---- reading

-- what C reads of a message whose numbers fit 8 bytes
module _ {s l r n : ℕ} (m : List ℕ) (e : read_bytes m ≡ Message s l r n) (small : T (list_all Small (s ∷ l ∷ r ∷ n ∷ []))) (out : List ℕ) (h : 32 ≤ length out) where
  taken-reading : read_number m out ≡ 0
  unfolding read_number answered reading_bytes bytes
  taken-reading = let long = le-ltb (length out) 32 h in rw (e, long)

  reading_shown : Shows (read_output m out) (s ∷ l ∷ r ∷ n ∷ [])
  unfolding read_output after reading_bytes wide joined bytes
  reading_shown = rw (taken-reading, e) (shown (s ∷ l ∷ r ∷ n ∷ []) out small h)

-- a message that is accepted reads as a message
accepted-reads : (m out : List ℕ) → read_number m out ≡ 0
    → (s : ℕ) × (l : ℕ) × (r : ℕ) × (n : ℕ) × (read_bytes m ≡ Message s l r n)
unfolding read_number answered
accepted-reads m out = go (read_bytes m) refl
  where
    go : (x : Reading) → read_bytes m ≡ x → answered x (reading_bytes x) out ≡ 0
        → (s : ℕ) × (l : ℕ) × (r : ℕ) × (n : ℕ) × (read_bytes m ≡ Message s l r n)
    go (Refused number) e z = absurd (omega (arith, refused-above (words_in m) number (read_words_in m ∙ e)))
    go (Message s l r n) e z = (s, l, r, n, e)

-- ---- writing

small-numbers : (a b c d : ℕ) → a < 256 ^ 8 → b < 256 ^ 8 → c < 256 ^ 8 → d < 256 ^ 8 → T (list_all Small (a ∷ b ∷ c ∷ d ∷ []))
small-numbers a b c d p q r s =
    both (Small a) _ (lt→ltb a (256 ^ 8) p) (both (Small b) _ (lt→ltb b (256 ^ 8) q) (both (Small c) _ (lt→ltb c (256 ^ 8) r) (both (Small d) true (lt→ltb d (256 ^ 8) s) tt)))

module _ (s : List ℕ) (position : ℕ) (out : List ℕ) (e : write_number s position out ≡ 0) where
  written-front : written_in s position out ≡ written_bytes s position
  unfolding layout_size
  written-front = ap (λ (n : ℕ). take n (write_output s position out)) (sym (written-size s position)) ∙ write-front s position out e

  written_says : Says (written_bytes s position) (head_of s).own (down (datum_at s position).left) (up (datum_at s position).right)
      (datum_at s position).terms (names_of (head_of s).epochs (wanted (head_of s).own (datum_at s position).terms))
  unfolding layout_size head_of terms_in names_in term_words epoch_words
  written_says =
      let form = write-form s position out e in
      let there = write-held s position out e in
      let f = held_out s form position there in
      let reads = write-reads s form position there in
      let d = datum_at s position in
      let small = small-numbers (num own_at 4 s) (down d.left) (up d.right) (length d.terms) (omega (arith, f.own_le)) (omega (arith, f.ends, f.below)) (omega (arith, f.below)) (omega (arith, f.few)) in
      record {
        accepted = taken-reading (written_bytes s position) reads small;
        numbers = reading_shown (written_bytes s position) reads small;
        its_terms = rw reads at (write-terms s form position there);
        its_names = rw reads at (write-epochs s form position there);
      }

written-reads : WrittenReads
unfolding WrittenReads
written-reads s position out e = rw (written-front s position out e) (written_says s position out e)

-- ---- rewriting

module _ {s l r n : ℕ} (m out : List ℕ) (e : read_bytes m ≡ Message s l r n) (h : length (rewritten_bytes m) ≤ length out) where
  taken_rewriting : rewrite_number m out ≡ 0
  unfolding rewrite_number answered
  taken_rewriting = let long = le-ltb (length out) (length (rewritten_bytes m)) h in rw (e, long)

  rewritten-front : rewritten_in m out ≡ rewritten_bytes m
  unfolding layout_size rewrite_output after
  rewritten-front =
      ap (λ (k : ℕ). take k (rewrite_output m out)) (sym (rewritten-size m e))
      ∙ rw taken_rewriting (take_put (length (rewritten_bytes m)) (rewritten_bytes m) out refl h)

  says_as : SaysAs m (rewritten_bytes m)
  unfolding read_number read_output terms_in names_in term_words epoch_words
  says_as =
      let reads = rewrite-read_bytes m e in
      record {
        number = λ o. rw reads;
        output = λ o. rw reads;
        same-terms = rw e at (rewrite-terms-bytes m e);
        same_names = rw e at (rewrite-epochs-bytes m e);
      }

  rewrites : Rewrites m out
  rewrites =
      record {
        taken = taken_rewriting;
        ends = rw rewritten-front (rewrite-ends-bytes m e);
        reads = rw rewritten-front says_as;
        same = λ b f. rewritten-front ∙ rewrite-same_bytes m e b f;
      }

rewritten-reads : RewrittenReads
unfolding RewrittenReads layout_size
rewritten-reads m reading out z h =
    let got = accepted-reads m reading z in
    rewrites m out got.4 (rw (rewritten-size m got.4) h)

pub demand2 : Demand2
unfolding Demand2
demand2 = (written-reads, rewritten-reads)
