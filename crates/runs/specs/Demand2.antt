-- Demand 2 of messages, over what C gets: "Written messages read back to the same sender, interval and terms, and an accepted message in ends form is
-- written again as the same words." Document 02 adds epochs (W-204) and rounding: "a written message reads back to the rounded interval" (W-205). One
-- statement over the numbers and outputs of writing, rewriting and reading. Assumes nothing: these are definitions.
use Rattle.std.specs.Prelude.{ℕ, ◌≤◌, ◌≡◌, List, [], ◌∷◌, T, eqb, length, take}
use Rattle.numbers.specs.Numbers.{Bytes, words_of}
use Rattle.std.specs.List.{filter}
use Rattle.ends.specs.Ends.{down, up}
use Rattle.message.specs.Words.{kind_of, masks}
use Rattle.message.specs.Read.{is_ends}
use Rattle.radio.specs.Names.{wanted, names_of}
use Rattle.radio.specs.Read.{opening}
use Rattle.state.specs.Model.{Datum}
use Rattle.state.specs.Layout.{head_of, datum_at}
use Rattle.monitor.specs.Messages.{read_number, read_output, rewrite_number, rewrite_output}
use Rattle.monitor.specs.Calls.{write_number, write_output}
use Rattle.monitor.specs.Ask.{Shows}
use Rattle.runs.specs.Demand1.{layout_size, monitor_write, message_read, message_rewrite}

-- ---- what C has of a message

-- its terms: "the terms, kind 6"
unfoldable pub terms_in : List ℕ → List ℕ
terms_in m = masks (filter (λ w. eqb (kind_of w) 6) (words_of m))

-- its epoch words: "one word of kind 0 for the sender and for each identifier in its terms"
unfoldable pub names_in : List ℕ → List ℕ
names_in m = filter (λ w. eqb (kind_of w) 0) (words_of m)

-- "ends form"
abbrev pub InEndsForm : List ℕ → Type 0
InEndsForm m = T (is_ends (opening (words_of m)) (words_of m))

-- reading it is taken in every output with room and gives this sender and this interval; it has these terms, not only as many, and these epoch words
pub record Says (m : List ℕ) (sender left right : ℕ) (terms names : List ℕ) : Type 0 where
  pub accepted : (out : List ℕ) → layout_size (message_read m out) ≤ length out → read_number m out ≡ 0
  pub numbers : (out : List ℕ) → layout_size (message_read m out) ≤ length out
      → Shows (read_output m out) (sender ∷ left ∷ right ∷ length terms ∷ [])
  pub its_terms : terms_in m ≡ terms
  pub its_names : names_in m ≡ names

-- ---- writing

-- the front of the output, as long as the message is
abbrev pub written_in : List ℕ → ℕ → List ℕ → List ℕ
written_in s position out = take (layout_size (monitor_write s position out)) (write_output s position out)

-- whenever it is taken: "takes one held datum by its position [..] and gives the own name as sender"; the left end is rounded down and the right one
-- up, and each name has the epoch that is known
unfoldable pub WrittenReads : Type 0
WrittenReads =
    (s : List ℕ) (position : ℕ) (out : List ℕ) → write_number s position out ≡ 0
    → (let d : Datum = datum_at s position in
    let own : ℕ = (head_of s).own in
    Says (written_in s position out) own (down d.left) (up d.right) d.terms (names_of (head_of s).epochs (wanted own d.terms)))

-- ---- rewriting

abbrev pub rewritten_in : List ℕ → List ℕ → List ℕ
rewritten_in m out = take (layout_size (message_rewrite m out)) (rewrite_output m out)

-- "Rewriting takes a message and writes it in ends form with the sender, interval and terms it has", and its epoch words: reading the new message
-- gives the number and the bytes that reading the old one gives, in every output
pub record SaysAs (m w : List ℕ) : Type 0 where
  pub number : (out : List ℕ) → read_number w out ≡ read_number m out
  pub output : (out : List ℕ) → read_output w out ≡ read_output m out
  pub same-terms : terms_in w ≡ terms_in m
  pub same_names : names_in w ≡ names_in m

-- of every message that reading accepts, with room in the output
pub record Rewrites (m out : List ℕ) : Type 0 where
  pub taken : rewrite_number m out ≡ 0
  pub ends : InEndsForm (rewritten_in m out)
  pub reads : SaysAs m (rewritten_in m out)
  -- "an accepted message in ends form is written again as the same words"
  pub same : Bytes m → InEndsForm m → rewritten_in m out ≡ m

unfoldable pub RewrittenReads : Type 0
RewrittenReads =
    (m reading out : List ℕ) → read_number m reading ≡ 0 → layout_size (message_rewrite m out) ≤ length out → Rewrites m out

-- ---- demand 2

unfoldable pub Demand2 : Type 0
Demand2 = WrittenReads × RewrittenReads
