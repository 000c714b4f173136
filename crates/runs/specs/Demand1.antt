-- Demand 1: "The stamping program may hand in whatever bytes and numbers it has, a damaged state too; each call finishes, and bad input gets the
-- refusal listed for it, with every lent buffer unchanged." One statement over every exported call and every input. That a call finishes is part of
-- what its proof shows. A further call is a further line in each of the definitions over `Exported`. Assumes nothing: these are definitions.
use Rattle.std.specs.Prelude.{ℕ, ◌+◌, ◌*◌, ◌%◌, ◌≤◌, ◌≡◌, Bool, false, not, cond, ◌||◌, List, None}
use Rattle.std.specs.Prelude.{[], ◌∷◌, ◌++◌, map, length, get_or, take, drop, T, ltb, leb, eqb}
use Rattle.numbers.specs.Numbers.{Bytes, num, words_of}
use Rattle.predicates.specs.Predicates.{is_true, is_normal}
use Rattle.epochs.specs.Epochs.{NotAbove, epochs_in}
use Rattle.message.specs.Words.{payload, masks, ends_limit}
use Rattle.message.specs.Read.{term_count, head_word_fits, is_ends, opens, start, middle, kinds_fit, check_fits, pair}
use Rattle.radio.specs.Names.{wanted, names_of}
use Rattle.radio.specs.Read.{words_least, words_most, epoch_count, opening, epoch_words_fit}
use Rattle.clocks.specs.declared.Triple.{Triple}
use Rattle.clocks.specs.Clocks.{fails, with_drift}
use Rattle.state.specs.Model.{State}
use Rattle.state.specs.Layout.{state_size, own_at, held_at, entries_at, clocks_at, epochs_at, head_of, state_of, datum_at}
use Rattle.state.specs.Form.{in_form}
use Rattle.state.specs.Refusal.{refuse}
use Rattle.engine.specs.Receiving.{Delivery}
use Rattle.engine.specs.Hearing.{spoken_by, arrived}
use Rattle.engine.specs.Calls.{Setup}
use Rattle.engine.specs.Refusals.{own_fails, epoch_fails, drift_fails, reading_fails, goes_back, ages_past}
use Rattle.engine.specs.Refusals.{delays_fail, from_self, grows_past, terms_fail, overfills}
use Rattle.monitor.specs.Messages.{read_number, read_output, rewrite_number, rewrite_output}
use Rattle.monitor.specs.Calls.{set_up_number, set_up_state, age_number, age_state, no_datum_at, write_number, write_output}
use Rattle.monitor.specs.Receive.{Receipt, receipt_of, receipt_with, Delivered, refused, brings, delivered, receive_number, receive_state}
use Rattle.monitor.specs.Ask.{limit_fails, ask_number, ask_output, fewest_number, fewest_output}

-- ---- the exported calls

-- a call with what C hands in, in the parameters' order: numbers, bytes that are read, and the lent bytes that it may write: the state of the first
-- four, the output of the others
pub data Exported : Type 0 where
  monitor_set_up : List ℕ → Setup → Exported
  monitor_age : List ℕ → ℕ → Exported
  monitor_receive : List ℕ → ℕ → ℕ → List ℕ → Exported
  monitor_receive_with_readings : List ℕ → ℕ → ℕ → Triple → ℕ → List ℕ → Exported
  monitor_ask : List ℕ → ℕ → List ℕ → Exported
  monitor_fewest : List ℕ → List ℕ → Exported
  monitor_write : List ℕ → ℕ → List ℕ → Exported
  message_read : List ℕ → List ℕ → Exported
  message_rewrite : List ℕ → List ℕ → Exported

-- the number that it returns, as its contract has it
abbrev pub returned : Exported → ℕ
returned (monitor_set_up s u) = set_up_number s u
returned (monitor_age s reading) = age_number s reading
returned (monitor_receive s least greatest m) = receive_number s (receipt_of least greatest m)
returned (monitor_receive_with_readings s least greatest t drift m) = receive_number s (receipt_with least greatest (with_drift t drift) m)
returned (monitor_ask s limit out) = ask_number s limit out
returned (monitor_fewest s out) = fewest_number s out
returned (monitor_write s position out) = write_number s position out
returned (message_read m out) = read_number m out
returned (message_rewrite m out) = rewrite_number m out

-- the lent bytes as C hands them in
unfoldable pub lent_bytes : Exported → List ℕ
lent_bytes (monitor_set_up s u) = s
lent_bytes (monitor_age s reading) = s
lent_bytes (monitor_receive s least greatest m) = s
lent_bytes (monitor_receive_with_readings s least greatest t drift m) = s
lent_bytes (monitor_ask s limit out) = out
lent_bytes (monitor_fewest s out) = out
lent_bytes (monitor_write s position out) = out
lent_bytes (message_read m out) = out
lent_bytes (message_rewrite m out) = out

-- and afterwards, as its contract has them
abbrev pub left_bytes : Exported → List ℕ
left_bytes (monitor_set_up s u) = set_up_state s u
left_bytes (monitor_age s reading) = age_state s reading
left_bytes (monitor_receive s least greatest m) = receive_state s (receipt_of least greatest m)
left_bytes (monitor_receive_with_readings s least greatest t drift m) = receive_state s (receipt_with least greatest (with_drift t drift) m)
left_bytes (monitor_ask s limit out) = ask_output s limit out
left_bytes (monitor_fewest s out) = fewest_output s out
left_bytes (monitor_write s position out) = write_output s position out
left_bytes (message_read m out) = read_output m out
left_bytes (message_rewrite m out) = rewrite_output m out

-- ---- what is listed

-- "Order: setting up 24, 1, 2, 3. Ageing 24, 25, 3, 20, 30. Reading a message alone, or rewriting it, 10, 12, 11, 13 to 17. Receiving 24, 25, 21, 10,
-- 12, 11, 13 to 18, 30, 31, 32; [..] Asking 24, 25, 22; fewest 24, 25. Where an output is lent, 24 for it comes last. Writing 24 (state), 25, 23, 24
-- (output)." With readings 40 comes "after 21"; by document 02, W-204, 41 comes "after 1" and 42 "after 14"
unfoldable pub listed : Exported → List ℕ
listed (monitor_set_up s u) = 24 ∷ 1 ∷ 41 ∷ 2 ∷ 3 ∷ []
listed (monitor_age s reading) = 24 ∷ 25 ∷ 3 ∷ 20 ∷ 30 ∷ []
listed (monitor_receive s least greatest m) = 24 ∷ 25 ∷ 21 ∷ 10 ∷ 12 ∷ 11 ∷ 13 ∷ 14 ∷ 42 ∷ 15 ∷ 16 ∷ 17 ∷ 18 ∷ 30 ∷ 31 ∷ 32 ∷ []
listed (monitor_receive_with_readings s least greatest t drift m) =
    24 ∷ 25 ∷ 21 ∷ 40 ∷ 10 ∷ 12 ∷ 11 ∷ 13 ∷ 14 ∷ 42 ∷ 15 ∷ 16 ∷ 17 ∷ 18 ∷ 30 ∷ 31 ∷ 32 ∷ []
listed (monitor_ask s limit out) = 24 ∷ 25 ∷ 22 ∷ 24 ∷ []
listed (monitor_fewest s out) = 24 ∷ 25 ∷ 24 ∷ []
listed (monitor_write s position out) = 24 ∷ 25 ∷ 23 ∷ 24 ∷ []
listed (message_read m out) = 10 ∷ 12 ∷ 11 ∷ 13 ∷ 14 ∷ 42 ∷ 15 ∷ 16 ∷ 17 ∷ 24 ∷ []
listed (message_rewrite m out) = 10 ∷ 12 ∷ 11 ∷ 13 ∷ 14 ∷ 42 ∷ 15 ∷ 16 ∷ 17 ∷ 24 ∷ []

-- ---- the tests

-- a test of what was handed in, with the number that comes where it fails
pub record Test : Type 0 where
  pub fails : Bool
  pub number : ℕ

abbrev pub test : Bool → ℕ → Test
test fails number = record { fails = fails; number = number }

-- the number of the first test that fails; 0 where none does
unfoldable pub first_failing : List Test → ℕ
first_failing [] = 0
first_failing (t ∷ ts) = refuse t.fails t.number (first_failing ts)

-- "24 buffer too short": of n bytes
abbrev pub too_short : ℕ → List ℕ → Bool
too_short n buffer = ltb (length buffer) n

-- a lent state: "24 buffer too short; 25 state out of form"
abbrev pub state_tests : List ℕ → List Test
state_tests s = test (too_short state_size s) 24 ∷ test (not (in_form s)) 25 ∷ []

-- 10: word count outside 6 to 43, and "a byte length that is not a multiple of 4 is number 10"
unfoldable pub words_fail : List ℕ → Bool
words_fail m = not (eqb (length m % 4) 0) || (ltb (length (words_of m)) words_least || ltb words_most (length (words_of m)))

-- 13: "word count not that of head and form"; it "counts" the epoch words
unfoldable pub count_fails : List ℕ → Bool
count_fails ws = not (eqb (length ws) (start (opening ws) (is_ends (opening ws) ws) + term_count (get_or ws 0 0) + 1))

-- 16: "left above right, or an end below 0 or above 2^58 − 1". In ends form the two words of an end never pass that; in centre form the ends are
-- "centre less and plus half width"
unfoldable pub ends_fail : List ℕ → Bool
ends_fail ws =
    let at = opening ws in
    let half = payload (get_or ws (at + 2) 0) in
    cond (is_ends at ws) (ltb (pair ws (at + 2)) (pair ws at)) (ltb (pair ws at) half || leb ends_limit (pair ws at + half))

-- the words of a message: "10 word count outside" 6 to 43; "11 second word neither kind 2 nor 4", which is the one behind the epoch words; 12 head
-- not of kind 1, sender above 28, term count above 8 or bits 10–28 not zero; 13 word count not that of head and form; 14 a later word of the wrong
-- kind; 15 check word; 16 left above right, or an end below 0 or above 2^58 − 1; 17 terms not in normal form"; "42 epoch words missing, unordered,
-- too many or ill formed"
abbrev pub word_tests : List ℕ → List ℕ → List Test
word_tests m ws =
    test (words_fail m) 10
    ∷ test (not (head_word_fits (get_or ws 0 0))) 12
    ∷ test (not (opens (opening ws) ws)) 11
    ∷ test (count_fails ws) 13
    ∷ test (not (kinds_fit (opening ws) (is_ends (opening ws) ws) ws)) 14
    ∷ test (not (epoch_words_fit ws)) 42
    ∷ test (not (check_fits ws)) 15
    ∷ test (ends_fail ws) 16
    ∷ test (not (is_normal (masks (middle (opening ws) (is_ends (opening ws) ws) ws)))) 17
    ∷ []

-- of a message m, "four bytes make a word"
abbrev pub message_tests : List ℕ → List Test
message_tests m = word_tests m (words_of m)

-- a test of what a message delivers; none fails of a message that could not be read, since an earlier test has failed
unfoldable pub of_delivered : (Delivery → Bool) → Delivered → Bool
of_delivered f (refused number) = false
of_delivered f (brings d) = f d

-- "18 sender is the own name", "30 an end would pass 2^58 − 1; 31 more than 8 terms in the new predicate's normal form, stored or not; 32 too many
-- data or entries"
abbrev pub delivery_tests : State → Delivered → List Test
delivery_tests st d =
    test (of_delivered (from_self st) d) 18
    ∷ test (of_delivered (grows_past st) d) 30
    ∷ test (of_delivered (terms_fail st) d) 31
    ∷ test (of_delivered (overfills st) d) 32
    ∷ []

-- of a receipt, from the message's words on
abbrev pub receipt_tests : List ℕ → Receipt → List Test
receipt_tests s g = message_tests g.message ++ delivery_tests (state_of s) (delivered g)

-- ---- what a taken call may write

-- how many bytes a message in ends form with so many epoch words and terms has: head, epoch words, four words of the ends, the terms and the check
-- word
abbrev pub ends_form_size : ℕ → ℕ → ℕ
ends_form_size names terms = 4 * (6 + names + terms)

-- the epoch words of a held datum's message: one for the own name and for each identifier in its terms
abbrev pub names_written : List ℕ → ℕ → ℕ
names_written s position = length (names_of (epochs_in epochs_at s) (wanted (num own_at 4 s) (datum_at s position).terms))

-- the bytes at the front that the call's layout names: a state's 5,393; "asking writes 24 bytes", "fewest 16", "reading 32"; a message
unfoldable pub layout_size : Exported → ℕ
layout_size (monitor_set_up s u) = state_size
layout_size (monitor_age s reading) = state_size
layout_size (monitor_receive s least greatest m) = state_size
layout_size (monitor_receive_with_readings s least greatest t drift m) = state_size
layout_size (monitor_ask s limit out) = 24
layout_size (monitor_fewest s out) = 16
layout_size (monitor_write s position out) = ends_form_size (names_written s position) (length (datum_at s position).terms)
layout_size (message_read m out) = 32
layout_size (message_rewrite m out) = ends_form_size (epoch_count (words_of m)) (term_count (get_or (words_of m) 0 0))

-- ---- the tests of each call, in document 01's order

-- an output comes last
abbrev pub output_tests : ℕ → List ℕ → List Test
output_tests n out = test (too_short n out) 24 ∷ []

unfoldable pub tests : Exported → List Test
tests (monitor_set_up s u) =
    test (too_short state_size s) 24
    ∷ test (own_fails u.own) 1
    ∷ test (epoch_fails u.epoch) 41
    ∷ test (drift_fails u.drift) 2
    ∷ test (reading_fails u.reading) 3
    ∷ []
tests (monitor_age s reading) =
    state_tests s
    ++ (test (reading_fails reading) 3
    ∷ test (goes_back (head_of s) reading) 20
    ∷ test (ages_past (state_of s) reading) 30
    ∷ [])
tests (monitor_receive s least greatest m) =
    state_tests s ++ (test (delays_fail least greatest) 21 ∷ receipt_tests s (receipt_of least greatest m))
tests (monitor_receive_with_readings s least greatest t drift m) =
    state_tests s
    ++ (test (delays_fail least greatest) 21
    ∷ test (fails t drift) 40
    ∷ receipt_tests s (receipt_with least greatest (with_drift t drift) m))
tests (monitor_ask s limit out) = state_tests s ++ (test (limit_fails limit) 22 ∷ output_tests (layout_size (monitor_ask s limit out)) out)
tests (monitor_fewest s out) = state_tests s ++ output_tests (layout_size (monitor_fewest s out)) out
tests (monitor_write s position out) =
    state_tests s
    ++ (test (no_datum_at s position) 23 ∷ output_tests (layout_size (monitor_write s position out)) out)
tests (message_read m out) = message_tests m ++ output_tests (layout_size (message_read m out)) out
tests (message_rewrite m out) = message_tests m ++ output_tests (layout_size (message_rewrite m out)) out

-- ---- demand 1

pub record Refuses (c : Exported) : Type 0 where
  -- the tests are those of the list, in its order
  pub in_order : map (λ (t : Test). t.number) (tests c) ≡ listed c
  -- "bad input gets the refusal listed for it": the first that comes; 0 where none does
  pub first : returned c ≡ first_failing (tests c)
  -- "with every lent buffer unchanged"
  pub unchanged : (returned c ≡ 0 → ⊥) → left_bytes c ≡ lent_bytes c
  -- a taken call has room for its layout and writes nowhere else: "Bytes beyond the state or a written message are untouched."
  pub room : returned c ≡ 0 → layout_size c ≤ length (lent_bytes c)
  pub size : length (left_bytes c) ≡ length (lent_bytes c)
  pub beyond : drop (layout_size c) (left_bytes c) ≡ drop (layout_size c) (lent_bytes c)

unfoldable pub Demand1 : Type 0
Demand1 = (c : Exported) → Refuses c

-- ---- two taken calls that leave every byte

-- "An equal reading is fine and changes nothing."
unfoldable pub EqualReading : Type 0
EqualReading =
    (s : List ℕ) → Bytes s → state_size ≤ length s → T (in_form s)
    → (age_number s (head_of s).reading ≡ 0) × (age_state s (head_of s).reading ≡ s)

-- "If it is true, the receipt is taken and changes nothing", where it comes without readings and brings no epoch above the known one: every byte
-- stays, and only 21, 18 and 30 can refuse it, since "30 comes also for a predicate that is true"
unfoldable pub TrueReceipt : Type 0
TrueReceipt =
    (s : List ℕ) → Bytes s → state_size ≤ length s → T (in_form s) → (g : Receipt) (d : Delivery) → g.readings ≡ None → delivered g ≡ brings d
    → NotAbove (spoken_by (head_of s) d) (head_of s).epochs → T (is_true (arrived (head_of s) d).terms)
    → (receive_state s g ≡ s)
    × (T (not (delays_fail g.least g.greatest)) → T (not (from_self (state_of s) d)) → T (not (grows_past (state_of s) d)) → receive_number s g ≡ 0)

-- ---- what a taken call does not name of the state

-- "Entries stay.": an ageing leaves their bytes, and all behind them
unfoldable pub EntriesStay : Type 0
EntriesStay = (s : List ℕ) → Bytes s → (reading : ℕ) → drop entries_at (age_state s reading) ≡ drop entries_at s

-- a receipt without readings that brings no epoch above the known one leaves the names' clocks and the epochs
unfoldable pub ClocksStay : Type 0
ClocksStay =
    (s : List ℕ) → Bytes s → (g : Receipt) → g.readings ≡ None
    → ((d : Delivery) → delivered g ≡ brings d → NotAbove (spoken_by (head_of s) d) (head_of s).epochs)
    → drop clocks_at (receive_state s g) ≡ drop clocks_at s

-- a receipt leaves the own epoch: "a message never changes the own epoch"
unfoldable pub OwnEpochStays : Type 0
OwnEpochStays =
    (s : List ℕ) (g : Receipt) → T (in_form s) → state_size ≤ length s
    → get_or (head_of (receive_state s g)).epochs (head_of s).own 0 ≡ get_or (head_of s).epochs (head_of s).own 0

-- a receipt leaves own name, drift and reading
unfoldable pub HeadStays : Type 0
HeadStays = (s : List ℕ) → Bytes s → (g : Receipt) → take held_at (receive_state s g) ≡ take held_at s
