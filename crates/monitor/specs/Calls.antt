-- The calls on a state that set it up, age it and write a held datum as a message, over bytes (document 01, "State bytes", "The radio message" and
-- "Who can cause which refusal"): for each call the number that it returns and, by that number, the lent bytes afterwards.
-- Assumes nothing: these are definitions.
use Rattle.std.specs.Prelude.{ℕ, Bool, List, length, ltb, leb}
use Rattle.numbers.specs.Numbers.{num, bytes_of}
use Rattle.ends.specs.Ends.{down, up}
use Rattle.epochs.specs.Epochs.{epochs_in}
use Rattle.message.specs.Write.{message_words}
use Rattle.radio.specs.Names.{wanted, names_of}
use Rattle.state.specs.Layout.{state_size, own_at, epochs_at, held_count, datum_at, state_bytes, state_of}
use Rattle.state.specs.Refusal.{refuse, lent, after}
use Rattle.engine.specs.Calls.{Setup, set_up, age, done}
use Rattle.engine.specs.Refusals.{set_up_refusal, age_refusal}

-- ---- setting up: "24, 1, 2, 3", with 41 after 1

unfoldable pub set_up_number : List ℕ → Setup → ℕ
set_up_number s u = refuse (ltb (length s) state_size) 24 (set_up_refusal u)

unfoldable pub set_up_state : List ℕ → Setup → List ℕ
set_up_state s u = after (set_up_number s u) (state_bytes (set_up u)) s

-- ---- ageing: "24, 25, 3, 20, 30"

unfoldable pub age_number : List ℕ → ℕ → ℕ
age_number s reading = lent s (age_refusal (state_of s) reading)

unfoldable pub age_state : List ℕ → ℕ → List ℕ
age_state s reading = after (age_number s reading) (state_bytes (done (state_of s) (age reading))) s

-- ---- writing: "24 (state), 25, 23, 24 (output)"

-- "takes one held datum by its position (0 is the oldest), and gives the own name as sender", with an epoch word for it and for each identifier in
-- the terms (document 02, W-204): the epochs known. Messages "round the left end down and the right end up" (W-205)
unfoldable pub written_words : List ℕ → ℕ → List ℕ
written_words s position =
    let own = num own_at 4 s in
    let d = datum_at s position in
    message_words own (names_of (epochs_in epochs_at s) (wanted own d.terms)) (down d.left) (up d.right) d.terms

unfoldable pub written_bytes : List ℕ → ℕ → List ℕ
written_bytes s position = bytes_of (written_words s position)

-- "23 no held datum there"
abbrev pub no_datum_at : List ℕ → ℕ → Bool
no_datum_at s position = leb (held_count s) position

unfoldable pub write_number : List ℕ → ℕ → List ℕ → ℕ
write_number s position out =
    lent s (refuse (no_datum_at s position) 23 (refuse (ltb (length out) (length (written_bytes s position))) 24 0))

unfoldable pub write_output : List ℕ → ℕ → List ℕ → List ℕ
write_output s position out = after (write_number s position out) (written_bytes s position) out
