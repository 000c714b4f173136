-- A run with refused steps among taken ones: what comes of each step, and what the book has; two runs of which one takes further receipts; and a run
-- after which receipts come in two orders.
-- Assumes nothing: these are definitions.
use Rattle.std.specs.Prelude.{ℕ, ◌+◌, ◌*◌, ◌^◌, ◌≤◌, ◌≡◌, List, [], ◌∷◌, map, length, set, replicate}
use Rattle.message.specs.Write.{message_words}
use Rattle.epochs.specs.Epochs.{epochs_most, name}
use Rattle.clocks.specs.Worked.{triple}
use Rattle.ends.specs.Ends.{million}
use Rattle.state.specs.Model.{datum}
use Rattle.state.specs.Layout.{state_size, store_of}
use Rattle.engine.specs.Calls.{Setup}
use Rattle.monitor.specs.Calls.{set_up_number}
use Rattle.runs.specs.Book.{Request, ageing, Step, Line, advanced, heard, blames, opened}
use Rattle.runs.specs.Runs.{bytes_run, Run, state_after, steps_of, book, taken_of, Further}
use Rattle.runs.specs.Orders.{NoneRefused, OneBatch}
use Rattle.runs.specs.Cases.{usual, steady, get, said, hear, hear_named, mended}
use Rattle.runs.specs.Cases.{tick, whole, eight_terms, one_order, other_order, held_one, held_other}

-- monitor 5, drift 100, reading 1,000,000, epoch 3
abbrev pub example_setup : Setup
example_setup = record { own = 5; drift = 100; reading = 1_000_000; epoch = 3 }

unfoldable pub example_requests : List Request
example_requests =
    -- one word is no message
    get 0 0 (536870913 ∷ [])
    -- over a channel with a delay of at most 50
    ∷ get 0 50 (said 1 1_000_000 1_000_200 [])
    -- a reading below the last
    ∷ ageing 999_999
    -- from the own name
    ∷ hear 5 0 10 []
    -- the least delay is above the greatest
    ∷ get 10 5 (said 2 3_001_000 3_001_000 [])
    ∷ ageing 3_000_000
    -- name 5, the receiver, is in its second term, which is struck out
    ∷ hear 2 3_001_000 3_001_000 (2 ^ 3 ∷ (2 ^ 4 + 2 ^ 5) ∷ [])
    -- under the empty term, which is true
    ∷ hear 3 0 0 (0 ∷ [])
    -- a half width of 2^43
    ∷ tick 1 3_000_000 3_000_400 [] (triple 0 0 (2 ^ 43)) 0
    -- two readings of sender 1's clock: the second violates the test
    ∷ tick 1 3_000_000 3_000_400 [] (triple 0 0 1) 0
    ∷ tick 1 3_000_000 3_000_400 [] (triple 100 103 1) 0
    -- without an epoch word
    ∷ get 0 0 (message_words 1 [] 3_000_000 3_000_400 [])
    -- sender 2 under epoch 1, with nine terms: no epoch is heard in what is refused
    ∷ hear_named (name 2 1 ∷ map (λ n. name n 0) (6 ∷ 7 ∷ 8 ∷ 9 ∷ 10 ∷ 11 ∷ 12 ∷ 13 ∷ [])) 2 3_000_000 3_000_400 eight_terms
    -- sender 1 mended, under epoch 1
    ∷ hear_named (name 1 1 ∷ []) 1 3_000_000 3_000_400 []
    ∷ []

unfoldable pub example_numbers : List ℕ
example_numbers = 10 ∷ 0 ∷ 20 ∷ 18 ∷ 21 ∷ 0 ∷ 0 ∷ 0 ∷ 40 ∷ 0 ∷ 0 ∷ 42 ∷ 31 ∷ 0 ∷ []

-- the epochs known at first: the own one, and 0
abbrev pub at_first : List ℕ
at_first = set (replicate epochs_most 0) 5 3

-- the lines of the taken ones: "A refused call enters nothing", "a true one too"
unfoldable pub example_lines : List Line
example_lines =
    heard at_first (datum (1_000_000 * million) 1_000_250_005_000 (2 ^ 1 ∷ []))
    ∷ advanced (1_999_800 * million) (2_000_200 * million)
    ∷ heard at_first (whole 3_001_000 3_001_000 (2 ^ 2 ∷ 2 ^ 3 ∷ []))
    ∷ heard at_first (whole 0 0 (0 ∷ []))
    ∷ heard at_first (whole 3_000_000 3_000_400 (2 ^ 1 ∷ []))
    ∷ blames at_first 1
    ∷ heard at_first (whole 3_000_000 3_000_400 (2 ^ 1 ∷ []))
    ∷ heard (set at_first 1 1) (whole 3_000_000 3_000_400 (2 ^ 1 ∷ []))
    ∷ []

-- the run in a buffer in which its setting up is taken
abbrev pub example_run : (buffer : List ℕ) → set_up_number buffer example_setup ≡ 0 → Run
example_run buffer begins = record { buffer = buffer; setup = example_setup; taken = begins; requests = example_requests }

-- such a run exists in every buffer that has room; each step has its number, and the book the lines of the taken ones alone
unfoldable pub Example : Type 0
Example =
    (buffer : List ℕ) → state_size ≤ length buffer
    → (begins : set_up_number buffer example_setup ≡ 0)
    × (map (λ (p : Step). p.number) (steps_of (example_run buffer begins)) ≡ example_numbers)
    × ((book (example_run buffer begins)).lines ≡ example_lines)

-- ---- a run with further receipts (demand 3, second half)

-- P takes two receipts and an ageing, and is refused an ageing back
abbrev pub fewer_taken : List Request
fewer_taken = hear 1 0 1_000 [] ∷ ageing 100 ∷ hear 2 50 1_200 (2 ^ 3 ∷ []) ∷ []

abbrev pub fewer_requests : List Request
fewer_requests = hear 1 0 1_000 [] ∷ ageing 100 ∷ ageing 99 ∷ hear 2 50 1_200 (2 ^ 3 ∷ []) ∷ []

-- what Q takes: the same in order, with further receipts before them, between them, one over a channel with a delay, and behind them
abbrev pub more_taken : List Request
more_taken =
    hear 3 0 2_000 []
    ∷ hear 1 0 1_000 []
    ∷ get 10 50 (said 4 20 800 [])
    ∷ ageing 100
    ∷ hear 6 130 880 (2 ^ 1 ∷ [])
    ∷ hear 2 50 1_200 (2 ^ 3 ∷ [])
    ∷ hear 1 140 1_300 []
    ∷ []

-- and what it is asked for: one word that is no message comes on the way, and a message from the own name
abbrev pub more_requests : List Request
more_requests =
    hear 3 0 2_000 []
    ∷ get 0 0 (536870913 ∷ [])
    ∷ hear 1 0 1_000 []
    ∷ get 10 50 (said 4 20 800 [])
    ∷ ageing 100
    ∷ hear 5 0 10 []
    ∷ hear 6 130 880 (2 ^ 1 ∷ [])
    ∷ hear 2 50 1_200 (2 ^ 3 ∷ [])
    ∷ hear 1 140 1_300 []
    ∷ []

abbrev pub fewer_run : (buffer : List ℕ) → set_up_number buffer (usual 5) ≡ 0 → Run
fewer_run buffer begins = record { buffer = buffer; setup = usual 5; taken = begins; requests = fewer_requests }

abbrev pub more_run : (buffer : List ℕ) → set_up_number buffer (usual 5) ≡ 0 → Run
more_run buffer begins = record { buffer = buffer; setup = usual 5; taken = begins; requests = more_requests }

-- the premise of `Demand3More` holds of them, in any two buffers with room
pub record FurtherComes (one other : List ℕ) : Type 0 where
  pub begins : set_up_number one (usual 5) ≡ 0
  pub begins_other : set_up_number other (usual 5) ≡ 0
  pub taken_fewer : taken_of (steps_of (fewer_run one begins)) ≡ fewer_taken
  pub taken_more : taken_of (steps_of (more_run other begins_other)) ≡ more_taken
  pub further : Further (opened (usual 5)) (taken_of (steps_of (fewer_run one begins))) (taken_of (steps_of (more_run other begins_other)))

unfoldable pub FurtherExample : Type 0
FurtherExample = (one other : List ℕ) → state_size ≤ length one → state_size ≤ length other → FurtherComes one other

-- ---- receipts in two orders (document 02, W-206)

-- sender 1 was mended
abbrev pub mended_run : (buffer : List ℕ) → set_up_number buffer (steady 5) ≡ 0 → Run
mended_run buffer begins = record { buffer = buffer; setup = steady 5; taken = begins; requests = mended 0 10 ∷ [] }

-- the premises of `AnyOrder` hold of two orders after it, all are taken in either, and what is held then is not the same
pub record OrdersCome (buffer : List ℕ) : Type 0 where
  pub begins : set_up_number buffer (steady 5) ≡ 0
  pub batch : OneBatch (book (mended_run buffer begins)).head one_order other_order
  pub taken_one : NoneRefused (state_after (mended_run buffer begins)) one_order
  pub taken_other : NoneRefused (state_after (mended_run buffer begins)) other_order
  pub holds_one : (store_of (bytes_run (state_after (mended_run buffer begins)) one_order)).held ≡ held_one
  pub holds_other : (store_of (bytes_run (state_after (mended_run buffer begins)) other_order)).held ≡ held_other

unfoldable pub OrderExample : Type 0
OrderExample = (buffer : List ℕ) → state_size ≤ length buffer → OrdersCome buffer
