-- Definitions that serve the code alone: no statement of documents 01 and 02 cites this file.
-- What the parts of a receipt are given. Assumes nothing: these are definitions.
use Rattle.std.specs.Prelude.{ℕ, ◌<◌, ◌≤◌, Bool, not, T, List, length, Option}
use Rattle.predicates.specs.Predicates.{is_normal}
use Rattle.message.specs.Words.{masks}
use Rattle.message.specs.declared.Message.{Message}
use Rattle.clocks.specs.declared.Readings.{Readings}
use Rattle.clocks.specs.Clocks.{readings_fail, violated_by}
use Rattle.numbers.specs.Numbers.{put}
use Rattle.state.specs.Model.{Head, name_most}
use Rattle.state.specs.Layout.{state_size, datum_terms, state_bytes, head_of, store_of}
use Rattle.state.specs.Form.{in_form}
use Rattle.engine.specs.Receiving.{Delivery, delivery}
use Rattle.engine.specs.Calls.{clock_of}
use Rattle.receipts.specs.declared.delays.Delays.{Delays}

-- the lent bytes hold a state in form
abbrev pub IsState : List ℕ → Type 0
IsState s = (state_size ≤ length s) × T (in_form s)

-- a sender, and readings of it that can be taken
abbrev pub FromSender : ℕ → Option Readings → Type 0
FromSender sender readings = (sender ≤ name_most) × T (not (readings_fail readings))

-- the lent bytes with another head
abbrev pub put_head : Head → List ℕ → List ℕ
put_head h s = put 0 (state_bytes (record { head = h; store = store_of s })) s

-- readings of this sender violate the test by what the lent state has saved
abbrev pub violated_in : List ℕ → ℕ → Option Readings → Bool
violated_in s sender readings = violated_by (head_of s).drift (clock_of (head_of s) sender) readings

-- a formed predicate that a datum can have
abbrev pub IsFormed : List ℕ → Type 0
IsFormed p = (0 < length p) × (length p ≤ datum_terms) × T (is_normal p)

-- what a message that came with these delays and readings delivers
abbrev pub delivered_by : Delays → Option Readings → Message → Delivery
delivered_by delays readings message =
    delivery delays.least delays.greatest readings message.sender message.names.now message.left message.right (masks message.terms.now)
