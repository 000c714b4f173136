-- Receiving, over bytes (document 01, "Receiving" and "Who can cause which refusal"; document 02, W-201 and W-204): what C gives a
-- receipt, what its message delivers, the number that the call returns and the lent state afterwards. Assumes nothing: these are definitions.
use Rattle.std.specs.Prelude.{ℕ, List, Option, None}
use Rattle.numbers.specs.Numbers.{words_of}
use Rattle.message.specs.Words.{masks}
use Rattle.message.specs.Read.{term_words}
use Rattle.radio.specs.Read.{epoch_words}
use Rattle.message.specs.Read.{Reading}
use Rattle.message.specs.Read.{Message, Refused}
use Rattle.clocks.specs.declared.Readings.{Readings}
use Rattle.clocks.specs.Clocks.{readings_fail}
use Rattle.state.specs.Model.{State}
use Rattle.state.specs.Layout.{state_bytes, state_of}
use Rattle.state.specs.Refusal.{refuse, lent, after}
use Rattle.engine.specs.Receiving.{Delivery, delivery}
use Rattle.engine.specs.Calls.{receive, done}
use Rattle.engine.specs.Refusals.{delays_fail, receipt_refusal}
use Rattle.monitor.specs.Messages.{read_bytes}

-- what C gives a receipt, the state aside: the channel's least and greatest delay, clock readings or none, and the message's bytes
pub record Receipt : Type 0 where
  pub least : ℕ
  pub greatest : ℕ
  pub readings : Option Readings
  pub message : List ℕ

abbrev pub receipt_with : ℕ → ℕ → Option Readings → List ℕ → Receipt
receipt_with least greatest readings message = record { least = least; greatest = greatest; readings = readings; message = message }

-- without readings
abbrev pub receipt_of : ℕ → ℕ → List ℕ → Receipt
receipt_of least greatest message = receipt_with least greatest None message

-- what a message delivers: the number of its refusal, or what the engine receives
pub data Delivered : Type 0 where
  refused : ℕ → Delivered
  brings : Delivery → Delivered

unfoldable pub delivered_as : Receipt → Reading → Delivered
delivered_as g (Refused number) = refused number
delivered_as g (Message sender left right count) =
    let got = Message sender left right count in
    let ws = words_of g.message in
    brings (delivery g.least g.greatest g.readings sender (epoch_words got ws) left right (masks (term_words got ws)))

unfoldable pub delivered : Receipt → Delivered
delivered g = delivered_as g (read_bytes g.message)

-- from the message's words on: "10, 12, 11, 13 to 18, 30, 31, 32", and 42 "after 14"
unfoldable pub delivered_number : State → Delivered → ℕ
delivered_number st (refused number) = number
delivered_number st (brings g) = receipt_refusal st g

-- the state after a taken receipt; a message that cannot be read is never taken
unfoldable pub delivered_state : State → Delivered → State
delivered_state st (refused number) = st
delivered_state st (brings g) = done st (receive g)

-- on a state in form: "21, 10, 12, 11, 13 to 18, 30, 31, 32", 40 "after 21" and 42 "after 14"
abbrev pub receipt_number : State → Receipt → ℕ
receipt_number st g =
    refuse (delays_fail g.least g.greatest) 21
    (refuse (readings_fail g.readings) 40
    (delivered_number st (delivered g)))

-- "Receiving 24, 25, 21, 10, 12, 11, 13 to 18, 30, 31, 32", with 40 after 21 and 42 after 14
unfoldable pub receive_number : List ℕ → Receipt → ℕ
receive_number s g = lent s (receipt_number (state_of s) g)

unfoldable pub receive_state : List ℕ → Receipt → List ℕ
receive_state s g = after (receive_number s g) (state_bytes (delivered_state (state_of s) (delivered g))) s
