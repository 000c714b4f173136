-- What a receipt is given and the datum that it makes (document 01, "Receiving", head; document 02, W-201 and W-202).
-- Assumes nothing: these are definitions.
use Rattle.std.specs.Prelude.{ℕ, ◌+◌, ◌*◌, List, Option}
use Rattle.predicates.specs.Predicates.{formed}
use Rattle.clocks.specs.declared.Readings.{Readings}
use Rattle.ends.specs.Ends.{million}
use Rattle.state.specs.Model.{Datum, Head}
use Rattle.engine.specs.Ageing.{least_advance, greatest_advance}

-- what a receipt is given: the channel's least and greatest delay on the receiver's clock, clock readings or none, and what the message says
pub record Delivery : Type 0 where
  pub least : ℕ
  pub greatest : ℕ
  pub readings : Option Readings
  pub sender : ℕ
  -- the names that the message gives: the sender's and that of each identifier in its terms (document 02, W-204)
  pub names : List ℕ
  pub left : ℕ
  pub right : ℕ
  pub terms : List ℕ

abbrev pub delivery : ℕ → ℕ → Option Readings → ℕ → List ℕ → ℕ → ℕ → List ℕ → Delivery
delivery least greatest readings sender names left right terms =
    record { least = least; greatest = greatest; readings = readings; sender = sender; names = names; left = left; right = right; terms = terms }

-- The grown interval: it "grows by the channel's least and greatest delay", and by document 02 "delays are counted on the receiver's clock": "a delay
-- now counts by the ageing rule, the least as a left end's advance, the greatest as a right end's", with the own drift. A message's ends are whole
-- microseconds.
-- "The predicate becomes sender + predicate with every term that names the receiver struck out, in normal form."
unfoldable pub grown : Head → Delivery → Datum
grown h g =
    record {
      left = g.left * million + least_advance h.drift g.least;
      right = g.right * million + greatest_advance h.drift g.greatest;
      terms = formed h.own g.sender g.terms;
    }
