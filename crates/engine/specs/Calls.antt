-- A taken call, on the state as lists: what it makes of the head, which the book of a run shares, and what it makes of the store.
-- Assumes nothing: these are definitions.
use Rattle.std.specs.Prelude.{ℕ, Bool, [], get_or, set, replicate}
use Rattle.epochs.specs.Epochs.{epochs_most}
use Rattle.clocks.specs.Clocks.{Saved, nothing, violated_by, watched}
use Rattle.state.specs.Model.{Head, Store, State, with_clocks}
use Rattle.state.specs.Layout.{clocks_most}
use Rattle.engine.specs.Ageing.{slow, fast, aged}
use Rattle.engine.specs.Receiving.{Delivery}
use Rattle.engine.specs.Hearing.{risen, hearing, heeded, arrived}
use Rattle.steps.specs.Steps.{judged}
use Rattle.steps.specs.Withdrawn.{withdrawn}

-- what setting up is given
pub record Setup : Type 0 where
  pub own : ℕ
  pub drift : ℕ
  pub reading : ℕ
  pub epoch : ℕ

abbrev pub setup : ℕ → ℕ → ℕ → ℕ → Setup
setup own drift reading epoch = record { own = own; drift = drift; reading = reading; epoch = epoch }

-- the head that it enters: of no clock is anything saved; "Setting up and `set` take the own epoch last, known ones start at 0"
unfoldable pub begun : Setup → Head
begun u =
    record {
      own = u.own;
      drift = u.drift;
      reading = u.reading;
      clocks = replicate clocks_most nothing;
      epochs = set (replicate epochs_most 0) u.own u.epoch;
    }

-- "Setting up holds nothing"
unfoldable pub set_up : Setup → State
set_up u = record { head = begun u; store = record { held = []; entries = [] } }

-- an ageing to a reading, or a receipt
pub data Call : Type 0 where
  age : ℕ → Call
  receive : Delivery → Call

-- what is saved of a name's clock
abbrev pub clock_of : Head → ℕ → Saved
clock_of h n = get_or h.clocks n nothing

-- a receipt's readings, if they are heeded, violate test (20) against what is saved of its sender's clock
unfoldable pub violated : Head → Delivery → Bool
violated h g = violated_by h.drift (clock_of (hearing h g) g.sender) (heeded h g)

-- the head after a taken call: the epochs heard, and "then the triple is saved"
unfoldable pub moved : Head → Call → Head
moved h (age reading) = record { own = h.own; drift = h.drift; reading = reading; clocks = h.clocks; epochs = h.epochs }
moved h (receive g) = with_clocks (hearing h g) (watched (heeded h g) g.sender (hearing h g).clocks)

-- what is held and known after a taken call
unfoldable pub made : Head → Store → Call → Store
made h k (age reading) = aged (slow h reading) (fast h reading) k
made h k (receive g) = judged (violated h g) g.sender (arrived h g) (withdrawn (risen h g) k)

-- the state after a taken call
unfoldable pub done : State → Call → State
done st c = record { head = moved st.head c; store = made st.head st.store c }
