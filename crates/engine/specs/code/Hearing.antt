-- Definitions that serve the code alone: no statement of documents 01 and 02 cites this file.
-- The head once epochs are heard, by the names and the identifiers that they withdraw. Assumes nothing: these are definitions.
use Rattle.std.specs.Prelude.{ℕ, zero, suc, cond, List, set}
use Rattle.names.specs.Sets.{has}
use Rattle.epochs.specs.Epochs.{raised, spoken}
use Rattle.clocks.specs.Clocks.{Saved, nothing}
use Rattle.state.specs.Model.{Head}
use Rattle.engine.specs.Hearing.{cleared}

unfoldable pub heard_head : ℕ → List ℕ → ℕ → Head → Head
heard_head own names risen h =
    record {
      own = h.own;
      drift = h.drift;
      reading = h.reading;
      clocks = cleared risen h.clocks;
      epochs = raised h.epochs (spoken own names h.epochs);
    }

-- the places, where those of the first n identifiers are cleared as far as r has them
unfoldable pub cleared_below : ℕ → ℕ → List Saved → List Saved
cleared_below zero r cs = cs
cleared_below (suc n) r cs = cond (has n r) (set (cleared_below n r cs) n nothing) (cleared_below n r cs)
