-- The epochs that a receipt brings (document 02, W-204): which old names it withdraws, which it names late, and what it makes of the head. "Epochs
-- are heard first, also where the predicate is true". Assumes nothing: these are definitions.
use Rattle.std.specs.Prelude.{ℕ, cond, List, length, get_or, Option, None}
use Rattle.numbers.specs.Numbers.{tab}
use Rattle.names.specs.Sets.{has}
use Rattle.epochs.specs.Epochs.{older, raised, spoken}
use Rattle.clocks.specs.declared.Readings.{Readings}
use Rattle.clocks.specs.Clocks.{Saved, nothing}
use Rattle.state.specs.Model.{Datum, Head}
use Rattle.steps.specs.Withdrawn.{withdrawn_datum}
use Rattle.engine.specs.Receiving.{Delivery, grown}

-- the epochs that the message speaks of, by identifier; of one that it does not name, and of the own one, it is the known one
unfoldable pub spoken_by : Head → Delivery → List ℕ
spoken_by h g = spoken h.own g.names h.epochs

-- the identifiers whose old names it withdraws: "An epoch above the one known withdraws the old name"
unfoldable pub risen : Head → Delivery → ℕ
risen h g = older h.epochs (spoken_by h g)

-- the identifiers that it names under an older epoch
unfoldable pub late : Head → Delivery → ℕ
late h g = older (spoken_by h g) h.epochs

-- "a name's saved triples go with its old epoch"
unfoldable pub cleared : ℕ → List Saved → List Saved
cleared r cs = tab (length cs) (λ n. cond (has n r) nothing (get_or cs n nothing))

-- the head once the epochs are heard
unfoldable pub hearing : Head → Delivery → Head
hearing h g =
    record {
      own = h.own;
      drift = h.drift;
      reading = h.reading;
      clocks = cleared (risen h g) h.clocks;
      epochs = raised h.epochs (spoken_by h g);
    }

-- "an older sender's readings being neither tested nor saved"
unfoldable pub heeded : Head → Delivery → Option Readings
heeded h g = cond (has g.sender (late h g)) None g.readings

-- the datum as it is received: "an older one counts as failed". The terms with the own identifier are struck before
unfoldable pub arrived : Head → Delivery → Datum
arrived h g = withdrawn_datum (late h g) (grown h g)
