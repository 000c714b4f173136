-- What a monitor holds and knows when names count as failed (document 02, W-204): "it counts as failed in all held data and entries, and those that
-- become true go; the rest are put in normal form, no more". Assumes nothing: these are definitions.
use Rattle.std.specs.Prelude.{ℕ, not, List, map}
use Rattle.std.specs.List.{filter}
use Rattle.predicates.specs.Predicates.{is_true}
use Rattle.epochs.specs.Epochs.{withdraw}
use Rattle.state.specs.Model.{Datum, datum, Store}
use Rattle.entries.specs.Entries.{withdrawn_entries}

-- a datum in which the names of r count as failed
abbrev pub withdrawn_datum : ℕ → Datum → Datum
withdrawn_datum r d = datum d.left d.right (withdraw r d.terms)

-- the held data of which none has become true
unfoldable pub withdrawn_data : ℕ → List Datum → List Datum
withdrawn_data r ds = filter (λ d. not (is_true d.terms)) (map (withdrawn_datum r) ds)

unfoldable pub withdrawn : ℕ → Store → Store
withdrawn r k = record { held = withdrawn_data r k.held; entries = withdrawn_entries r k.entries }
