-- Invariant: the names of the identifiers passed stand at the front (`Given`).
use Rattle.epochs.specs.Epochs.{epochs_in}
use Rattle.radio.proofs.GivenNames.{Given}
use Rattle.radio.proofs.write.known_names.Given as goal

abbrev pub invariant-loop-n : goal.invariant-loop-n
invariant-loop-n l = Given (epochs_in l.at l.s) l.mask l.n l.initial.names l.names l.r
