-- Invariant: the names from here on, after the identifiers seen, are tested as all of them are.
use Rattle.std.proofs.Common.{◌≡◌, drop}
use Rattle.radio.specs.Names.{names_fit}
use Rattle.radio.specs.code.Walk.{names_from}
use Rattle.radio.proofs.read.names_fit.Given as goal

abbrev pub invariant-loop-name : goal.invariant-loop-name
invariant-loop-name l = names_from l.mask l.seen (drop l.name-index l.names) ≡ names_fit l.mask l.names
