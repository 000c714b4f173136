-- Invariant: the terms that are still to be stored make of the row what all of them make of the first one.
use mathlib.Core.Path.{◌≡◌}
use lib.ListN.{drop}
use lib.Seq.{sets}
use Rattle.message.specs.Words.{masks}
use Rattle.receipts.proofs.receipt.copy_masks.Given as goal

abbrev pub invariant-loop-i : goal.invariant-loop-i
invariant-loop-i l = sets l.row l.i (masks (drop l.i l.words)) ≡ sets l.initial.row 0 (masks l.words)
