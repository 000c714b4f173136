-- `clocks::Triple::bits` meets its contract: the laws of numbers or-ed together, twice.
use Rattle.predicates.proofs.BitLaws.{or_zero, or_below}
use Rattle.clocks.proofs.Triple.bits.Goals as goal

pub returns : goal.returns
returns c = (rw (or_zero, or_zero), rw (or_below 43, or_below 43))
