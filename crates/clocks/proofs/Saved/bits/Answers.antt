-- `clocks::Saved::bits` meets its contract: what is or-ed together is zero, or below 2^43, where all of it is.
use Rattle.predicates.proofs.BitLaws.{or_zero, or_below}
use Rattle.clocks.specs.Clocks.{saved_ok}
use Rattle.clocks.proofs.Saved.bits.Goals as goal

pub returns : goal.returns
unfolding saved_ok
returns c = (
  rw (or_zero, or_zero, c.bits.ensures.0, c.bits-2.ensures.0, c.bits-3.ensures.0),
  rw (or_below 43, or_below 43, c.bits.ensures.1, c.bits-2.ensures.1, c.bits-3.ensures.1),
)
