-- `clocks::place::fits` meets its contract: the flag decides what the numbers are tested for.
use borrow.Author.Tests.{ne_eqb}
use Rattle.clocks.specs.Places.{place_fits, blank_at, three_at}
use Rattle.clocks.proofs.place.fits.Goals as goal

pub returns-then-flag-eq0 : goal.returns-then-flag-eq0
unfolding place_fits blank_at
returns-then-flag-eq0 c = rw (← c.get32-flag.ensures.0, c.if-flag-eq0.true, c.bits.ensures.0, c.get_three.ensures)

pub returns : goal.returns
unfolding place_fits three_at
returns c = rw (← c.get32-flag.ensures.0, ne_eqb _ 0 c.if-flag-eq0.false, c.bits-2.ensures.1, c.get_three-2.ensures)
