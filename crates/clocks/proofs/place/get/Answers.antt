-- `clocks::place::get` meets its contract: of a place in form in which something is saved the three fit (`place-three`).
use Rattle.clocks.proofs.PlaceLaws.{place-three}
use Rattle.clocks.proofs.place.get.Goals as goal

pub returns-clause-in_range : goal.returns-clause-in_range
returns-clause-in_range c h =
    rw c.get_three.ensures (place-three _ _ _ c.get32.ensures.0 c.if-get32-eq0.false h)
