-- `asking::ask::hopeless` meets its contract: the degrees of the entries tell.
use Rattle.asking.proofs.QuickLaws.{hopeless_is}
use Rattle.asking.proofs.ask.hopeless.Goals as goal

pub returns : goal.returns
returns c = hopeless_is _ _ _ c.known.ensures.value _ c.within.ensures
