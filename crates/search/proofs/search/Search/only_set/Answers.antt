-- `Search::only_set` meets its contract: the next predicate that the set leaves false is there, or is not.
use Rattle.search.proofs.SearchSteps.{only_not, only_all}
use Rattle.search.proofs.search.Search.only_set.Goals as goal

pub returns-then-next_unexplained-self : goal.returns-then-next_unexplained-self
returns-then-next_unexplained-self c =
    only_not _ _ _ _ _ c.args.j _ c.next_unexplained.ensures.2 c.if-next_unexplained-self.true

pub returns : goal.returns
returns c =
    only_all _ _ _ _ _ c.args.j _ c.next_unexplained.ensures.2 c.if-next_unexplained-self.false _ c.min.ensures
