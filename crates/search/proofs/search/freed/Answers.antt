-- `search::search::freed` meets its contract: the set with the term has one name more exactly where the term adds one.
use Rattle.search.proofs.LastLaws.{freed-one, freed-more}
use Rattle.search.proofs.search.freed.Goals as goal

pub returns-then-count-eq1 : goal.returns-then-count-eq1
returns-then-count-eq1 c =
    freed-one _ _ _ _ _ c.minus.ensures c.count.ensures.0 c.if-count-eq1.true _ c.minus-then-count-eq1.ensures

pub returns : goal.returns
returns c =
    freed-more _ _ _ _ _ c.minus.ensures c.count.ensures.0 c.if-count-eq1.false
