-- `Table::least_within` meets its contract: a search for the entries, and the ends only where it finds a set.
use Rattle.std.proofs.Common.{arith}
use Rattle.search.proofs.EndSteps.{kept-rows, kept-preds}
use Rattle.search.proofs.LeastLaws.{least_unknown}
use Rattle.search.proofs.stretches.Table.least_within.Goals as goal

pub invariant_of-search : goal.invariant_of-search
invariant_of-search c =
    record { fit = kept-rows _ _ _ _ _ _ _ _ c.args.self.now.ready (omega arith) _ _ c.list_entries-known.ensures.fact }

pub returns-then-predicate_step-ge-NO_SET-clause-fact : goal.returns-then-predicate_step-ge-NO_SET-clause-fact
returns-then-predicate_step-ge-NO_SET-clause-fact c =
    let same = kept-preds _ _ _ _ _ _ _ _ c.args.self.now.ready (omega arith) _ _ c.list_entries-known.ensures.fact in
    least_unknown _ _ _ _ _ _ _ _ c.args.self.now.ready _ (rw same at c.predicate_step.ensures) c.if-predicate_step-ge-NO_SET.true
