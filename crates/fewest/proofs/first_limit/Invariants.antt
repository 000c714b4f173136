-- Invariant: the limits below are ruled out.
use Rattle.state.specs.Layout.{state_of}
use Rattle.fewest.proofs.FailureSteps.{RuledOut}
use Rattle.fewest.proofs.first_limit.Given as goal

abbrev pub invariant-loop-limit : goal.invariant-loop-limit
invariant-loop-limit l = RuledOut (state_of l.s.bytes.now) l.limit
