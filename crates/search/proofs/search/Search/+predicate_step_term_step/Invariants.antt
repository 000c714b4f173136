-- Invariant of the loop over the terms: what comes of those still to try comes of all (`Trying`). Measures: the predicates left, counted twice, and
-- one more where a term is looked for.
use Rattle.std.proofs.Common.{◌+◌, ◌-◌, ◌*◌, ◌∷◌, length, drop}
use Rattle.search.specs.code.Search.{all_preds, Trying}
use Rattle.search.proofs.search.Search.+predicate_step_term_step.Given as goal

abbrev pub decreases-predicate_step : goal.decreases-predicate_step
decreases-predicate_step l = (length l.self.now.listed.now - l.i) * 2

abbrev pub decreases-term_step : goal.decreases-term_step
decreases-term_step l = (length l.self.now.listed.now - (l.i + 1)) * 2 + 1

abbrev pub invariant-term_step-loop-t : goal.invariant-term_step-loop-t
invariant-term_step-loop-t l =
    let ps = drop (l.i + 1) (all_preds l.self.listed.now l.self.rows.now) in
    Trying l.self.enough l.self.limit l.set l.free (l.terms ∷ ps) l.best (drop l.t-index l.terms) ps l.rest l.found
