-- `predicate_step` and `term_step` meet their contracts: one turn of each is a law of `SearchSteps`.
use Rattle.std.proofs.Common.{sym, ◌∙◌, arith}
use Rattle.search.proofs.SearchSteps.{next_false, step_back, step_done, step_full, step_terms, trying_none, trying_skip, trying_stop, trying_on}
use Rattle.search.proofs.search.Search.+predicate_step_term_step.Goals as goal
use Rattle.search.proofs.search.Search.+predicate_step_term_step.Goals.{term_step-then-worth+else-found-self, term_step-else-worth}

pub predicate_step-returns-then-self-k : goal.predicate_step-returns-then-self-k
predicate_step-returns-then-self-k t c =
    rw c.min.ensures (step_done _ _ _ _ c.args.i _ c.next_unexplained-k.ensures.2 _ _ _ _ c.if-self-k.true c.requires.1)

pub predicate_step-returns-then-self-size : goal.predicate_step-returns-then-self-size
predicate_step-returns-then-self-size t c =
    step_full _ _ _ _ c.args.i _ c.next_unexplained-k.ensures.2 _ _ _ _ c.if-self-k.false (omega arith)

pub predicate_step-last_name-requires : goal.predicate_step-last_name-requires
predicate_step-last_name-requires t c =
    (c.if-self-k.false, omega arith, next_false _ _ _ _ c.args.i _ c.next_unexplained-k.ensures.2 c.if-self-k.false)

pub predicate_step-returns-then-self-size-2 : goal.predicate_step-returns-then-self-size-2
predicate_step-returns-then-self-size-2 t c =
    step_back _ _ _ _ c.args.i c.next_unexplained-k.result c.next_unexplained-k.ensures.2 _ _ _ _ _ (c.last_name.ensures _)

pub predicate_step-returns : goal.predicate_step-returns
predicate_step-returns t c =
    step_terms _ _ _ _ c.args.i c.next_unexplained-k.result c.next_unexplained-k.ensures.2 _ _ _ _ _ _ c.if-self-k.false c.terms.ensures
    c.term_step.ensures

pub term_step-returns-then-found-self : goal.term_step-returns-then-found-self
term_step-returns-then-found-self t c =
    trying_stop _ _ _ _ _ _ _ _ c.loop-t.t-index _ _ c.loop-t.invariant c.loop-t-test.true _ (sym c.worth.ensures ∙ c.if-worth.true)
    (rw c.union.ensures at c.predicate_step-found.ensures) c.if-found-self.true

pub term_step-loop-t-preserved : goal.term_step-loop-t-preserved
term_step-loop-t-preserved t c =
    let h = c.loop-t-test.true in
    let test = sym c.worth.ensures in
    elim c.if-worth.branch [
      | term_step-then-worth+else-found-self w ↦
          rw (w.rest-is, w.found-is)
          (trying_on _ _ _ _ _ _ _ _ c.loop-t.t-index _ _ c.loop-t.invariant h _ (test ∙ w.if-worth.true)
          (rw w.union.ensures at w.predicate_step-found.ensures) _ w.if-found-self.false w.freed-rest.ensures)
      | term_step-else-worth w ↦
          rw (w.rest-is, w.found-is) (trying_skip _ _ _ _ _ _ _ _ c.loop-t.t-index _ _ c.loop-t.invariant h (test ∙ w.if-worth.false))
    ]

pub term_step-returns : goal.term_step-returns
term_step-returns t c = trying_none _ _ _ _ _ _ c.args.terms.now _ _ _ _ c.loop-t.invariant c.loop-t-test.false
