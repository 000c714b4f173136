-- Invariant: the terms from i on are tested, but for the own name, which is looked for among all names at the end.
use Rattle.state.proofs.TermLaws.{Tested}
use Rattle.state.proofs.form.terms_fit.Given as goal

abbrev pub invariant-loop-i : goal.invariant-loop-i
invariant-loop-i l = Tested l.own l.p l.i l.next l.all
