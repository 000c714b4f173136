-- `settling::learn` meets its contract: with a blamed name its entry is all that is learnt (`with_learnt`), and else step 1 is as it was.
use mathlib.Core.Path.{◌∙◌}
use mathlib.Core.List.{map}
use Rattle.state.specs.code.Tables.{datum_of, datum_in}
use Rattle.settling.specs.code.Rows.{with_term}
use Rattle.settling.proofs.SettleLaws.{with_learnt}
use Rattle.settling.proofs.learn.Goals as goal

pub returns-in-Some-clause-entries_after : goal.returns-in-Some-clause-entries_after
unfolding with_term
returns-in-Some-clause-entries_after c =
    rw c.in-Some.is
    (c.learn_term.ensures.entries_after
    ∙ with_learnt (datum_of c.args.new c.args.p.now) (map datum_in c.args.held.now) c.in-Some.term _ (rw c.in-Some.is at c.requires.t))

pub returns-in-None-clause-entries_after : goal.returns-in-None-clause-entries_after
unfolding with_term
returns-in-None-clause-entries_after c = rw c.in-None.is c.learn_all.ensures.entries_after
