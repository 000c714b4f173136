-- `steps::steps::meet` meets its contract: the first row with the predicate is given up, if there is one (`met-first`, `first-set`).
use mathlib.Core.Path.{sym, ap, ◌∙◌}
use Rattle.std.proofs.lemmas.List.Quantifiers.{position-Some}
use Rattle.state.specs.code.Tables.{datum_of, terms_of, data_in}
use Rattle.steps.specs.Steps.{same, meet}
use Rattle.steps.proofs.HeldLaws.{none-alike, met-none, met-first, first-none, first-set, first-data}
use Rattle.steps.proofs.steps.meet.Goals as goal

pub returns-in-None : goal.returns-in-None
returns-in-None c =
    let n = datum_of c.args.new c.args.p.now in
    let held = c.args.held.now in
    let none = none-alike n c.requires.2 held (sym c.find_same.ensures ∙ c.in-None.is) in
    let kept = first-none n c.requires.2 held none in
    record {
      fact = (sym (met-none n c.requires.2 held none), c.requires.1);
      data_after = ap data_in (sym kept) ∙ first-data n c.requires.2 held;
      held_after = sym kept;
    }

pub returns-in-Some : goal.returns-in-Some
unfolding meet
returns-in-Some c =
    let n = datum_of c.args.new c.args.p.now in
    let held = c.args.held.now in
    let at = position-Some (λ r. same (terms_of r) c.args.p.now) held c.in-Some.i _ (sym c.find_same.ensures ∙ c.in-Some.is) in
    let first = first-set n c.requires.2 held c.in-Some.i _ at.0 at.1 at.2 in
    record {
      fact = (rw (c.later.ensures.0, c.earlier.ensures.0) (sym (met-first n c.requires.2 held c.in-Some.i _ at.0 at.1 at.2)), (c.later.ensures.1, c.earlier.ensures.1));
      data_after = ap data_in first ∙ first-data n c.requires.2 held;
      held_after = first;
    }
