-- `predicates::sums::form` meets its contract: the last place is cleared, the own name struck, the sender's term put behind what is left,
-- and `normal_form` does the rest (`form_calls`).
use mathlib.Core.Path.{refl}
use Rattle.predicates.proofs.SumLaws.{form_calls}
use Rattle.predicates.proofs.sums.form.Goals as goal

pub returns : goal.returns
returns c =
    let a = c.args in
    let struck = c.strike-kept.ensures in
    let normal = c.normal_form.ensures in
    let made = form_calls a.terms.now _ _ _ a.own a.sender _ _ _ _ c.requires.0 refl struck.value struck.terms_after c.single.ensures refl normal.value normal.terms_after in
    record { value = made.0; terms_after = made.1 }
