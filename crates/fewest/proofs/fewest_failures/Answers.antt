-- `fewest::fewest_failures` meets its contract: where nothing has to have failed, where one name is enough, and where the entries alone ask
-- for more than 4 names, no search is needed.
use Prim.Native.Nat.{◌<◌}
use mathlib.Core.Path.{refl, sym, ◌∙◌}
use native.Mathlib.Nat.{le_refl}
use Rattle.names.proofs.SetLaws.{ones-empty}
use Rattle.names.specs.Sets.{no_set}
use Rattle.state.proofs.StateLaws.{form_ok}
use Rattle.asking.proofs.FewestLaws.{fewest-none}
use Rattle.fewest.proofs.FailureSteps.{floor_one, one-fewest, floor_two, floor_first, floor_over}
use Rattle.fewest.proofs.fewest_failures.Goals as goal

pub returns-then-agree : goal.returns-then-agree
returns-then-agree c = rw ones-empty (fewest-none _ (sym c.agree.ensures ∙ c.if-agree.true))

pub returns-in-Some : goal.returns-in-Some
returns-in-Some c =
    let none = sym c.agree.ensures ∙ c.if-agree.false in
    let fact = rw c.in-Some.is at c.fewest_one.ensures.fact in
    let some : c.in-Some.one < no_set = rw c.in-Some.is at c.fewest_one.ensures.some in
    one-fewest _ _ _ (floor_one _ none) fact some refl

pub returns-in_err-from : goal.returns-in_err-from
returns-in_err-from c =
    let none = sym c.agree.ensures ∙ c.if-agree.false in
    let fact = rw c.in_default.is at c.fewest_one.ensures.fact in
    let two = floor_two _ _ (floor_one _ none) fact (le_refl no_set) in
    let first = c.in_err-from.ensures in
    rw c.from_residual.ensures (floor_over _ (floor_first _ (form_ok _ c.args.s.sound) two _ first))

pub fewest_from-requires : goal.fewest_from-requires
fewest_from-requires c =
    let none = sym c.agree.ensures ∙ c.if-agree.false in
    let fact = rw c.in_default.is at c.fewest_one.ensures.fact in
    let two = floor_two _ _ (floor_one _ none) fact (le_refl no_set) in
    let first = c.in_ok-from.ensures in
    (first.most, floor_first _ (form_ok _ c.args.s.sound) two _ first)
