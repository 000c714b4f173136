-- `radio::write::known_names` meets its contract: an identifier of the mask puts its name behind those before it.
use Rattle.std.proofs.Common.{◌≡◌, ℕ, sym, ap, ◌∙◌, arith}
use Rattle.epochs.specs.Epochs.{epochs_most, name}
use Rattle.radio.specs.Names.{names_of}
use Rattle.radio.proofs.GivenNames.{names_below, given-none, given_skip, given_next}
use Rattle.radio.proofs.write.known_names.Goals as goal
use Rattle.radio.proofs.write.known_names.Goals.{else-has, then-has}

pub loop-n-init : goal.loop-n-init
loop-n-init c = given-none _ _ _

pub loop-n-preserved : goal.loop-n-preserved
loop-n-preserved c =
    let at = c.loop-n in
    let told = c.has.ensures in
    elim c.if-has.branch [
      | then-has x ↦ rw (x.names-is, x.r-is) (given_next _ _ _ _ _ _ at.invariant _ (sym told ∙ x.if-has.true) (ap (λ (e : ℕ). name at.n e) x.epoch_of.ensures.0))
      | else-has x ↦ rw (x.names-is, x.r-is) (given_skip _ _ _ _ _ _ at.invariant (sym told ∙ x.if-has.false))
    ]

pub returns-clause-value : goal.returns-clause-value
unfolding names_of names_below
returns-clause-value c =
    let at = c.loop-n in
    let last : at.n ≡ epochs_most = omega arith in
    (rw last at at.invariant.counted, omega arith)

pub returns-clause-names_after : goal.returns-clause-names_after
unfolding names_of names_below
returns-clause-names_after c =
    let at = c.loop-n in
    let last : at.n ≡ epochs_most = omega arith in
    rw last at at.invariant.stored
