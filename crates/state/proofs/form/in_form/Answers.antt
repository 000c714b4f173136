-- `state::form::in_form` meets its contract: a head that does not fit ends the test; its own name and counts are then in the ranges
-- that the tests of data and entries ask for.
use mathlib.Core.Path.{◌≡◌, sym, ◌∙◌}
use mathlib.Core.Bool.{true}
use native.Mathlib.Omega.{arith}
use Rattle.state.specs.Form.{head_fits, data_fit, entries_fit, epochs_fit, in_form}
use Rattle.state.proofs.FormLoops.{head_out}
use borrow.Author.Rules.{rules}
use Rattle.state.proofs.form.in_form.Goals as goal
use Rattle.state.proofs.form.in_form.Goals.{Else-not-head_fits}

-- the head fits
fits : (c : Else-not-head_fits) → head_fits c.args.s.now ≡ true
fits c = sym c.head_fits.ensures ∙ c.if-not-head_fits.false

pub returns-then-not-head_fits : goal.returns-then-not-head_fits
unfolding in_form
returns-then-not-head_fits c = rw (sym c.head_fits.ensures ∙ c.if-not-head_fits.true)

pub data_fit-requires : goal.data_fit-requires
data_fit-requires c =
    let ranges = head_out _ (fits (goal.at.data_fit-requires c).Else-not-head_fits) in
    (omega (arith, c.held.ensures.value), omega (arith, c.own-own.ensures.value), search rules)

pub entries_fit-requires : goal.entries_fit-requires
entries_fit-requires c =
    let ranges = head_out _ (fits (goal.at.entries_fit-requires c).Else-not-head_fits) in
    (omega (arith, c.known.ensures.value), omega (arith, c.own-own.ensures.value), search rules)

pub returns : goal.returns
unfolding in_form data_fit entries_fit epochs_fit
returns c =
    rw (fits (goal.at.returns c).Else-not-head_fits, c.data_fit.ensures, c.entries_fit.ensures, c.clocks_fit.ensures, c.fits.ensures, c.own-own.ensures.value, c.held.ensures.value, c.known.ensures.value)
