-- `withdrawing::get_withdrawn` meets its contract: datum by datum, oldest first (`withdrawn_next`), and each that is left has terms
-- (`withdrawn-held`).
use mathlib.Core.Path.{◌≡◌, sym, ap, ◌∙◌}
use mathlib.Core.List.{List, ◌++◌, append-nil, map}
use native.Mathlib.Omega.{arith}
use lib.ListN.{take}
use Rattle.numbers.specs.Numbers.{tab}
use Rattle.state.specs.Model.{Datum}
use Rattle.state.specs.code.Tables.{datum_in}
use Rattle.state.proofs.StateLaws.{held_count_le, form-datum}
use Rattle.withdrawing.proofs.WithdrawnLaws.{withdrawn-none, withdrawn_next, withdrawn-held, row-fits_put, rows_put}
use Rattle.withdrawing.proofs.get_withdrawn.Goals as goal
use Rattle.withdrawing.proofs.get_withdrawn.Goals.{in-Some, in_default}

pub loop-i-init : goal.loop-i-init
unfolding tab
loop-i-init c = (omega arith, λ k d h. absurd (omega arith), sym (withdrawn-none c.args.risen))

pub get_datum-requires : goal.get_datum-requires
get_datum-requires c =
    let s = c.args.s.now in
    let most = held_count_le s c.requires.1 in
    (c.requires.0, omega (arith, c.held-n.ensures.value), form-datum s c.requires.1 c.loop-i.i (omega (arith, c.held-n.ensures.value)))

pub loop-i-preserved : goal.loop-i-preserved
loop-i-preserved c =
    let was = map datum_in (take c.loop-i.r c.loop-i.held) in
    elim c.match-get_datum.branch [
      | in-Some w ↦ rw (w.held-is, w.r-is) (
        omega arith,
        row-fits_put _ _ _ (omega (arith, c.held-n.ensures.value)) c.loop-i.invariant.1 w.in-Some.ensures.0,
        withdrawn_next c.args.risen c.args.s.now c.loop-i.i _ _ c.loop-i.invariant.2
            (rows_put _ c.loop-i.r _ (omega (arith, c.held-n.ensures.value)) ∙ ap (λ (l : List Datum). was ++ l) (sym w.in-Some.ensures.1)),
      )
      | in_default w ↦ rw (w.held-is, w.r-is) (
        omega arith,
        c.loop-i.invariant.1,
        withdrawn_next c.args.risen c.args.s.now c.loop-i.i _ _ c.loop-i.invariant.2
            (sym (ap (λ (l : List Datum). was ++ l) w.in_default.ensures ∙ append-nil was)),
      )
    ]

pub returns : goal.returns
returns c =
    let done : c.loop-i.i ≡ c.held-n.result = omega arith in
    record {
      upper_bound = (omega (arith, c.held-n.ensures.value), c.loop-i.invariant.1);
      fact = withdrawn-held c.args.risen c.args.s.now c.requires.1 c.held-n.result _ c.held-n.ensures.value (rw done at c.loop-i.invariant.2);
    }
