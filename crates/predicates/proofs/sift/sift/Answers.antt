-- `predicates::sift::sift` meets its contract: a term that is not struck out goes behind those kept, and zeros stand where others stood.
use mathlib.Core.Path.{refl, sym, ◌∙◌}
use native.Mathlib.Omega.{arith}
use Rattle.predicates.proofs.PlaceLaws.{sifted_begin, sifted_pass, sifted_keep, sifted_done}
use Rattle.predicates.proofs.sift.sift.Goals as goal
use Rattle.predicates.proofs.sift.sift.Goals.{then-strikes, else-strikes}

pub loop-i-init : goal.loop-i-init
loop-i-init g c = (omega arith, λ test h. sifted_begin test _ _ _ _ refl refl refl)

pub loop-i-preserved : goal.loop-i-preserved
loop-i-preserved g c =
    let at = c.loop-i in
    elim c.if-strikes.branch [ then-strikes w ↦ rw (w.terms-is, w.kept-is) (omega arith, λ test h. let told = h _ _ _ c.strikes.ensures in sifted_pass test c.args.terms.now at.terms at.kept at.i (omega arith) (omega arith) at.invariant.0 (at.invariant.1 test h) (sym told ∙ w.if-strikes.true)) | else-strikes w ↦ rw (w.terms-is, w.kept-is, w.move_up.ensures) (omega arith, λ test h. let told = h _ _ _ c.strikes.ensures in sifted_keep test c.args.terms.now at.terms at.kept at.i (omega arith) (omega arith) at.invariant.0 (at.invariant.1 test h) (sym told ∙ w.if-strikes.false)) ]

pub returns-clause-value : goal.returns-clause-value
returns-clause-value g c = let at = c.loop-i in λ test h. (sifted_done test c.args.terms.now at.terms at.kept at.i (omega arith) at.invariant.0 (omega arith) (at.invariant.1 test h)).0

pub returns-clause-terms_after : goal.returns-clause-terms_after
returns-clause-terms_after g c = let at = c.loop-i in λ test h. (sifted_done test c.args.terms.now at.terms at.kept at.i (omega arith) at.invariant.0 (omega arith) (at.invariant.1 test h)).1
