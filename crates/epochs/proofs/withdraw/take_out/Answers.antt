-- `epochs::withdraw::take_out` meets its contract: term by term (`taken-turn`).
use Prim.Native.Nat.{ℕ}
use native.Mathlib.Omega.{arith}
use mathlib.Core.Path.{ap, ◌∙◌}
use mathlib.Core.List.{append-nil}
use lib.ListN.{set, drop_of_length-le}
use lib.Seq.{take_all}
use Rattle.epochs.proofs.WithdrawLaws.{taken-turn}
use Rattle.epochs.proofs.withdraw.take_out.Goals as goal

pub loop-t-preserved : goal.loop-t-preserved
loop-t-preserved c =
    let at = c.loop-t in
    ap (λ (x : ℕ). set at.terms at.t-index x) c.minus.ensures ∙ taken-turn at.t-index _ c.args.terms.now at.terms (omega arith) at.invariant

pub returns : goal.returns
returns c =
    let at = c.loop-t in
    let l = c.args.terms.now in
    (rw (take_all at.t-index l (omega arith), drop_of_length-le l {i = at.t-index} (omega arith)) at at.invariant) ∙ append-nil _
