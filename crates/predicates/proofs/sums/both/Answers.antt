-- `predicates::sums::both` meets its contract: p and q are copied one behind the other (`both_calls`).
use mathlib.Core.Path.{refl}
use Rattle.predicates.proofs.SumLaws.{both_calls}
use Rattle.predicates.proofs.sums.both.Goals as goal

pub returns : goal.returns
returns c =
    record { value = refl; terms_after = both_calls c.args.terms.now c.args.p.now c.args.q.now _ _ c.requires c.copy.ensures c.copy-2.ensures }
