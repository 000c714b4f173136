-- `message::read::of_kind` meets its contract: the test is carried along, without an early exit.
use Rattle.std.proofs.Common.{◌≡◌, ◌&&◌, true, eqb, ◌∙◌, arith}
use Rattle.std.proofs.lemmas.Grind.{common_steps}
use Rattle.std.specs.List.{fold}
use Rattle.message.specs.Words.{kind_of}
use Rattle.message.proofs.WordLaws.{fold_kind}
use Rattle.message.proofs.read.of_kind.Goals as goal

pub returns : goal.returns
returns c =
    let a = c.args in
    let e : c.fold.result ≡ fold (λ ok w. ok && eqb (kind_of w) a.k) true a.words.now = grind (arith, common_steps) in
    e ∙ fold_kind a.k a.words.now
