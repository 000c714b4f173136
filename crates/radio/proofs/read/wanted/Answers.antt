-- `radio::read::wanted` meets its contract: each turn adds the identifiers of one term.
use Rattle.std.proofs.Common.{◌≡◌, ◌^◌, ◌∙◌, arith}
use Rattle.std.specs.List.{fold}
use Rattle.std.proofs.lemmas.Grind.{common_steps}
use Rattle.names.specs.Sets.{set_union}
use Rattle.message.specs.Words.{payload}
use Rattle.radio.proofs.NameLaws.{wanted_fold}
use Rattle.radio.proofs.read.wanted.Goals as goal

pub returns : goal.returns
returns c =
    let a = c.args in
    let e : c.fold.result ≡ fold (λ m t. set_union m (payload t)) (2 ^ a.sender) a.terms.now = grind (arith, common_steps) in
    e ∙ wanted_fold a.sender a.terms.now
