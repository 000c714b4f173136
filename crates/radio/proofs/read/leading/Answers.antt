-- `radio::read::leading` meets its contract: the first word of another kind ends them, and so does the end of the words.
use Rattle.std.proofs.Common.{◌≡◌, not, eqb, ◌∙◌, arith}
use Rattle.std.specs.Prelude.{position}
use Rattle.std.proofs.lemmas.Iterator.{YieldsList-from_slice}
use Rattle.std.proofs.lemmas.Iterator.Search.{position_from_yields_List}
use Rattle.message.specs.Words.{kind_of}
use Rattle.radio.proofs.ReadLaws.{leading_position}
use Rattle.radio.proofs.read.leading.Goals as goal

pub returns : goal.returns
returns c =
    let e : c.position.result ≡ position (λ w. not (eqb (kind_of w) 0)) c.args.words.now =
    position_from_yields_List (λ w. not (eqb (kind_of w) 0)) _ _ _ c.position.ensures.ran (YieldsList-from_slice c.args.words.now cc)
    (λ x b q k. grind arith) in
    c.unwrap_or.ensures ∙ rw e (leading_position c.args.words.now)
