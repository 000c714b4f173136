-- `message::write::put_terms` meets its contract: turn i stores the word of term i behind those before it. The mathematics is `terms_next` of
-- `proofs.WordLaws`.
use Rattle.std.proofs.Common.{◌≡◌, length, sym, ◌∙◌, arith, length-set}
use lib.Seq.{drop-length}
use Rattle.numbers.specs.Numbers.{put}
use Rattle.message.specs.Words.{masks}
use Rattle.message.proofs.WordLaws.{terms_next}
use Rattle.message.proofs.write.put_terms.Goals as goal

pub loop-i-preserved : goal.loop-i-preserved
loop-i-preserved c =
    let a = c.args in
    let turn = terms_next a.at c.loop-i.i a.terms.now c.loop-i.out c.loop-i-test.true in
    (simp length-set c.loop-i.invariant.0, rw c.payload.ensures.0 (sym turn ∙ c.loop-i.invariant.1))

pub returns : goal.returns
unfolding put masks
returns c =
    let done : c.loop-i.i ≡ length c.args.terms.now = omega arith in
    rw (done, drop-length) at c.loop-i.invariant.1
