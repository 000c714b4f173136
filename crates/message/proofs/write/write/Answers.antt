-- `message::write::write` meets its contract: head, the words behind it, ends, terms and check word are stored one behind the other, and the sum is
-- taken of what is stored. The mathematics is `message-put` of `proofs.WordLaws`.
use Rattle.std.proofs.Common.{arith}
use Rattle.numbers.specs.Numbers.{put}
use Rattle.message.proofs.WordLaws.{message-put}
use Rattle.message.proofs.write.write.Goals as goal

pub returns : goal.returns
unfolding put
returns c =
    let m = c.args.message.now in
    message-put _ _ _ _ m.names.now m.terms.now _ _ _ _ _ _ (omega arith) c.put_word.ensures c.copy.ensures
    c.put_ends.ensures c.put_terms.ensures c.check_of-sum.ensures.0 c.put_word-2.ensures
