-- `message::write::put_end` meets its contract: the second word is stored behind the first.
use Rattle.std.proofs.Common.{refl}
use Rattle.numbers.proofs.NumberLaws.{put_then}
use Rattle.message.proofs.write.put_end.Goals as goal

pub returns : goal.returns
returns c = put_then 1 _ _ _ _ _ _ _ refl refl c.put_word.ensures c.put_word-2.ensures
