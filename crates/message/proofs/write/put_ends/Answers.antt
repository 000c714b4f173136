-- `message::write::put_ends` meets its contract: the left end, then the right end behind it.
use Rattle.std.proofs.Common.{refl}
use Rattle.numbers.proofs.NumberLaws.{put_then}
use Rattle.message.specs.Write.{end_words}
use Rattle.message.proofs.write.put_ends.Goals as goal

pub returns : goal.returns
unfolding end_words
returns c = put_then 2 _ _ _ _ _ _ _ refl refl c.put_end.ensures c.put_end-2.ensures
