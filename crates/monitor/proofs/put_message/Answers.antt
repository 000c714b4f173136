-- `monitor::put_message` meets its contract: the length that is tested is that of the bytes, and these are put at the front.
use Rattle.std.proofs.Common.{refl}
use borrow.Author.Tests.{lt-ltb, le-ltb}
use Rattle.numbers.proofs.NumberLaws.{length-bytes_of}
use Rattle.state.specs.Refusal.{after}
use Rattle.monitor.proofs.put_message.Goals as goal

pub returns-then-out-words : goal.returns-then-out-words
unfolding after
returns-then-out-words c =
    let short = lt-ltb _ _ (rw (← length-bytes_of c.args.words.now) at c.if-out-words.true) in
    record { value = rw short; out_after = refl }

pub returns : goal.returns
unfolding after
returns c =
    let long = le-ltb _ _ (rw (← length-bytes_of c.args.words.now) at c.if-out-words.false) in
    record { value = rw long; out_after = c.put_words.ensures }
