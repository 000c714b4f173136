-- `monitor::take_words` meets its contract: bytes that leave a rest or are too many give no words, all others those that `get_words` reads.
use Rattle.std.proofs.Common.{◌≡◌, ◌+◌, ◌*◌, ◌/◌, length, take, sym, ap, ◌∙◌, zero-add, arith, length-take-le}
use lib.Seq.{take_at}
use Rattle.numbers.specs.Numbers.{tab, num, words_of}
use Rattle.numbers.proofs.NumberLaws.{length-tab}
use Rattle.monitor.proofs.MessageCalls.{words_in-none, words_in-all}
use Rattle.monitor.proofs.take_words.Goals as goal

pub returns-then-size : goal.returns-then-size
returns-then-size c = sym (words_in-none _ c.if-size.true)

pub returns : goal.returns
unfolding words_of
returns c =
    let m = c.args.message.now in
    let n = length m / 4 in
    let all = words_in-all m c.if-size.false in
    let lent : length (take n c.args.room.now) ≡ n = length-take-le n c.args.room.now (omega (arith, all)) in
    let read : c.get_words.new.out ≡ tab n (λ i. num (0 + i * 4) 4 m) = rw lent at c.get_words.ensures in
    let words : tab n (λ i. num (0 + i * 4) 4 m) ≡ words_of m = simp zero-add in
    take_at c.get_words.new.out _ n (ap length read ∙ length-tab n (λ i. num (0 + i * 4) 4 m)) ∙ read ∙ words ∙ sym all.0
