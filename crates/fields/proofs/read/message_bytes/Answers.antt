-- `fields::read::message_bytes` meets its contract: turn i stores the four bytes of word i behind those of the words before it. The mathematics is
-- `bytes_of_next` of `numbers`. Assumes nothing.
use Rattle.std.proofs.Common.{◌≡◌, ◌*◌, length, refl, arith}
use Rattle.std.proofs.Math.Nat.{zero-add}
use Rattle.std.proofs.Math.Seq.{take-length}
use Rattle.numbers.specs.Numbers.{put, bytes_of}
use Rattle.numbers.proofs.NumberLaws.{bytes_of_next}
use Rattle.fields.proofs.read.message_bytes.Goals as goal

pub loop-i-init : goal.loop-i-init
unfolding put bytes_of
loop-i-init c = refl

pub loop-i-preserved : goal.loop-i-preserved
loop-i-preserved c =
    let stored = rw (← (zero-add (c.loop-i.i * 4))) at c.put_num.ensures in
    bytes_of_next 0 c.loop-i.i _ _ _ _ (omega arith) c.loop-i.invariant stored

pub returns : goal.returns
returns c =
    let all : c.loop-i.i ≡ length c.args.words.now = omega arith in
    rw (all, take-length) at c.loop-i.invariant
