-- `stream::Session::take_piece` meets its contract: a turn is `feed_next` of `proofs.StreamLaws`, and at the end all bytes of the piece are taken.
-- Assumes nothing.
use Rattle.std.proofs.Common.{◌+◌, refl, ap, arith}
use lib.Seq.{take_all}
use Rattle.numbers.specs.Numbers.{put}
use Rattle.stream.specs.Kept.{kept_after, text_after}
use Rattle.stream.proofs.StreamLaws.{feed_next, put_behind}
use Rattle.stream.proofs.Session.take_piece.Goals as goal

pub loop-b-init : goal.loop-b-init
unfolding kept_after text_after put
loop-b-init c = record { keeps = refl; long = refl; most = omega arith; prints = refl }

pub loop-b-preserved : goal.loop-b-preserved
loop-b-preserved c =
    let head = c.loop-b.invariant in
    let byte = c.take_byte-filled.ensures in
    let behind = put_behind c.loop-b.filled _ _ c.loop-b.out c.take_byte-filled.new.out byte.3 refl (omega (arith, byte.1, byte.2)) in
    let turn =
    feed_next c.args.self.now _ _ c.args.piece.now c.loop-b.b-index _ (c.loop-b.filled + c.take_byte-filled.result) _ _ _
    c.loop-b-test.true head.keeps head.long head.prints byte.0 (ap (λ n. c.loop-b.filled + n) byte.1) behind in
    record { keeps = turn.0; long = turn.1; most = omega (arith, byte.2); prints = turn.2 }

pub returns : goal.returns
returns c =
    let head = c.loop-b.invariant in
    let all = take_all c.loop-b.b-index c.args.piece.now c.loop-b-test.false in
    (rw all at head.keeps, rw all at head.long, omega arith, rw all at head.prints)
