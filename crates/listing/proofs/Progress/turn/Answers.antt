-- What is written of the array's front is written of what the piece prints. The mathematics is `told_by` of `proofs.ByteLaws`.
use Rattle.std.proofs.Common.{◌≤◌, arith, length, length-take}
use Rattle.listing.proofs.ByteLaws.{told_by}
use Rattle.listing.proofs.Progress.turn.Goals as goal

pub returns-clause-told : goal.returns-clause-told
returns-clause-told g c =
    let hears = c.receive.ensures.hears in
    let hands = c.hand_on.ensures.hands_on in
    let fed = c.take_piece-filled.ensures in
    let short = length-take c.came-n.result c.receive.new.input in
    let fits : c.take_piece-filled.result ≤ length c.args.out.now = omega (arith, short, fed.2, c.requires.room) in
    let told = told_by _ _ _ _ _ _ _ fed.1 fed.3 fits (rw hears.written at c.hand_on.ensures.bytes) in
    (omega (arith, hears.written, hands.kept), rw (hands.input, ← c.came-n.ensures) told)
