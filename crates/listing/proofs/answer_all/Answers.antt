-- Where the input has ended, its last line's answer is handed on behind all others. The mathematics is `listed_part`, `listed_whole` and `listed_all`
-- of `proofs.ByteLaws`.
use Rattle.std.proofs.Common.{◌≡◌, ◌+◌, ◌≤◌, ℕ, true, sym, ap, ◌∙◌, arith, length}
use Rattle.std.proofs.Math.Seq.{length-take-le}
use Rattle.predicates.proofs.ListLaws.{true_T}
use Rattle.listing.specs.System.{is_end}
use Rattle.listing.proofs.RunLaws.{went_most, ran_whole}
use Rattle.listing.proofs.ByteLaws.{told_by, listed_whole, listed_all}
use Rattle.listing.proofs.answer_all.Goals as goal

pub hand_on-requires : goal.hand_on-requires
hand_on-requires g c =
    let call = c.take_all-session.ensures in
    let ended : is_end c.take_all-session.result.tally.input.got ≡ true = sym c.is_end.ensures ∙ c.if-is_end.true in
    let long = length-take-le c.last_line-filled.result c.last_line-filled.new.out (omega arith) in
    (call.calls_tell.1 (true_T _ ended), omega (arith, long, went_most call.went, call.bounded))

pub returns-then-is_end-clause-ran : goal.returns-then-is_end-clause-ran
returns-then-is_end-clause-ran g c =
    let call = c.take_all-session.ensures in
    let ended : is_end c.take_all-session.result.tally.input.got ≡ true = sym c.is_end.ensures ∙ c.if-is_end.true in
    let long = length-take-le c.last_line-filled.result c.last_line-filled.new.out (omega arith) in
    let handed = c.take_all-session.result.tally.handed in
    let hands = c.hand_on.ensures.hands_on in
    let sent = hands.handed ∙ ap (λ (m : ℕ). handed + m) (long ∙ c.last_line-filled.ensures.value.0) in
    rw (hands.input, ended, hands.read) (ran_whole _ call.went sent)

pub returns-then-is_end-clause-bytes : goal.returns-then-is_end-clause-bytes
returns-then-is_end-clause-bytes g c =
    let call = c.take_all-session.ensures in
    let ended : is_end c.take_all-session.result.tally.input.got ≡ true = sym c.is_end.ensures ∙ c.if-is_end.true in
    let even = call.calls_tell.1 (true_T _ ended) in
    let fits : c.last_line-filled.result ≤ length c.take_all-session.new.out = omega (arith, c.last_line-filled.ensures.value, c.room-out.ensures) in
    let long = length-take-le c.last_line-filled.result c.last_line-filled.new.out (omega arith) in
    let told = told_by _ _ _ _ _ _ _ c.last_line-filled.ensures.value.0 c.last_line-filled.ensures.out_after fits c.hand_on.ensures.bytes in
    listed_whole _ _ _ _ _ _ _ _ _ call.bytes ended even c.hand_on.ensures.hands_on (long ∙ c.last_line-filled.ensures.value.0) told

pub returns-then-is_end-clause-listing : goal.returns-then-is_end-clause-listing
returns-then-is_end-clause-listing g c = listed_all _ _ _ _ _ (returns-then-is_end-clause-bytes g c)
