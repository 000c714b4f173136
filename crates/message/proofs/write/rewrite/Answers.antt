-- `message::write::rewrite` meets its contract: a refused message writes nothing, and what a taken one tells bounds what is written.
-- What the reading tells of the words is `Taken` of `proofs.ReadLaws`.
use Rattle.std.proofs.Common.{length, sym, ap, arith}
use Rattle.numbers.specs.Numbers.{put}
use Rattle.message.specs.Write.{rewritten_plain, rewritten_plain_as}
use Rattle.message.proofs.ReadLaws.{read_out}
use Rattle.message.proofs.write.rewrite.Goals as goal

pub returns-in_err-message-clause-out_after : goal.returns-in_err-message-clause-out_after
unfolding rewritten_plain rewritten_plain_as put
returns-in_err-message-clause-out_after c = rw (← c.in_err-message.ensures.value)

pub write-requires-clause-sender_bound : goal.write-requires-clause-sender_bound
write-requires-clause-sender_bound c = let t = read_out _ (sym c.in_ok-message.ensures.value) in omega arith

pub write-requires-clause-terms_in_bounds : goal.write-requires-clause-terms_in_bounds
write-requires-clause-terms_in_bounds c =
    let t = read_out _ (sym c.in_ok-message.ensures.value) in
    omega (arith, ap length c.in_ok-message.ensures.parts.1)

pub returns-clause-out_after : goal.returns-clause-out_after
unfolding rewritten_plain rewritten_plain_as
returns-clause-out_after c =
    let told = c.in_ok-message.ensures in
    let terms = rw (← told.value) at told.parts.0 in
    rw (← told.value, ← terms, ← told.parts.1) c.write.ensures
