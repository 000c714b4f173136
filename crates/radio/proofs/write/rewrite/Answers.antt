-- `radio::write::rewrite` meets its contract: a refused message writes nothing, and what a taken one tells bounds what is written.
-- What the reading tells of the words is `Live` of `proofs.ReadLaws`.
use Rattle.std.proofs.Common.{length, sym, ap, arith}
use Rattle.numbers.specs.Numbers.{put}
use Rattle.radio.specs.Write.{rewritten, rewritten_as}
use Rattle.radio.proofs.ReadLaws.{read_out, epochs-few}
use Rattle.radio.proofs.write.rewrite.Goals as goal

pub returns-in_err-message-clause-out_after : goal.returns-in_err-message-clause-out_after
unfolding rewritten rewritten_as put
returns-in_err-message-clause-out_after c = rw (← c.in_err-message.ensures.value)

pub write-requires-clause-sender_bound : goal.write-requires-clause-sender_bound
write-requires-clause-sender_bound c = let t = (read_out _ (sym c.in_ok-message.ensures.value)).taken in omega arith

pub write-requires-clause-terms_in_bounds : goal.write-requires-clause-terms_in_bounds
write-requires-clause-terms_in_bounds c =
    let told = c.in_ok-message.ensures in
    let live = read_out _ (sym told.value) in
    let t = live.taken in
    let few = epochs-few live in
    omega (arith, ap length (rw (← told.value) at told.parts.1))

pub returns-clause-out_after : goal.returns-clause-out_after
unfolding rewritten rewritten_as
returns-clause-out_after c =
    let told = c.in_ok-message.ensures in
    let terms = rw (← told.value) at told.parts.0 in
    let names = rw (← told.value) at told.parts.1 in
    rw (← told.value, ← terms, ← names) c.write.ensures
