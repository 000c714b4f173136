-- `monitor::receive::receive_message` meets its contract: refused by what was read, or received with what the message says (`taken_says`).
use Rattle.std.proofs.Common.{◌≡◌, length, sym, arith}
use Rattle.std.proofs.lemmas.Result.{err_from_is_err_and}
use Rattle.message.specs.Read.{Message, term_words}
use Rattle.radio.specs.Read.{epoch_words}
use Rattle.monitor.specs.Messages.{read_bytes}
use Rattle.monitor.specs.Receive.{delivered, delivered_as, delivered_number, delivered_state}
use Rattle.monitor.specs.code.Words.{words_in}
use Rattle.monitor.proofs.MessageCalls.{got_read, words_in-taken, taken_says, refused_stays}
use Rattle.monitor.proofs.receive.receive_message.Goals as goal
use Rattle.monitor.proofs.receive.receive_message.Goals.{In_ok-told}

-- what was read is the reading of the message's bytes
same : (c : In_ok-told) → let m = c.in_ok-told.told in
    read_bytes c.args.message.now ≡ Message m.sender m.left m.right (length m.terms.now)
same c = sym (got_read c.args.message.now _ c.take_words.ensures _ c.in_ok-told.ensures.value)

-- its term words and its epoch words are those of the message's bytes
parts : (c : In_ok-told) → let m = c.in_ok-told.told in
    let got = Message m.sender m.left m.right (length m.terms.now) in
    let ws = words_in c.args.message.now in (m.terms.now ≡ term_words got ws) × (m.names.now ≡ epoch_words got ws)
parts c =
    let told = c.in_ok-told.ensures in
    (rw (← c.take_words.ensures, told.value) told.parts.0, rw (← c.take_words.ensures, told.value) told.parts.1)

pub returns-in_err-told : goal.returns-in_err-told
unfolding delivered delivered_as delivered_number delivered_state
returns-in_err-told c =
    let p = err_from_is_err_and c.from_residual.result c.from_residual.ensures.1 in
    let e = sym (got_read c.args.message.now _ c.take_words.ensures _ c.in_err-told.ensures.value) in
    record { result_value = rw (p.1, p.2, e); state_after = rw (p.1, p.2, e) (refused_stays c.args.message.now _ _ _ e) }

pub deliver-requires : goal.deliver-requires
deliver-requires c =
    let told = (goal.at.deliver-requires c).In_ok-told in
    let says = taken_says c.args.message.now (same told) in
    let there = parts told in
    let given = c.requires.least_le_greatest in
    record {
      state_size_in_bounds = c.requires.state_size_in_bounds;
      least_le_greatest = (given.0, given.1, (says.0, given.2));
      left_le_right = (says.1, omega (arith, says.2), rw there.0 says.3, rw there.1 says.4);
    }

pub returns : goal.returns
unfolding delivered delivered_as delivered_number delivered_state
returns c =
    let told = (goal.at.returns c).In_ok-told in
    let e = same told in
    let all = words_in-taken c.args.message.now e in
    let there = rw all at (parts told) in
    let made = c.deliver.ensures in
    record {
      result_value = rw e (rw (there.0, there.1) at made.result_value);
      state_after = rw e (rw (there.0, there.1) at made.state_after);
    }
