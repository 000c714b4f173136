-- `monitor::try_message_rewrite` meets its contract: refused, by what was read; else what `put_message` answers and leaves of the words in front of the
-- room, which are those of the rewritten message (`front`).
use Rattle.std.proofs.Common.{◌≡◌, ℕ, ◌+◌, ◌≤◌, List, ltb, length, take, sym, ap, ◌∙◌, arith}
use Rattle.std.proofs.lemmas.Result.{err_from_is_err_and}
use Rattle.numbers.specs.Numbers.{words_of, bytes_of}
use Rattle.numbers.proofs.NumberLaws.{take_put}
use Rattle.message.proofs.WordLaws.{length-masks}
use Rattle.message.proofs.MessageLaws.{length-message-more}
use Rattle.message.specs.Read.{Message}
use Rattle.radio.specs.Write.{rewritten, rewritten_as}
use Rattle.radio.proofs.ReadLaws.{read_out, epochs-few}
use Rattle.state.specs.Refusal.{refuse, after}
use Rattle.monitor.specs.Messages.{read_bytes, rewritten_bytes, answered, rewrite_number, rewrite_output}
use Rattle.monitor.specs.code.Words.{words_of_message}
use Rattle.monitor.proofs.MessageCalls.{refused_stays, got_read, words_in-taken, rewritten-words_in}
use Rattle.monitor.proofs.try_message_rewrite.Goals as goal
use Rattle.monitor.proofs.try_message_rewrite.Goals.{In_ok-told}

-- what was read is the reading of the message's bytes
same : (c : In_ok-told) → let m = c.in_ok-told.told in
    read_bytes c.args.message.now ≡ Message m.sender m.left m.right (length m.terms.now)
same c = sym (got_read c.args.message.now _ c.take_words.ensures _ c.in_ok-told.ensures.value)

-- the words that are written
again : (c : In_ok-told) → words_of_message c.in_ok-told.told ≡ rewritten_as (read_bytes c.args.message.now) (words_of c.args.message.now)
unfolding rewritten_as
again c =
    let told = c.in_ok-told.ensures in
    let e = same c in
    let all = words_in-taken c.args.message.now e in
    let value = rw c.take_words.ensures at told.value in
    let terms = rw all at (rw (← value) at (rw c.take_words.ensures at told.parts.0)) in
    let names = rw all at (rw (← value) at (rw c.take_words.ensures at told.parts.1)) in
    rw (e, ← terms, ← names)

pub returns-in_err-told : goal.returns-in_err-told
unfolding rewrite_number rewrite_output answered after
returns-in_err-told c =
    let p = err_from_is_err_and c.from_residual.result c.from_residual.ensures.1 in
    let e = sym (got_read c.args.message.now _ c.take_words.ensures _ c.in_err-told.ensures.value) in
    record { value = rw (p.1, p.2, e); out_after = rw e (refused_stays _ _ _ _ e) }

-- how many they are
few : (c : In_ok-told) → length c.in_ok-told.told.names.now + length c.in_ok-told.told.terms.now + 6 ≤ 43
few c =
    let live = read_out _ (sym c.in_ok-told.ensures.value) in
    let names = ap length (rw (← c.in_ok-told.ensures.value) at c.in_ok-told.ensures.parts.1) in
    let taken = live.taken in
    let least = epochs-few live in
    omega (arith, names)

size : (c : In_ok-told) → let m = c.in_ok-told.told in length (words_of_message m) ≡ length m.names.now + length m.terms.now + 6
size c =
    let m = c.in_ok-told.told in
    length-message-more m.sender m.names.now m.left m.right _ ∙ omega (arith, length-masks m.terms.now)

-- they stand in front of the room
words : (c : In_ok-told) → rewritten c.take_words.result.now ≡ words_of_message c.in_ok-told.told
words c = rw c.take_words.ensures (rewritten-words_in c.args.message.now ∙ sym (again c))

front : (c : In_ok-told) → let m = c.in_ok-told.told in take (length m.names.now + length m.terms.now + 6) c.rewrite.new.out ≡ words_of_message m
front c =
    let m = c.in_ok-told.told in
    let n = length m.names.now + length m.terms.now + 6 in
    ap (λ (x : List ℕ). take n x) c.in_ok-told.ensures.out_after ∙ take_put n _ _ (ap length (words c) ∙ size c) (omega (arith, few c)) ∙ words c

pub overflow_add-size : goal.overflow_add-size
overflow_add-size c = omega (arith, few (goal.at.overflow_add-size c).In_ok-told)

pub overflow_add-size-2 : goal.overflow_add-size-2
overflow_add-size-2 c = omega (arith, few (goal.at.overflow_add-size-2 c).In_ok-told)

pub slice_bounds-words-end : goal.slice_bounds-words-end
slice_bounds-words-end c = omega (arith, few (goal.at.slice_bounds-words-end c).In_ok-told)

pub slice_bounds-put_message-end : goal.slice_bounds-put_message-end
slice_bounds-put_message-end c =
    let told = (goal.at.slice_bounds-put_message-end c).In_ok-told in
    omega (arith, ap length (front told), size told)

pub put_message-requires : goal.put_message-requires
put_message-requires c =
    let told = (goal.at.put_message-requires c).In_ok-told in
    omega (arith, ap length (front told), size told, few told)

-- their bytes, and the number of the call
bytes : (c : In_ok-told) → bytes_of (words_of_message c.in_ok-told.told) ≡ rewritten_bytes c.args.message.now
unfolding rewritten_bytes
bytes c = ap (λ ws. bytes_of ws) (again c)

number : (c : In_ok-told) → let a = c.args in
    rewrite_number a.message.now a.out.now ≡ refuse (ltb (length a.out.now) (length (rewritten_bytes a.message.now))) 24 0
unfolding rewrite_number answered
number c = rw (same c)

pub returns : goal.returns
unfolding rewrite_output
returns c =
    let told = (goal.at.returns c).In_ok-told in
    let made = (rw (front told, bytes told) at c.put_message.ensures.value) ∙ sym (number told) in
    record { value = made; out_after = rw (front told, bytes told, made) at c.put_message.ensures.out_after }
