-- `receipts::receipt::take_risen` meets its contract: the names are withdrawn, the datum is taken on what is left (`risen-number`, `risen-taken`), and
-- where that is refused what was kept is put back (`risen-refused`).
use Prim.Native.Nat.{◌≤◌}
use mathlib.Core.Path.{sym, ap, ◌∙◌}
use lib.ListN.{length}
use native.Mathlib.Omega.{arith}
use lib.Seq.{length-take-le}
use borrow.Author.Rules.{rules}
use Rattle.numbers.specs.Numbers.{Bytes}
use Rattle.state.specs.Layout.{state_of}
use Rattle.receipts.specs.code.Taken.{withdrawn_state}
use Rattle.receipts.proofs.ReceiptCalls.{refused-number, taken-number}
use Rattle.receipts.proofs.RisenLaws.{risen-long, risen-form, risen-number, risen-taken, risen-refused}
use Rattle.receipts.proofs.receipt.take_risen.Goals as goal
use Rattle.receipts.proofs.receipt.take_risen.Goals.{After-take_here-taken}

pub slice_bounds-copy_from_slice-end-3 : goal.slice_bounds-copy_from_slice-end-3
slice_bounds-copy_from_slice-end-3 c = sym (length-take-le 3160 c.args.state.now (omega (arith, c.requires.state_size_in_bounds.0)))

pub copy_from_slice-requires : goal.copy_from_slice-requires
copy_from_slice-requires c = sym (length-take-le 3160 c.args.state.now (omega (arith, c.requires.state_size_in_bounds.0)))

pub take_here-taken-requires : goal.take_here-taken-requires
unfolding withdrawn_state state_of
take_here-taken-requires c =
    let s = c.args.state.now in
    let r = c.requires.state_size_in_bounds in
    let long = risen-long s r.1 r.0 c.args.risen _ c.withdraw.ensures in
    record { state_size_in_bounds = (omega (arith, long, r.0), risen-form s r.1 r.0 c.args.risen _ c.withdraw.ensures); p_nonzero = c.requires.p_nonzero }

-- as long as before
long : (c : After-take_here-taken) → 3160 ≤ length c.take_here-taken.new.state
unfolding withdrawn_state state_of
long c =
    let r = c.requires.state_size_in_bounds in
    omega (arith, r.0, risen-long c.args.state.now r.1 r.0 c.args.risen _ c.withdraw.ensures, c.take_here-taken.auto.state)

pub slice_bounds-copy_from_slice-end-then-is_err-2 : goal.slice_bounds-copy_from_slice-end-then-is_err-2
slice_bounds-copy_from_slice-end-then-is_err-2 c = sym (length-take-le 3160 c.take_here-taken.new.state (long (goal.at.slice_bounds-copy_from_slice-end-then-is_err-2 c).After-take_here-taken))

pub copy_from_slice-requires-then-is_err : goal.copy_from_slice-requires-then-is_err
copy_from_slice-requires-then-is_err c =
    let there = long (goal.at.copy_from_slice-requires-then-is_err c).After-take_here-taken in
    length-take-le 3160 c.take_here-taken.new.state there ∙ sym (length-take-le 3160 c.args.state.now (omega (arith, c.requires.state_size_in_bounds.0))) ∙ ap length (sym c.copy_from_slice.ensures.after)

pub returns-then-is_err : goal.returns-then-is_err
unfolding withdrawn_state state_of Bytes
returns-then-is_err c =
    let s = c.args.state.now in
    let r = c.requires.state_size_in_bounds in
    let made = c.take_here-taken.ensures in
    let back = c.copy_from_slice-then-is_err.ensures.after ∙ c.copy_from_slice.ensures.after in
    record {
      result_value = risen-number s r.1 r.0 c.args.risen _ c.withdraw.ensures _ _ _ made.value;
      state_after = risen-refused s r.1 r.0 c.args.risen _ c.withdraw.ensures (search rules) _ _ _ _ _ (refused-number _ (sym c.if-is_err.ensures.value)) made.state_after (rw back);
    }

pub returns-else-is_err : goal.returns-else-is_err
unfolding withdrawn_state state_of
returns-else-is_err c =
    let s = c.args.state.now in
    let r = c.requires.state_size_in_bounds in
    let made = c.take_here-taken.ensures in
    record {
      result_value = risen-number s r.1 r.0 c.args.risen _ c.withdraw.ensures _ _ _ made.value;
      state_after = risen-taken s r.1 r.0 c.args.risen _ c.withdraw.ensures _ _ _ _ (taken-number _ (sym c.if-is_err.ensures.value)) made.state_after;
    }
