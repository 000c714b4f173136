-- `receipts::receipt::take_here` meets its contract: a true predicate without a blamed name leaves every byte (`taken_none`); else the four steps are taken
-- (`taken-some`, `taken-blamed`).
use mathlib.Core.Path.{◌≡◌, sym}
use lib.ListN.{get_or}
use borrow.Author.Rules.{rules}
use Rattle.numbers.specs.Numbers.{Bytes}
use Rattle.predicates.proofs.PredicateLaws.{true_first}
use Rattle.state.specs.Layout.{store_of, state_of}
use Rattle.state.specs.Refusal.{after}
use Rattle.state.specs.code.Tables.{datum_of}
use Rattle.state.proofs.StateLaws.{put-state-same}
use Rattle.receipts.proofs.TakenLaws.{taken_none, taken-some, taken-blamed}
use Rattle.receipts.proofs.ReceiptCalls.{made-same, few-held}
use Rattle.steps.specs.Steps.{settled}
use Rattle.receipts.specs.code.Blame.{blamed_by}
use Rattle.receipts.specs.code.Taken.{taken_by}
use Rattle.receipts.proofs.receipt.take_here.Goals as goal
use Rattle.receipts.proofs.receipt.take_here.Goals.{else-p-eq0-via-then-p-eq0+else-is_none, else-p-eq0-via-else-p-eq0}

pub returns-then-is_none : goal.returns-then-is_none
unfolding after state_of Bytes
returns-then-is_none c =
    let s = c.args.state.now in
    let p = c.args.p.now in
    let in_form = c.requires.state_size_in_bounds in
    let none = taken_none c.args.blame (get_or p 0 0) (datum_of c.args.new p) (store_of s) (true_first p c.requires.p_nonzero.0.2 c.requires.p_nonzero.0.0) c.if-p-eq0.true c.if-is_none.ensures in
    let promised = made-same s (store_of s) _ _ _ none (rw (few-held s in_form.1)) (sym (put-state-same s in_form.1 (search rules) in_form.0)) in record { value = promised.0; state_after = promised.1 }

pub returns : goal.returns
returns c =
    let p = c.args.p.now in
    let k = store_of c.args.state.now in
    let n = datum_of c.args.new p in
    let true_there = true_first p c.requires.p_nonzero.0.2 c.requires.p_nonzero.0.0 in
    let taken : settled n (blamed_by c.args.blame k) ≡ taken_by c.args.blame n k =
    elim c.else-p-eq0.branch [
      | else-p-eq0-via-then-p-eq0+else-is_none w ↦ taken-blamed c.args.blame (get_or p 0 0) n k true_there w.if-is_none.ensures
      | else-p-eq0-via-else-p-eq0 w ↦ taken-some c.args.blame (get_or p 0 0) n k true_there w.if-p-eq0.false
    ] in
    let made = c.take_datum.ensures in
    let promised = made-same c.args.state.now _ _ _ _ (sym taken) made.value made.state_after in record { value = promised.0; state_after = promised.1 }
