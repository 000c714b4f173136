-- `receipts::receipt::take` meets its contract: where nobody has risen the datum is taken as things stand (`after-quiet`), else with the names withdrawn
-- first; a blamed name is an entry before (`judged-taken`).
use mathlib.Core.Path.{ap, ◌∙◌}
use mathlib.Core.Bool.{Bool}
use borrow.Author.Rules.{rules}
use Rattle.numbers.specs.Numbers.{Bytes}
use Rattle.clocks.specs.Clocks.{violated_by}
use Rattle.state.specs.Layout.{head_of, store_of}
use Rattle.state.specs.code.Tables.{datum_of}
use Rattle.steps.specs.Withdrawn.{withdrawn}
use Rattle.engine.specs.Calls.{clock_of}
use Rattle.receipts.specs.code.Taken.{taken_by}
use Rattle.receipts.proofs.ReceiptCalls.{judged-taken, withdrawn_stays}
use Rattle.receipts.proofs.RisenLaws.{risen-same, quiet_same}
use Rattle.receipts.proofs.receipt.take.Goals as goal
use Rattle.receipts.proofs.receipt.take.Goals.{Start}

-- the readings violate the test
violation : Start → Bool
violation a = let h = head_of a.args.state.now in violated_by h.drift (clock_of h a.args.sender) a.args.readings

pub returns-then-risen-eq0 : goal.returns-then-risen-eq0
unfolding violation Bytes
returns-then-risen-eq0 c =
    let s = c.args.state.now in
    let n = datum_of c.args.new c.args.p.now in
    let stays = withdrawn_stays s c.args.risen c.requires.state_size_in_bounds.0.1 c.if-risen-eq0.true in
    let same = judged-taken (violation (goal.at.returns-then-risen-eq0 c).Start) c.args.sender c.blame-blame.result c.blame-blame.ensures n (withdrawn c.args.risen (store_of s)) c.requires.p_nonzero.1
    ∙ ap (taken_by c.blame-blame.result n) stays in
    let made = c.take_here.ensures in
    let promised = quiet_same s c.args.risen _ _ _ _ same made.value (search rules) c.requires.state_size_in_bounds.0.1 c.requires.state_size_in_bounds.0.0 c.if-risen-eq0.true made.state_after in record { result_value = promised.0; state_after = promised.1 }

pub returns : goal.returns
unfolding violation
returns c =
    let s = c.args.state.now in
    let same =
    judged-taken (violation (goal.at.returns c).Start) c.args.sender c.blame-blame.result c.blame-blame.ensures (datum_of c.args.new c.args.p.now) (withdrawn c.args.risen (store_of s)) c.requires.p_nonzero.1 in
    let made = c.take_risen.ensures in
    let promised = risen-same s c.args.risen _ _ _ _ same made.result_value made.state_after in record { result_value = promised.0; state_after = promised.1 }
