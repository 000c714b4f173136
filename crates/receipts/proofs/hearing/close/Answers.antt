-- `receipts::hearing::close` meets its contract: whether some have risen or not, the state is stored with the epochs heard (`heard-bytes`), and the
-- readings are saved over it (`close-stored`).
use mathlib.Core.Path.{◌≡◌, ap, ◌∙◌}
use native.Mathlib.Omega.{arith}
use borrow.Author.Rules.{rules}
use lib.ListN.{length}
use Rattle.numbers.specs.Numbers.{put, Bytes}
use Rattle.numbers.proofs.NumberLaws.{length-put}
use Rattle.state.specs.Layout.{state_bytes, head_of, store_of}
use Rattle.engine.specs.code.Hearing.{heard_head}
use Rattle.receipts.proofs.HearingCalls.{epochs_stay, heard-form, close-stored}
use Rattle.receipts.proofs.hearing.close.Goals as goal
use Rattle.receipts.proofs.hearing.close.Goals.{Joined-risen-ne0, else-risen-ne0, then-risen-ne0}

-- the bytes before the readings are saved
heard-bytes : (c : Joined-risen-ne0)
    → (let s = c.args.state.now in
    c.if-risen-ne0.state ≡ put 0 (state_bytes (record { head = heard_head c.args.own c.args.names.now c.args.risen (head_of s); store = store_of s })) s)
unfolding Bytes
heard-bytes c =
    elim c.if-risen-ne0.branch [ then-risen-ne0 x ↦ x.state-is ∙ x.store_epochs.ensures | else-risen-ne0 x ↦ x.state-is ∙ epochs_stay c.args.state.now c.requires.state_size_in_bounds.0.1 c.requires.state_size_in_bounds.0.0 c.args.own c.args.names.now c.requires.state_size_in_bounds.1 c.args.risen (search rules) c.requires.sender_le_name_most.0 x.if-risen-ne0.false ]

heard-length : (c : Joined-risen-ne0) → length c.if-risen-ne0.state ≡ length c.args.state.now
heard-length c = ap length (heard-bytes c) ∙ length-put 0 _ c.args.state.now

pub save-requires : goal.save-requires
save-requires c =
    let j = (goal.at.save-requires c).Joined-risen-ne0 in
    let in_form = c.requires.state_size_in_bounds.0 in (
      (omega (arith, in_form.0, heard-length j), heard-form c.args.state.now in_form.1 in_form.0 c.args.own c.args.names.now c.requires.state_size_in_bounds.1 c.args.risen _ (heard-bytes j)),
      c.requires.sender_le_name_most.1,
    )

pub returns : goal.returns
returns c =
    close-stored c.args.state.now c.requires.state_size_in_bounds.0.1 c.requires.state_size_in_bounds.0.0 c.args.own c.args.names.now c.requires.state_size_in_bounds.1 c.args.risen c.if-risen-ne0.state (heard-bytes (goal.at.returns c).Joined-risen-ne0)
    c.args.sender c.args.readings _ c.requires.sender_le_name_most.1.0 c.requires.sender_le_name_most.1.1 c.save.ensures
