-- `receipts::hearing::store_epochs` meets its contract: once the clocks of the risen are forgotten, the epochs are the one part that changes
-- (`epochs-stored`).
use Rattle.receipts.proofs.HearingCalls.{epochs-stored}
use Rattle.receipts.proofs.hearing.store_epochs.Goals as goal

pub returns : goal.returns
returns c =
    epochs-stored c.args.state.now c.requires.0.1 c.requires.0.0 c.args.own c.args.names.now c.requires.1 c.args.risen _ _ c.forget.ensures c.raise.ensures
