-- `state::holding::Held::is_live` meets its contract: of its places, of which there are some, as many are used as it counts (`live-told`).
use native.Mathlib.Omega.{arith}
use Rattle.state.proofs.RowLaws.{live-told}
use Rattle.state.proofs.holding.Held.is_live.Goals as goal

pub returns : goal.returns
returns c = live-told c.args.self.now.count c.args.self.now.terms (omega arith)
