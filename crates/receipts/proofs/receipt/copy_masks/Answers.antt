-- `receipts::receipt::copy_masks` meets its contract: each turn copies one term.
use Prim.Native.Nat.{ℕ, suc, ◌+◌, ◌<◌}
use mathlib.Core.Path.{◌≡◌, ◌∙◌}
use mathlib.Core.List.{List}
use native.Mathlib.Omega.{arith}
use lib.ListN.{length, get_or, drop, set, drop_of_length-le}
use lib.Seq.{sets}
use Rattle.message.specs.Words.{masks, payload}
use Rattle.predicates.proofs.LoopLaws.{drop_next}
use Rattle.receipts.proofs.receipt.copy_masks.Goals as goal

-- a turn
turn : (ws s : List ℕ) (i : ℕ) → i < length ws → sets (set s i (payload (get_or ws i 0))) (i + 1) (masks (drop (i + 1) ws)) ≡ sets s i (masks (drop i ws))
unfolding masks
turn ws s i h = let e : i + 1 ≡ suc i = omega arith in rw (drop_next ws i h, e)

pub loop-i-preserved : goal.loop-i-preserved
loop-i-preserved c = turn _ c.loop-i.row c.loop-i.i c.loop-i-test.true ∙ c.loop-i.invariant

pub returns : goal.returns
unfolding masks
returns c =
    rw (drop_of_length-le c.args.words.now {i = c.loop-i.i} c.loop-i-test.false) at c.loop-i.invariant
