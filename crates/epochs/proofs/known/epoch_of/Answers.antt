-- `epochs::known::epoch_of` meets its contract: the byte stands at that place (`get_or_known`).
use Prim.Native.Nat.{◌+◌}
use mathlib.Core.Path.{◌∙◌}
use borrow.Author.Rules.{rules}
use Rattle.epochs.proofs.EpochLaws.{get_or_known}
use Rattle.epochs.proofs.known.epoch_of.Goals as goal

pub returns : goal.returns
returns c =
    let a = c.args in
    let small = c.type_inv.s (a.at + a.n) in
    (c.from.ensures ∙ get_or_known a.at a.n a.s.now c.requires.1, search (rules, small))
