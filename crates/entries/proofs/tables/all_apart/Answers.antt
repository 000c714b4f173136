-- `entries::tables::all_apart` meets its contract: no mark is within the bound (`marks_apart`).
use mathlib.Core.Path.{sym, ◌∙◌}
use native.Mathlib.Omega.{arith}
use borrow.Author.Rules.{rules}
use Rattle.entries.proofs.TableLaws.{marks_apart}
use Rattle.entries.proofs.tables.all_apart.Goals as goal

pub returns : goal.returns
returns c h = marks_apart c.args.marks.now c.args.bound (λ i. omega (arith, c.type_inv.marks i)) (sym c.any_may_imply.ensures ∙ (search rules))
