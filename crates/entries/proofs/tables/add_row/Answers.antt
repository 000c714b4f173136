-- `entries::tables::add_row` meets its contract: the terms are copied over their places of the array.
use native.Mathlib.Omega.{arith}
use Rattle.entries.proofs.tables.add_row.Goals as goal

pub copy-requires : goal.copy-requires
copy-requires c = omega (arith, c.requires.1)
