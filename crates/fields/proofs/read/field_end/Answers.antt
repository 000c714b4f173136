-- `fields::read::field_end` meets its contract: a space that is found ends the field, and else the line does. The mathematics is `space_some` and
-- `space-none` of `proofs.FieldLaws`. Assumes nothing.
use Rattle.std.proofs.Common.{◌-◌, length, drop, length-drop, sym, ◌∙◌, arith}
use Rattle.std.proofs.Math.Seq.{take_all}
use Rattle.fields.proofs.FieldLaws.{space_some, space-none}
use Rattle.fields.proofs.read.field_end.Goals as goal

pub returns-in-Some : goal.returns-in-Some
returns-in-Some c =
    let rest = drop c.args.at c.args.line.now in
    let whole = take_all (length c.args.line.now - c.args.at) rest (omega (arith, length-drop c.args.at c.args.line.now)) in
    let first = space_some rest c.in-Some.before (rw whole at (sym c.first_space.ensures ∙ c.in-Some.is)) in
    (omega arith, omega arith, omega (arith, length-drop c.args.at c.args.line.now))

pub returns-in-None : goal.returns-in-None
returns-in-None c =
    let rest = drop c.args.at c.args.line.now in
    let whole = take_all (length c.args.line.now - c.args.at) rest (omega (arith, length-drop c.args.at c.args.line.now)) in
    let none = space-none rest (rw whole at (sym c.first_space.ensures ∙ c.in-None.is)) in
    (omega (arith, length-drop c.args.at c.args.line.now), omega arith, omega arith)
