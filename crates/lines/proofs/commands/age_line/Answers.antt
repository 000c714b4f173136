-- `lines::commands::age_line` meets its contract: one field ages the state; other fields are a bad line. Assumes nothing.
use Rattle.std.proofs.Common.{◌≡◌, length, refl, arith}
use borrow.Author.Tests.{eq-eqb, ne_eqb}
use Rattle.lines.specs.Lines.{age_line, bad_line}
use Rattle.lines.proofs.commands.age_line.Goals as goal

pub returns-in_default : goal.returns-in_default
unfolding age_line bad_line
returns-in_default c =
    let none = ne_eqb _ _ (λ (e : length c.args.values.now ≡ 1). omega arith) in
    (rw none, (rw none, refl))

pub returns-in_default-2 : goal.returns-in_default-2
unfolding age_line bad_line
returns-in_default-2 c =
    let more = ne_eqb _ _ (λ (e : length c.args.values.now ≡ 1). omega arith) in
    (rw more, (rw more, refl))

pub returns : goal.returns
unfolding age_line bad_line
returns c =
    let is : length c.args.values.now ≡ 1 = omega arith in
    let one = eq-eqb _ _ is in
    let aged = c.monitor_age-number.ensures in
    let printed = c.put_number.ensures in
    (rw one aged.state_after, (rw (one, ← aged.value) printed.value, rw (one, ← aged.value) printed.out_after))
