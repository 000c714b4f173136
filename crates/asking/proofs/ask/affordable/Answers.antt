-- `asking::ask::affordable` meets its contract: two tests.
use mathlib.Core.Path.{refl}
use borrow.Author.Tests.{lt-leb, le-leb}
use Rattle.asking.proofs.ask.affordable.Goals as goal

pub returns-then-limit-rows : goal.returns-then-limit-rows
returns-then-limit-rows c = rw (lt-leb c.args.rows c.args.limit c.if-limit-rows.true) refl

pub returns : goal.returns
returns c =
    rw (le-leb c.args.rows c.args.limit c.if-limit-rows.false) c.within.ensures
