-- `asking::one::widened` meets its contract: one test.
use borrow.Author.Tests.{lt-ltb, le-ltb}
use mathlib.Core.Path.{refl}
use Rattle.asking.proofs.one.widened.Goals as goal

pub returns-then-b : goal.returns-then-b
returns-then-b c = rw (lt-ltb _ _ c.if-b.true) (refl, refl)

pub returns : goal.returns
returns c = rw (le-ltb _ _ c.if-b.false) (c.min.ensures, c.max.ensures)
