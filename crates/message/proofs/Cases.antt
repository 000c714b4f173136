-- The tests on the way to a return, as equations for `search`: `search cases` closes a return against a definition by `cond` on
-- `ltb`, `leb` and `eqb`. Assumes nothing.
use Rattle.std.proofs.Common.{le-ltb, lt-ltb, eq-eqb, ne_eqb, le-leb}
use borrow.Author.Tests.{lt-leb}

pub ruleset cases = (lt-ltb, le-ltb, le-leb, lt-leb, eq-eqb, ne_eqb)
