-- The loop leaves where the text is written, or behind a call that moved nothing and is not made again. Invariant: no more is written than the text
-- has, the last call goes on unless bytes are left, and what was written stands behind the writer's bytes. Measure: what is left of the text and of the
-- tries.
use Rattle.std.proofs.Common.{◌≤◌, ◌||◌, T, ltb, length, take}
use Rattle.std.specs.Io.KnownBytes.{Appends}
use Rattle.listing.specs.System.{goes_on}
use Rattle.listing.proofs.SystemLaws.{writes_left}
use Rattle.listing.proofs.system.send.Given as goal

abbrev pub invariant-loop-at : goal.invariant-loop-at
invariant-loop-at g l = record {
  within : l.at ≤ length l.text;
  next : T (ltb l.at (length l.text) || goes_on l.last);
  bytes : Appends (g.W.Write.contents l.fn.writer) (g.W.Write.contents l.writer) (take l.at l.text);
}

abbrev pub decreases-loop-at : goal.decreases-loop-at
decreases-loop-at g l = writes_left (length l.text) l.at l.last
