-- The loop leaves at the first call that is not made again. Invariant: a try is left, and no byte was taken. Measure: the tries that are left.
use Rattle.std.proofs.Common.{◌-◌, ◌<◌, []}
use Rattle.std.specs.Io.KnownBytes.{Consumes}
use Rattle.listing.specs.System.{tries_most}
use Rattle.listing.proofs.system.receive.Given as goal

abbrev pub invariant-loop-last : goal.invariant-loop-last
invariant-loop-last g l = record {
  tries : l.last.tries < tries_most;
  none : Consumes (g.R.Read.remaining l.fn.reader) (g.R.Read.remaining l.reader) [];
}

abbrev pub decreases-loop-last : goal.decreases-loop-last
decreases-loop-last g l = tries_most - l.last.tries
