-- Invariant: of an input of as many bytes as were read, what is kept and the count of what was handed on are those of the definition, and the counts
-- agree with the last calls. Measure: the bytes that may still be read, while the run goes on.
use Rattle.std.proofs.Common.{◌≡◌, ◌+◌, ◌<◌, T}
use Rattle.listing.specs.System.{is_end}
use Rattle.listing.specs.Run.{read_most, Passed, CallsTell}
use Rattle.listing.specs.code.Turns.{piece_most}
use Rattle.listing.proofs.RunLaws.{read_left}
use Rattle.listing.proofs.take_all.Given as goal

abbrev pub invariant-loop-progress : goal.invariant-loop-progress
invariant-loop-progress g l = record {
  bounded : l.progress.tally.read < read_most + piece_most;
  passed : Passed (g.R.Read.remaining l.fn.reader) (g.R.Read.remaining l.reader) (g.W.Write.contents l.fn.writer) (g.W.Write.contents l.writer)
      l.progress.tally l.progress.session;
  tells : CallsTell l.progress.tally;
  whole : T (is_end l.progress.tally.input.got) → l.progress.tally.written ≡ l.progress.tally.handed;
}

abbrev pub decreases-loop-progress : goal.decreases-loop-progress
decreases-loop-progress g l = read_left l.progress.tally
