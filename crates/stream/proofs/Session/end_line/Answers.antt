-- `stream::Session::end_line` meets its contract: no answer is longer than 64 bytes (`line_short` of `lines`), and of the line zeros are left
-- (`zeros_line` of `proofs.StreamLaws`). Assumes nothing.
use Rattle.std.proofs.Common.{◌≡◌, ℕ, length, take, arith}
use lib.ListN.{replicate, length-replicate}
use lib.Seq.{length-take-le}
use Rattle.stream.specs.Kept.{result_of}
use Rattle.lines.proofs.ResultLaws.{line_short}
use Rattle.stream.proofs.StreamLaws.{zeros_line}
use Rattle.stream.proofs.Session.end_line.Goals as goal

pub invariant_of-self : goal.invariant_of-self
invariant_of-self c =
    let s = c.self.inside in
    let held = c.self.invariant in
    let long : length (take s.size s.line) ≡ s.size = length-take-le s.size s.line (omega arith) in
    let zeros : c.fill.new.self ≡ replicate s.size 0 = rw long at (c.fill.ensures.after (λ y e. e)) in
    let line = zeros_line s.line c.fill.new.self s.size held.2 held.0 zeros in
    (omega arith, rw line (length-replicate {A = ℕ} 601 0), line)

pub returns : goal.returns
unfolding result_of
returns c =
    let is = c.self.view_is in
    let call = c.answer-filled.ensures in
    (rw (← is) (rw (call.0, call.2)), rw (← is) call.1, rw call.1 (line_short _ _ _), rw (← is) call.3)
