-- `stream::Session::last_line` meets its contract: a line that has bytes is ended as if a line feed had come. Assumes nothing.
use Rattle.std.proofs.Common.{◌≡◌, length, arith}
use lib.Seq.{length-take-le}
use Rattle.numbers.specs.Numbers.{put}
use Rattle.stream.proofs.StreamLaws.{last_none, last_some}
use Rattle.stream.proofs.Session.last_line.Goals as goal

pub returns-then-self-eq0 : goal.returns-then-self-eq0
unfolding put
returns-then-self-eq0 c =
    let s = c.self.inside in
    let long : length c.args.self.line ≡ s.size = rw (← c.self.view_is) (length-take-le s.size s.line (omega arith)) in
    let none = last_none c.args.self long c.if-self-eq0.true in
    record { value = (rw none, omega arith); out_after = rw none }

pub returns : goal.returns
returns c =
    let s = c.self.inside in
    let long : length c.args.self.line ≡ s.size = rw (← c.self.view_is) (length-take-le s.size s.line (omega arith)) in
    let some = last_some c.args.self long c.if-self-eq0.false in
    let call = c.end_line.ensures in
    record { value = (rw some call.1, call.2); out_after = rw some call.3 }
