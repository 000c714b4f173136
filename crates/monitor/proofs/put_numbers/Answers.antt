-- `monitor::put_numbers` meets its contract: turn i stores number i behind those before it. The mathematics is `numbers_next` of
-- `proofs.MessageCalls`.
use Rattle.std.proofs.Common.{◌≡◌, length, sym, ◌∙◌, arith}
use lib.Seq.{drop-length}
use Rattle.numbers.specs.Numbers.{put}
use Rattle.state.specs.Layout.{joined}
use Rattle.monitor.specs.Ask.{wide}
use Rattle.monitor.proofs.MessageCalls.{numbers_next}
use Rattle.monitor.proofs.put_numbers.Goals as goal

pub loop-i-preserved : goal.loop-i-preserved
loop-i-preserved c =
    let turn = numbers_next c.loop-i.i c.args.numbers.now c.loop-i.out c.loop-i-test.true in
    (omega arith, rw c.put64.ensures (sym turn ∙ c.loop-i.invariant.1))

pub returns : goal.returns
unfolding put wide joined
returns c =
    let done : c.loop-i.i ≡ length c.args.numbers.now = omega arith in
    rw (done, drop-length) at c.loop-i.invariant.1
