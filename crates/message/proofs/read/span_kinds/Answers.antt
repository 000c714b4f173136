-- `message::read::span_kinds` meets its contract: the parts that are tested are the definition's.
use Rattle.std.proofs.Common.{◌+◌, Bool, ◌&&◌, ap₂}
use Rattle.message.specs.Read.{span_kinds}
use Rattle.message.proofs.WordLaws.{part_kind}
use Rattle.message.proofs.read.span_kinds.Goals as goal

pub returns-then-ends : goal.returns-then-ends
unfolding span_kinds
returns-then-ends c =
    let a = c.args in
    let words = a.words.now in
    let at = a.at in
    rw c.if-ends.true (ap₂ (λ (x y : Bool). x && y) (part_kind 2 at (at + 2) words c.of_kind.ensures) (part_kind 3 (at + 2) (at + 4) words c.of_kind-then-ends.ensures))

pub returns : goal.returns
unfolding span_kinds
returns c =
    let a = c.args in
    let words = a.words.now in
    let at = a.at in
    rw c.if-ends.false (ap₂ (λ (x y : Bool). x && y) (part_kind 4 at (at + 2) words c.of_kind-2.ensures) (part_kind 5 (at + 2) (at + 3) words c.of_kind-3.ensures))
