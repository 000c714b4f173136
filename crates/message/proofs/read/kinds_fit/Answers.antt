-- `message::read::kinds_fit` meets its contract: the parts that are tested are the definition's.
use Rattle.std.proofs.Common.{ℕ, ◌+◌, ◌-◌, Bool, ◌&&◌, List, length, ap, ◌∙◌, ap₂}
use Rattle.message.specs.Words.{of_kind}
use Rattle.message.specs.Read.{middle, kinds_fit}
use Rattle.message.proofs.WordLaws.{part_kind, part_rest}
use Rattle.message.proofs.read.kinds_fit.Goals as goal

pub returns : goal.returns
unfolding kinds_fit middle
returns c =
    let a = c.args in
    let words = a.words.now in
    let last = length words - 1 in
    let last-kind = c.of_kind-2.ensures ∙ ap (λ (l : List ℕ). of_kind 7 l) (part_rest last words) in
    rw (← c.width.ensures.0) (ap₂ (λ (x y : Bool). x && y) c.span_kinds.ensures
    (ap₂ (λ (x y : Bool). x && y) (part_kind 6 (a.at + c.width.result) last words c.of_kind.ensures) last-kind))
