-- `message::read::check_of` meets its contract: what the 32 bits lose in wrapping lies above the low 29.
use Rattle.std.proofs.Common.{◌≡◌, ◌+◌, ◌%◌, ◌^◌, ap, ◌∙◌, arith, rules}
use Rattle.std.specs.List.{fold}
use Rattle.message.proofs.WordLaws.{fold_sum}
use Rattle.message.proofs.read.check_of.Goals as goal

pub returns : goal.returns
returns c =
    let e : c.fold.result ≡ fold (λ sum w. (sum + w) % 2 ^ 32) 0 c.args.words.now = search rules in
    (ap (λ x. x % 2 ^ 29) e ∙ fold_sum c.args.words.now, omega arith)
