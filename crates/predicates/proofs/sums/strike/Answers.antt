-- `predicates::sums::strike` meets its contract: a sifting by the name alone (`struck-sifted`).
use mathlib.Core.Path.{ap, ◌∙◌}
use Prim.Native.Nat.{ℕ}
use mathlib.Core.List.{List, []}
use borrow.Author.Rules.{rules}
use lib.ListN.{length}
use Rattle.names.specs.Sets.{has}
use Rattle.predicates.specs.Lists.{padded}
use Rattle.predicates.proofs.SumLaws.{struck-sifted}
use Rattle.predicates.proofs.sums.strike.Goals as goal

pub returns : goal.returns
returns c =
    let l = c.args.terms.now in
    let made = c.sift.ensures in
    let same = struck-sifted c.args.name [] l in
    let value = made.value (λ k t. has c.args.name t) (λ kept t r p. search rules) in
    let after = made.terms_after (λ k t. has c.args.name t) (λ kept t r p. search rules) in
    record { value = (value ∙ ap length same, made.within); terms_after = after ∙ ap (λ (x : List ℕ). padded (length l) x) same }
