-- `predicates::marks::names_alone` meets its contract: the names that each term adds alone.
use mathlib.Core.Path.{◌≡◌, ◌∙◌}
use mathlib.Core.List.{◌∷◌, []}
use borrow.Author.Rules.{rules}
use Rattle.std.specs.List.{fold}
use Rattle.names.specs.Sets.{set_union}
use Rattle.names.proofs.SetLaws.{union_comm, union-none}
use Rattle.predicates.specs.code.Marks.{singles}
use Rattle.predicates.proofs.MarkLaws.{fold-singles}
use Rattle.predicates.proofs.marks.names_alone.Goals as goal

pub returns : goal.returns
returns c =
    let p = c.args.p.now in
    let e : c.fold.result ≡ fold (λ a t. set_union a (singles (t ∷ []))) 0 p = search rules in
    e ∙ fold-singles 0 p ∙ union_comm 0 (singles p) ∙ union-none (singles p)
