-- `state::holding::Held::new` meets its contract: the terms are copied into zeros.
use Prim.Native.Nat.{ℕ, ◌-◌}
use mathlib.Core.Path.{◌≡◌, refl, ap, ◌∙◌}
use mathlib.Core.List.{List, ◌++◌}
use lib.ListN.{length, take, drop, replicate}
use lib.Seq.{take_at}
use Rattle.std.proofs.lemmas.List.{drop-replicate}
use Rattle.predicates.specs.Lists.{padded}
use Rattle.state.specs.code.Tables.{terms_of, datum_of, datum_in}
use Rattle.state.proofs.holding.Held.new.Goals as goal

pub returns : goal.returns
unfolding padded datum_in terms_of
returns c =
    let p = c.args.p.now in
    let filled = ap (λ (l : List ℕ). l ++ drop (length p) (replicate 8 0)) c.copy_from_slice.ensures.after ∙ ap (λ (l : List ℕ). p ++ l) (drop-replicate (length p) 8 0) in
    (ap (λ (l : List ℕ). datum_of c.args.ends l) (ap (λ (l : List ℕ). take (length p) l) filled ∙ take_at p (replicate (8 - length p) 0) (length p) refl), refl, refl, filled)
