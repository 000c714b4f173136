-- `claims::keys::get_ends` meets its contract: counts where they fit, ranks where they do not.
use mathlib.Core.Path.{◌≡◌, refl, ◌∙◌}
use borrow.Author.Rules.{rules}
use Rattle.ends.specs.Ends.{count_of}
use Rattle.claims.specs.code.Keys.{count_from, rank_key}
use Rattle.claims.proofs.KeyLaws.{counts_fit, counts_pass, counts_key, ranks_key, scale_counted, scale_ranked, ends-stored, ends-counted}
use Rattle.claims.proofs.keys.get_ends.Goals as goal

pub put_keys-requires-clause-callable : goal.put_keys-requires-clause-callable
put_keys-requires-clause-callable c i h =
    let form = c.args.s.sound in
    let r = c.reach_of-held.ensures in
    let near = ends-counted _ form i h _ refl _ (counts_fit _ _ _ r.0 r.1 c.if-held.true, r.0) in
    let stored = ends-stored _ form i h _ refl in
    (λ _ _ _ _ _. (stored.0.0, near.0.0, near.0.1), λ _ _ _ _ _. (stored.1.0, near.1.0, near.1.1))

pub put_keys-requires-clause-keyed : goal.put_keys-requires-clause-keyed
put_keys-requires-clause-keyed c e v p =
    let r = c.reach_of-held.ensures in
    let made : v ≡ count_from c.reach_of-held.result.first (count_of e) = search rules in
    made ∙ counts_key _ _ (counts_fit _ _ _ r.0 r.1 c.if-held.true, r.0) (count_of e)

pub returns-then-held-clause-value : goal.returns-then-held-clause-value
returns-then-held-clause-value c =
    let r = c.reach_of-held.ensures in
    scale_counted _ _ r.0 (counts_fit _ _ _ r.0 r.1 c.if-held.true)

pub put_keys-requires-2-clause-callable : goal.put_keys-requires-2-clause-callable
put_keys-requires-2-clause-callable c i h =
    let stored = ends-stored _ c.args.s.sound i h _ refl in
    (λ _ _ _ _. stored.0, λ _ _ _ _. stored.1)

pub put_keys-requires-2-clause-keyed : goal.put_keys-requires-2-clause-keyed
put_keys-requires-2-clause-keyed c e v p =
    let r = c.reach_of-held.ensures in
    let made : v ≡ rank_key c.parts_of-parts.result (count_of e) = search rules in
    made ∙ ranks_key _ _ (counts_pass _ _ _ r.0 r.1 c.if-held.false) c.parts_of-parts.ensures (count_of e)

pub returns-clause-value : goal.returns-clause-value
returns-clause-value c =
    let r = c.reach_of-held.ensures in
    scale_ranked _ (counts_pass _ _ _ r.0 r.1 c.if-held.false)
