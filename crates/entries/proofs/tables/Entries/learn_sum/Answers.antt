-- `entries::tables::Entries::learn_sum` meets its contract: whether an entry implies the sum is told by its terms in any form (`explained-normal`); in
-- normal form it is put last.
use mathlib.Core.Path.{◌≡◌, sym, ap, ◌∙◌}
use mathlib.Core.List.{◌++◌}
use native.Mathlib.Omega.{arith}
use lib.ListN.{length, take, drop, length-append}
use lib.Seq.{take_at}
use Rattle.predicates.specs.Predicates.{normal}
use Rattle.predicates.proofs.PredicateLaws.{normal-some}
use Rattle.predicates.proofs.PlaceLaws.{length-normal}
use Rattle.predicates.proofs.SumLaws.{padded-front}
use Rattle.entries.specs.Entries.{explained, learn}
use Rattle.entries.specs.code.Rows.{known}
use Rattle.entries.proofs.TableLaws.{explained-normal}
use Rattle.entries.proofs.tables.Entries.learn_sum.Goals as goal
use Rattle.entries.proofs.tables.Entries.learn_sum.Goals.{After-both-m, After-explained, After-normal_form-count}

-- both, one behind the other
summed : (c : After-both-m) → let a = c.args in take c.both-m.result c.both-m.new.terms ≡ a.q.now ++ a.p.now
summed c =
    let a = c.args in
    rw c.both-m.ensures.terms_after (take_at (a.q.now ++ a.p.now) _ c.both-m.result (length-append a.q.now a.p.now ∙ sym c.both-m.ensures.value))

-- their sum
made : (c : After-normal_form-count) → let a = c.args in take c.both-m.result c.both-m.new.terms ≡ a.q.now ++ a.p.now
    → take c.normal_form-count.result (c.normal_form-count.new.terms ++ drop c.both-m.result c.both-m.new.terms) ≡ normal (a.q.now ++ a.p.now)
made c both =
    (rw (c.normal_form-count.ensures.value.0, c.normal_form-count.ensures.terms_after) (padded-front _ _ _)) ∙ ap normal both

tested : (c : After-explained) → let a = c.args in take c.both-m.result c.both-m.new.terms ≡ a.q.now ++ a.p.now →
    explained (known a.self.now) (normal (a.q.now ++ a.p.now)) ≡ c.explained.result
tested c both =
    let es = known c.args.self.now in
    explained-normal es _ ∙ ap (λ l. explained es l) (sym both) ∙ sym c.explained.ensures

pub returns-then-explained-clause-entries_after : goal.returns-then-explained-clause-entries_after
unfolding learn
returns-then-explained-clause-entries_after c =
    let at = goal.at.returns-then-explained-clause-entries_after c in
    rw (tested at.After-explained (summed at.After-both-m) ∙ c.if-explained.true)

pub put_last-requires-clause-e_nonzero : goal.put_last-requires-clause-e_nonzero
put_last-requires-clause-e_nonzero c =
    let at = goal.at.put_last-requires-clause-e_nonzero c in
    let sum = c.args.q.now ++ c.args.p.now in
    let long = ap length (made at.After-normal_form-count (summed at.After-both-m)) in
    let count = length-append c.args.q.now c.args.p.now in
    (omega (arith, long, normal-some sum (omega (arith, count))), omega (arith, long, count, length-normal sum))

pub put_last-requires-clause-e_value : goal.put_last-requires-clause-e_value
put_last-requires-clause-e_value c =
    let at = goal.at.put_last-requires-clause-e_value c in
    ap (λ l. explained (known c.args.self.now) l) (made at.After-normal_form-count (summed at.After-both-m))
    ∙ tested at.After-explained (summed at.After-both-m) ∙ c.if-explained.false

pub returns-clause-entries_after : goal.returns-clause-entries_after
returns-clause-entries_after c =
    let at = goal.at.returns-clause-entries_after c in
    c.put_last.ensures.entries_after ∙ ap (λ l. learn l (known c.args.self.now)) (made at.After-normal_form-count (summed at.After-both-m))
