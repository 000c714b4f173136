-- `Table::list_outside` meets its contract: the test is that the interval lacks the instant.
use Rattle.std.proofs.Common.{ℕ, ◌≡◌, ◌∙◌, rules, ◌||◌, ltb}
use Rattle.search.specs.code.LeftEnds.{outside, rights_of, lefts_of}
use lib.ListN.{length, get_or, take}
use lib.Seq.{length-take-le}
use Rattle.search.proofs.EndSteps.{outside-spans}
use Rattle.search.proofs.stretches.Table.list_outside.Goals as goal

pub returns-clause-fact : goal.returns-clause-fact
returns-clause-fact c =
    let t = c.args.self.now in
    let row : ℕ → ℕ = λ j. get_or (take (length t.rows.now) t.order.now) j 0 in
    let long : length (take (length t.rows.now) t.order.now) ≡ length t.rows.now = length-take-le _ t.order.now c.args.self.now.ready.ordered in
    rw long at (c.list.ensures.fact (outside (lefts_of t.ends.now) (rights_of t.ends.now) c.args.x) (λ j r h p.
    let q : r ≡ (ltb c.args.x (get_or t.ends.now (row j) (record { left = 0; right = 0 })).left || ltb (get_or t.ends.now (row j) (record { left = 0; right = 0 })).right c.args.x) = search rules in
    q ∙ outside-spans t.ends.now c.args.x (row j)))
