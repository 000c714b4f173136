-- `Table::list_entries` meets its contract: the test is that the row is an entry.
use Rattle.std.proofs.Common.{◌≡◌, rules, ltb}
use lib.ListN.{length, take}
use lib.Seq.{length-take-le}
use Rattle.search.proofs.stretches.Table.list_entries.Goals as goal

pub returns-clause-fact : goal.returns-clause-fact
returns-clause-fact c =
    let t = c.args.self.now in
    let long : length (take (length t.rows.now) t.order.now) ≡ length t.rows.now = length-take-le _ t.order.now c.args.self.now.ready.ordered in
    rw long at (c.list.ensures.fact (λ k. ltb k t.entries) (λ j r h p. search rules))
