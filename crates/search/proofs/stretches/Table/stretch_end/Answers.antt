-- `Table::stretch_end` meets its contract: no right end from x on is before the least of them, and so before a left end that is not beyond it.
use Rattle.std.proofs.Common.{rules}
use lib.ListN.{length}
use Rattle.search.specs.code.LeftEnds.{Next, rights_of}
use Rattle.search.proofs.StretchLaws.{stretch_in, stretch_at, stretch-last}
use Rattle.search.proofs.stretches.Table.stretch_end.Goals as goal

pub returns : goal.returns
returns c =
    let t = c.args.self.now in
    let next : Next (rights_of t.ends.now) t.entries (length t.rows.now) c.args.x c.unwrap_or-roof.result =
    rw c.unwrap_or-roof.ensures (c.next_end.ensures.next (λ s. s.right) (λ s r p. search rules)) in
    let last = c.last_end.ensures in
    (stretch_in _ _ _ _ _ _ _ next last, stretch_at _ _ _ _ _ _ last, stretch-last _ _ _ _ _ _ _ next last c.args.self.now.ready.below)
