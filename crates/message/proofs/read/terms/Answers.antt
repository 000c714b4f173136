-- `message::read::terms` meets its contract: a message of right shape has as many terms as its head counts. What the shape tells is `Shaped` of
-- `proofs.ReadLaws`.
use Rattle.std.proofs.Common.{◌≡◌, ◌+◌, ◌-◌, ◌≤◌, length, get_or, arith}
use Rattle.message.specs.Read.{term_count, is_ends, start, middle}
use Rattle.message.proofs.WordLaws.{part_slice}
use Rattle.message.proofs.ReadLaws.{Shaped, shape_out, start_bounds}
use Rattle.message.proofs.read.terms.Goals as goal
use Rattle.message.proofs.read.terms.Goals.{Start}

shaped : (c : Start) → Shaped c.args.at c.args.words.now
shaped c = shape_out c.args.at c.args.words.now c.requires

fits : (c : Start) → term_count (get_or c.args.words.now 0 0) + 4 ≤ length c.args.words.now
fits c = omega (arith, shaped c, start_bounds c.args.at (is_ends c.args.at c.args.words.now))

pub overflow_sub-end : goal.overflow_sub-end
overflow_sub-end c = omega (arith, fits (goal.at.overflow_sub-end c).Start)

pub bounds-words-0 : goal.bounds-words-0
bounds-words-0 c = omega (arith, fits (goal.at.bounds-words-0 c).Start)

pub overflow_sub-from : goal.overflow_sub-from
overflow_sub-from c = omega (arith, fits (goal.at.overflow_sub-from c).Start)

pub returns : goal.returns
unfolding middle
returns c =
    let ws = c.args.words.now in
    let last = length ws - 1 in
    let from : last - c.term_count.result ≡ start c.args.at (is_ends c.args.at ws) = omega (arith, shaped (goal.at.returns c).Start) in
    rw from (part_slice _ last ws)
