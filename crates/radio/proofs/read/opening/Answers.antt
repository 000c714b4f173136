-- `radio::read::opening` meets its contract: the epoch words begin behind the head.
use Rattle.std.proofs.Common.{◌≡◌, drop, ◌∙◌, arith, rules}
use Rattle.message.proofs.WordLaws.{part_rest}
use Rattle.radio.specs.Read.{leading, epoch_count}
use Rattle.radio.proofs.ReadLaws.{opening_le}
use Rattle.radio.proofs.read.opening.Goals as goal
use Rattle.radio.proofs.read.opening.Goals.{After-leading}

count : (c : After-leading) → c.leading.result ≡ leading (drop 1 c.args.words.now)
count c = c.leading.ensures ∙ rw (part_rest 1 c.args.words.now)

pub overflow_add-result : goal.overflow_add-result
unfolding epoch_count
overflow_add-result c =
    let known = count (goal.at.overflow_add-result c).After-leading in
    let le = opening_le c.args.words.now in
    search rules

pub returns : goal.returns
unfolding epoch_count
returns c =
    let known = count (goal.at.returns c).After-leading in
    omega (arith, opening_le c.args.words.now)
