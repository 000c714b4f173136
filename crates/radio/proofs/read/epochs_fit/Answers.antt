-- `radio::read::epochs_fit` meets its contract: the parts of the slice are the definition's.
use Rattle.std.proofs.Common.{◌+◌, ◌≤◌, length, ◌∙◌, arith}
use Rattle.message.specs.Read.{is_ends}
use Rattle.message.proofs.WordLaws.{part_slice}
use Rattle.message.proofs.ReadLaws.{shape_out, start_bounds}
use Rattle.radio.specs.Read.{epoch_words_fit, epoch_part}
use Rattle.radio.proofs.read.epochs_fit.Goals as goal
use Rattle.radio.proofs.read.epochs_fit.Goals.{Start}

fits : (c : Start) → c.args.at + 4 ≤ length c.args.words.now
fits c =
    let shaped = shape_out c.args.at c.args.words.now c.requires.1 in
    omega (arith, shaped, start_bounds c.args.at (is_ends c.args.at c.args.words.now))

pub returns : goal.returns
unfolding epoch_words_fit epoch_part
returns c =
    let ws = c.args.words.now in
    c.names_fit.ensures ∙ rw (c.wanted.ensures, c.terms.ensures, c.sender.ensures, part_slice 1 c.args.at ws, c.requires.0)

pub bounds-words-0 : goal.bounds-words-0
bounds-words-0 c = omega (arith, fits (goal.at.bounds-words-0 c).Start)

pub slice_bounds-names_fit-end : goal.slice_bounds-names_fit-end
slice_bounds-names_fit-end c = let h = fits (goal.at.slice_bounds-names_fit-end c).Start in omega arith
