-- `state::form::row_fits` meets its contract: too few and too many terms are refused, and else the masks that `get_words` reads are tested
-- (`row-tests`).
use Prim.Native.Nat.{ℕ, ◌+◌, ◌*◌, ◌≤◌}
use mathlib.Core.Path.{◌≡◌, sym, ap, ◌∙◌}
use mathlib.Core.List.{List, ◌++◌}
use native.Mathlib.Omega.{arith}
use lib.ListN.{length, take, drop, replicate, length-append}
use Rattle.numbers.specs.Numbers.{num, tab}
use lib.Seq.{length-take-le}
use Rattle.state.specs.Layout.{masks_at}
use Rattle.state.proofs.FormLoops.{row-none, row_many, row-tests}
use borrow.Author.Rules.{rules}
use Rattle.state.proofs.form.row_fits.Goals as goal
use Rattle.state.proofs.form.row_fits.Goals.{then-n-lt1-via-then-n-lt1, then-n-lt1-via-else-n-lt1+then-width-n}

-- of a row that was read into the front of an array there are as many terms as the width
long : (n width : ℕ) (w z : List ℕ) → length w ≡ width → n ≤ width → length (take n (w ++ drop width z)) ≡ n
long n width w z e h = length-take-le n (w ++ drop width z) (omega (arith, length-append w (drop width z), e))

pub slice_bounds-terms_fit-end : goal.slice_bounds-terms_fit-end
slice_bounds-terms_fit-end c = sym (long _ _ _ _ (c.get_words.auto.out ∙ length-take-le _ _ c.requires.0) (search rules))

pub returns-then-n-lt1 : goal.returns-then-n-lt1
returns-then-n-lt1 c =
    elim c.then-n-lt1.branch [ then-n-lt1-via-then-n-lt1 w ↦ sym (row-none _ _ _ _ _ c.get32-n.ensures.0 w.if-n-lt1.true) | then-n-lt1-via-else-n-lt1+then-width-n w ↦ sym (row_many _ _ _ _ _ c.get32-n.ensures.0 w.if-n-lt1.false w.if-width-n.true) ]

pub returns : goal.returns
unfolding masks_at
returns c =
    let n : length (take c.args.width (replicate 16 0)) ≡ c.args.width = length-take-le c.args.width (replicate 16 0) c.requires.0 in
    let words = c.get_words.ensures ∙ ap (λ (k : ℕ). tab k (λ i. num (c.args.at + 4 + i * 4) 4 c.args.s.now)) n in
    row-tests _ _ _ _ _ c.get32-n.ensures.0 _ (drop c.args.width (replicate 16 0)) _ _ c.if-n-lt1.false c.if-width-n.false
    (ap (λ (l : List ℕ). l ++ drop c.args.width (replicate 16 0)) words) c.terms_fit.ensures c.all_zero.ensures
