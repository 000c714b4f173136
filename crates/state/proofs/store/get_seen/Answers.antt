-- `state::store::get_seen` meets its contract: in form the masks that are read are those in use and zeros, which stay where no name counts as failed
-- (`seen_read`), and else the terms in use are withdrawn (`seen_withdrawn`).
use mathlib.Core.Path.{◌≡◌, sym, ap, ◌∙◌}
use mathlib.Core.List.{List, ◌++◌}
use Prim.Native.Nat.{ℕ}
use native.Mathlib.Omega.{arith}
use lib.ListN.{length, take, drop}
use lib.Seq.{length-take-le}
use Rattle.predicates.specs.Lists.{padded}
use Rattle.epochs.specs.Epochs.{withdraw}
use Rattle.state.proofs.FormLaws.{row_le}
use Rattle.state.proofs.SeenLaws.{row-normal, seen_read, taken-read, length-read, seen_withdrawn}
use Rattle.state.proofs.store.get_seen.Goals as goal

pub returns-then-risen-eq0 : goal.returns-then-risen-eq0
returns-then-risen-eq0 c =
    let made = seen_read _ (length c.args.row.now) c.args.at c.args.s.now c.requires.t _ c.get_words.ensures _ _ c.if-risen-eq0.true c.get32-used.ensures.0 in record { value = made.0; row_after = made.1 }

pub withdraw-requires : goal.withdraw-requires
withdraw-requires c =
    rw (taken-read _ (length c.args.row.now) c.args.at c.args.s.now c.requires.t _ c.get_words.ensures _ c.get32-used.ensures.0)
    (row-normal _ (length c.args.row.now) c.args.at c.args.s.now c.requires.t)

pub returns : goal.returns
returns c =
    let row = c.args.row.now in
    let words = c.get_words.new.out in
    let n = c.get32-used.result in
    let made = c.withdraw.ensures in
    let used = c.get32-used.ensures.0 in
    let few = row_le _ (length row) c.args.at c.args.s.now c.requires.t in
    let taken = taken-read _ (length row) c.args.at c.args.s.now c.requires.t _ c.get_words.ensures _ used in
    let held : length (take n words) ≡ n = length-take-le n words (length-read _ (length row) c.args.at c.args.s.now c.requires.t _ c.get_words.ensures _ used) in
    let lent = made.terms_after ∙ ap (λ (k : ℕ). padded k (withdraw c.args.risen (take n words))) held in
    record {
      value = (made.value.0 ∙ ap (λ (l : List ℕ). length (withdraw c.args.risen l)) taken, omega (arith, made.value.1, held, used, few));
      row_after =
          seen_withdrawn _ (length row) c.args.at c.args.s.now c.requires.t _ c.get_words.ensures _ used _ _ (ap (λ (l : List ℕ). l ++ drop n words) lent);
    }

pub slice_bounds-withdraw-end : goal.slice_bounds-withdraw-end
slice_bounds-withdraw-end c = length-read _ (length c.args.row.now) c.args.at c.args.s.now c.requires.t _ c.get_words.ensures _ c.get32-used.ensures.0

pub slice_bounds-withdraw-end-2 : goal.slice_bounds-withdraw-end-2
slice_bounds-withdraw-end-2 c =
    sym (length-take-le _ _ (length-read _ (length c.args.row.now) c.args.at c.args.s.now c.requires.t _ c.get_words.ensures _ c.get32-used.ensures.0))
