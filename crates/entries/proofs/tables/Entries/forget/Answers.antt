-- `entries::tables::Entries::forget` meets its contract: row by row, a row that e implies is given up.
use Prim.Native.Nat.{◌<◌}
use mathlib.Core.Path.{◌≡◌, refl, sym, ap, ◌∙◌}
use mathlib.Core.Bool.{true, false}
use mathlib.Core.List.{◌++◌}
use native.Mathlib.Omega.{arith}
use lib.ListN.{length, get_or, length-set}
use Rattle.predicates.specs.Predicates.{implies}
use Rattle.state.specs.code.Tables.{entry_masks}
use Rattle.entries.specs.code.Rows.{row_in}
use Rattle.entries.proofs.TableLaws.{given_up-none, given_up_at, given_up-turn, table_gone, marked_gone, row_count, left-given_up}
use Rattle.entries.proofs.tables.Entries.forget.Goals as goal
use Rattle.entries.proofs.tables.Entries.forget.Goals.{else-implies_row, then-implies_row}

pub loop-i-init : goal.loop-i-init
loop-i-init c = (sym (given_up-none _ _), refl, refl, refl, refl, refl, refl, refl)

pub invariant_of-self : goal.invariant_of-self
invariant_of-self c =
    let s = c.loop-i.self in
    let whole = entry_masks s.first s.state.now ++ s.masks.now in
    let near : c.loop-i.i < length s.counts.now = omega (arith, s.fits.counted, c.loop-i-test.true, c.loop-i.invariant.4) in
    record { own = s.own; fits = table_gone s.counts.now whole c.loop-i.i near 16 s.n s.fits; marked = marked_gone s.counts.now whole c.loop-i.i near s.n s.marks.now s.marked }

pub loop-i-preserved : goal.loop-i-preserved
loop-i-preserved c =
    let i = c.loop-i.i in
    let s = c.loop-i.self in
    let a = c.args.self.now in
    let inv = c.loop-i.invariant in
    let same : get_or s.counts.now i 0 ≡ get_or a.counts.now i 0 = ap (λ l. get_or l i 0) inv.0 ∙ given_up_at _ _ i in
    let near : i < length a.counts.now = omega (arith, a.fits.counted, c.loop-i-test.true) in
    let row : row_in s i ≡ row_in a i =
    rw (inv.2, inv.3, inv.6) (row_count 16 i a.counts.now s.counts.now (entry_masks a.first a.state.now ++ a.masks.now) same) in
    let test = c.implies_row.ensures ∙ ap (λ p. implies c.args.e.now p) row in
    elim c.if-implies_row.branch [
      | then-implies_row w ↦ rw w.self-is (given_up-turn _ _ s.counts.now _ i true near inv.0 (sym w.if-implies_row.true ∙ test) refl, simp length-set inv.1, inv.2, inv.3, inv.4, inv.5, inv.6, inv.7)
      | else-implies_row w ↦ rw w.self-is (given_up-turn _ _ s.counts.now _ i false near inv.0 (sym w.if-implies_row.false ∙ test) refl, inv.1, inv.2, inv.3, inv.4, inv.5, inv.6, inv.7)
    ]

pub returns-clause-counts_after : goal.returns-clause-counts_after
returns-clause-counts_after c =
    let done : c.loop-i.i ≡ c.args.self.now.n = omega arith in
    rw done at c.loop-i.invariant.0

pub returns-clause-kept : goal.returns-clause-kept
returns-clause-kept c =
    let inv = c.loop-i.invariant in
    let done : c.loop-i.i ≡ c.args.self.now.n = omega arith in (
      inv.2,
      inv.3,
      omega (arith, inv.4),
      left-given_up _ _ _ _ (rw done at inv.0),
      inv.1,
      ap (λ m. length m.now) inv.6,
      ap (λ m. length m.now) inv.7,
      inv.5,
      ap (λ m. m.ghost_name) inv.6,
      ap (λ m. m.ghost_name) inv.7,
    )
