-- `state::store::put_known` meets its contract: turn i writes entry i behind those before it, leaves it where it stands in its place already, or passes
-- it over where it has been given up; then come zeros in the places left over (`entries-put`), and the count.
use Prim.Native.Nat.{ℕ}
use mathlib.Core.Path.{◌≡◌, ap₂, ◌∙◌}
use mathlib.Core.List.{List}
use native.Mathlib.Omega.{arith}
use lib.ListN.{length}
use Rattle.numbers.specs.Numbers.{tab, bytes, put}
use Rattle.state.specs.Layout.{known_at, entry_bytes}
use Rattle.state.specs.code.Tables.{entries_in}
use Rattle.state.proofs.PutLaws.{entries-put}
use Rattle.state.proofs.StoreLaws.{written_none, entries_skip, entries-room, room-behind, length-behind_le, entry_stored, entry_moved, entry_stays}
use borrow.Author.Rules.{rules}
use Rattle.state.proofs.store.put_known.Goals as goal
use Rattle.state.proofs.store.put_known.Goals.{else-count-gt0, then-count-gt0, then-first-i, else-first-i+then-r-i, else-first-i+else-r-i}

pub loop-i-init : goal.loop-i-init
unfolding entries_in tab
loop-i-init c = (search rules, written_none entry_bytes 68 984 _)

pub overflow_add-to : goal.overflow_add-to
overflow_add-to c =
    omega (arith, c.requires.table_fits.narrow c.loop-i.i)

pub slice_bounds-put_entry-end : goal.slice_bounds-put_entry-end
slice_bounds-put_entry-end c =
    room-behind _ c.loop-i.i _ _ _ _ c.requires.table_fits c.loop-i-test.true c.if-first-i.true

pub put_entry-requires : goal.put_entry-requires
put_entry-requires c = (
  entries-room _ c.loop-i.i _ _ c.requires.table_fits c.loop-i-test.true _ _ _ c.loop-i.invariant.1 _ c.if-count-gt0.true c.requires.masks_len_bound,
  length-behind_le _ c.loop-i.i _ _ _ _ c.requires.table_fits c.if-first-i.true,
  omega arith,
)

pub move_entry-requires : goal.move_entry-requires
move_entry-requires c =
    (omega arith, omega arith, c.requires.table_fits.narrow c.loop-i.i, omega arith)

pub loop-i-preserved : goal.loop-i-preserved
loop-i-preserved c =
    let turn = c.loop-i-test.true in
    let w = c.loop-i.invariant.1 in
    elim c.if-count-gt0.branch [
      | then-count-gt0 live ↦ (
        omega arith,
        rw (live.s-is, live.r-is)
            (elim live.if-first-i.branch [
              | then-first-i v ↦ rw v.s-is (entry_stored _ _ c.loop-i.i _ _ _ c.requires.table_fits turn _ _ w live.if-count-gt0.true _ v.if-first-i.true v.put_entry.ensures)
              | else-first-i+then-r-i v ↦ rw v.s-is (entry_moved _ _ c.loop-i.i _ _ _ c.requires.table_fits turn _ _ w live.if-count-gt0.true _ v.if-first-i.false c.loop-i.invariant.0 v.move_entry.ensures)
              | else-first-i+else-r-i v ↦ rw v.s-is (entry_stays _ _ c.loop-i.i _ _ _ c.requires.table_fits turn _ _ w live.if-count-gt0.true v.if-r-i.false c.loop-i.invariant.0
                  (c.requires.by_index c.loop-i.i v.if-first-i.false (λ e. omega arith)))
            ]),
      )
      | else-count-gt0 gone ↦ (omega arith, rw (gone.s-is, gone.r-is) (entries_skip _ c.loop-i.i _ _ c.requires.table_fits turn _ _ _ w gone.if-count-gt0.false))
    ]

pub returns : goal.returns
returns c =
    let p = c.requires in
    let done : c.loop-i.i ≡ length c.args.counts.now = omega arith in
    let all = rw done at c.loop-i.invariant.1 in
    c.put32.ensures
    ∙ ap₂ (λ (n : ℕ) (l : List ℕ). put known_at (bytes 4 n) l) all.counted
    (entries-put _ _ _ _ _ _ all.counted all.sized p.masks_len_bound p.used_le_entries_most.0 p.n_le_rows_most.2 p.used_le_entries_most.1 all.stored c.clear.ensures)
