-- `state::store::put_rows` meets its contract, as `put_store` does: of the parts of a state in form four are stored, and each is exchanged
-- (`part_stored`). No row stands in the bytes, so all are written (`table-alone`).
use Prim.Native.Nat.{ℕ}
use mathlib.Core.Path.{◌≡◌, refl}
use mathlib.Core.List.{List}
use native.Mathlib.Omega.{arith}
use Rattle.numbers.specs.Numbers.{Bytes, tab}
use Rattle.numbers.proofs.NumberLaws.{length-bytes}
use Rattle.state.specs.Layout.{parts, state_bytes, state_of, joined}
use Rattle.state.specs.code.Tables.{table, entry_masks, table_from, store_in}
use Rattle.state.proofs.PartLaws.{part_stored}
use Rattle.state.proofs.StateLaws.{begins-form}
use Rattle.state.proofs.StoreLaws.{length-data_in, length-entries_in, data_rest, rest_stays}
use borrow.Author.Rules.{rules}
use Rattle.state.proofs.store.put_rows.Goals as goal

-- the table has no row in the bytes
table-alone : (s counts masks : List ℕ) → table_from 0 s counts masks ≡ table counts masks
unfolding entry_masks joined tab
table-alone s counts masks = refl

pub put_held-requires : goal.put_held-requires
put_held-requires c =
    let p = c.requires in
    let rest = data_rest c.args.s.now p.form.1 _ c.held-data.ensures.value in
    record { fit = (p.fit.0, p.fit.1); few = p.few; used_le_data_most = (rest.0, rest.1, p.form.0); in_place = λ i d h. absurd (omega (arith, h)) }

pub put_known-requires : goal.put_known-requires
put_known-requires c =
    let p = c.requires in
    let s = c.args.s.now in
    let rest = rest_stays s p.form.1 _ _ p.fit.0 p.few c.put_held.ensures _ c.known-entries.ensures.value in
    record { table_fits = rw (table-alone) p.table_fits; masks_len_bound = rw (table-alone) p.masks_len_bound; n_le_rows_most = (p.fit.2, omega arith, search rules); by_index = λ i h f. absurd (omega (arith, h)); used_le_entries_most = rest }

pub returns : goal.returns
unfolding Bytes parts state_bytes state_of store_in
returns c =
    let p = c.requires in
    let s = c.args.s.now in
    let begun = begins-form s p.form.1 (λ i. (c.slice_known-1.given i).fits) p.form.0 in
    let rows = part_stored 5 _ _ _ _ _ (omega arith) (length-data_in _ p.fit.0 p.few) refl begun in
    let count = part_stored 3 _ _ _ _ _ (omega arith) (length-bytes 4 _) c.put_held.ensures rows in
    let entries = part_stored 6 _ _ _ _ _ (omega arith) (length-entries_in _ _ p.table_fits p.masks_len_bound) refl count in
    let known = part_stored 4 _ _ _ _ _ (omega arith) (length-bytes 4 _) (rw (table-alone) at c.put_known.ensures) entries in
    known.stored
