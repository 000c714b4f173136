-- `state::store::put_store` meets its contract: of the parts of a state in form four are stored, the data, the held count, the entries and the
-- entry count, and each is exchanged (`part_stored`). The places behind those in use are zero (`data_rest`, `rest_stays`), and what is not given
-- up stands in its place (`data_stand`, `entries_stand`): the data are written in front of the entries, which stay (`table_stays`).
use Prim.Native.Nat.{ℕ, ◌≤◌}
use mathlib.Core.Path.{◌≡◌, refl}
use mathlib.Core.List.{List}
use native.Mathlib.Omega.{arith}
use lib.ListN.{length}
use Rattle.numbers.specs.Numbers.{Bytes, bytes, put}
use Rattle.numbers.proofs.NumberLaws.{length-bytes}
use Rattle.state.specs.Layout.{parts, state_bytes, state_of, known_at, entries_at, entries_most, entry_terms, entries_bytes}
use Rattle.state.specs.code.Tables.{Table, TableFits, store_in, entries_in}
use Rattle.state.proofs.PartLaws.{part_stored}
use Rattle.state.proofs.StateLaws.{begins-form}
use Rattle.state.proofs.StoreLaws.{length-data_in, length-entries_in, data_rest, data_stand, rest_stays, table_stays, entries_stand}
use borrow.Author.Rules.{rules}
use Rattle.state.proofs.store.put_store.Goals as goal

-- what is said of a table, of one that is the same
fits-same : (n : ℕ) (t₀ t : Table) → t ≡ t₀ → TableFits entry_terms n t₀ → TableFits entry_terms n t
fits-same n t₀ t e f = rw e f

few-same : (n : ℕ) (t₀ t : Table) → t ≡ t₀ → length (entries_in n t₀) ≤ entries_most → length (entries_in n t) ≤ entries_most
few-same n t₀ t e f = rw e f

put_same : (n : ℕ) (t₀ t : Table) (s u : List ℕ) → t₀ ≡ t → u ≡ put known_at (bytes 4 (length (entries_in n t₀))) (put entries_at (entries_bytes (entries_in n t₀)) s)
    → u ≡ put known_at (bytes 4 (length (entries_in n t))) (put entries_at (entries_bytes (entries_in n t)) s)
put_same n t₀ t s u e p = rw e at p

pub put_held-requires : goal.put_held-requires
unfolding Bytes
put_held-requires c =
    let p = c.requires in
    let s = c.args.s.now in
    let n = c.held-data.ensures.value in
    let rest = data_rest s p.form.1 _ n in
    record { fit = (p.fit.0, p.fit.1); few = p.few; used_le_data_most = (rest.0, rest.1, p.form.0); in_place = data_stand s p.form.1 (λ i. (c.slice_known-1.given i).fits) p.form.0 _ p.data_stand.0 _ n }

pub put_known-requires : goal.put_known-requires
unfolding Bytes
put_known-requires c =
    let p = c.requires in
    let s = c.args.s.now in
    let n = c.known-entries.ensures.value in
    let same = table_stays s p.form.1 _ _ p.fit.0 p.few c.put_held.ensures _ n _ _ in
    let rest = rest_stays s p.form.1 _ _ p.fit.0 p.few c.put_held.ensures _ n in
    let stand = entries_stand s p.form.1 _ _ p.fit.0 p.few c.put_held.ensures _ n (λ i. (c.slice_known-1.given i).fits) p.form.0 _ _ p.data_stand.1 in
    record { table_fits = fits-same _ _ _ same p.table_fits; masks_len_bound = few-same _ _ _ same p.masks_len_bound; n_le_rows_most = (p.fit.2, rest.0, search rules); by_index = stand; used_le_entries_most = rest }

pub returns : goal.returns
unfolding Bytes parts state_bytes state_of store_in
returns c =
    let p = c.requires in
    let s = c.args.s.now in
    let same = table_stays s p.form.1 _ _ p.fit.0 p.few c.put_held.ensures _ c.known-entries.ensures.value _ _ in
    let begun = begins-form s p.form.1 (λ i. (c.slice_known-1.given i).fits) p.form.0 in
    let rows = part_stored 5 _ _ _ _ _ (omega arith) (length-data_in _ p.fit.0 p.few) refl begun in
    let count = part_stored 3 _ _ _ _ _ (omega arith) (length-bytes 4 _) c.put_held.ensures rows in
    let entries = part_stored 6 _ _ _ _ _ (omega arith) (length-entries_in _ _ p.table_fits p.masks_len_bound) refl count in
    let known = part_stored 4 _ _ _ _ _ (omega arith) (length-bytes 4 _) (put_same _ _ _ _ _ same c.put_known.ensures) entries in
    known.stored
