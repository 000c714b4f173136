-- The arrays that a state in form is read into are ready for the search: all rows are in its order, and no left end is the number of no end.
-- The idea: what is read is in form, so there are at most 48 rows, and every key is below 2^64 - 63.
-- No contract cites this file. Assumes nothing.
use Prim.Native.Nat.{ℕ, ◌+◌, ◌≤◌, ◌<◌}
use mathlib.Core.Path.{◌≡◌}
use mathlib.Core.List.{List}
use native.Mathlib.Omega.{arith}
use lib.Dec.{T, eqb, eqb_refl}
use lib.ListN.{length, get_or, take}
use Rattle.numbers.specs.Numbers.{tab}
use Rattle.state.specs.Model.{Store, State}
use Rattle.state.specs.Layout.{held_count, entry_count, store_of}
use Rattle.state.specs.Form.{in_form, state_ok}
use Rattle.predicates.proofs.ListLaws.{any_in}
use Rattle.predicates.proofs.IndexLaws.{take_in}
use Rattle.state.proofs.StateLaws.{state_out, held_count_le, entry_count_le}
use Rattle.search.specs.code.Search.{Rows}
use Rattle.search.specs.declared.rows.Span.{Span}
use Rattle.claims.specs.code.Tables.{claim_at, Loaded, Bounded, claim_span}
use Rattle.search.specs.code.LeftEnds.{no_end, lefts_of, rights_of, Ready, Complete}
use Rattle.claims.specs.code.Keys.{key_of, keyed, keyed_state}
use Rattle.claims.proofs.TableLaws.{claim_entry}
use Rattle.claims.proofs.KeyLaws.{mapped_loaded, bounded_in, keys_low}

module _ {k : Store} {n rows : ℕ} {table : Rows} (loaded : Loaded k n rows table) (most : rows ≤ 48) where
  pub ready_in : (lefts rights order : List ℕ) → Bounded k rows lefts rights → Complete rows order → ((i : ℕ) → i < rows → get_or lefts i 0 < no_end)
      → Ready n rows lefts rights table order
  ready_in lefts rights order bounded complete below =
      record {
        entries_le = omega (arith, loaded.rows_are);
        most = most;
        lefts-long = bounded.lefts-long;
        rights-long = bounded.rights-long;
        below = below;
        empty = λ i h. hollow i (omega (arith, loaded.entries_are)) (bounded.left_is i (omega (arith, loaded.rows_are))) (bounded.right_is i (omega (arith, loaded.rows_are)));
        ordered = complete.ordered;
        placed = complete.placed;
        present = λ k h. any_in (λ x. eqb k x) (take rows order) k (take_in rows order complete.ordered (complete.present k h)) (eqb_refl k);
        parted = loaded.parted;
      }
    where
      -- an entry's ends are 1 and 0
      hollow : (i : ℕ) → i < length k.entries → get_or lefts i 0 ≡ (claim_at k i).left → get_or rights i 0 ≡ (claim_at k i).right
          → get_or rights i 0 < get_or lefts i 0
      hollow i h a b = omega (arith, rw (claim_entry k i h) at a, rw (claim_entry k i h) at b)

-- ---- the rows

pub rows_most_lem : (st : State) → T (state_ok st) → {n rows : ℕ} {table : Rows} → Loaded st.store n rows table → rows ≤ 48
rows_most_lem st ok loaded = let o = state_out st ok in omega (arith, o.held_le, o.entries_le, loaded.rows_are, loaded.entries_are)

-- ---- what the calls before a search leave of a state in form: its ends are keys

pub record Prepared (st : State) (n rows : ℕ) (table : Rows) (order lefts rights : List ℕ) : Type 0 where
  pub loaded : Loaded st.store n rows table
  pub bounded : Bounded st.store rows lefts rights
  pub complete : Complete rows order
  pub ready : Ready n rows lefts rights table order

module _ (s : List ℕ) (t : T (in_form s)) (n h : ℕ) (a : n ≡ entry_count s) (b : h ≡ held_count s) where
  abbrev rows : ℕ
  rows = n + h

  pub counts_fit : (n ≤ 32) × (h ≤ 16)
  counts_fit = (omega (arith, entry_count_le s t), omega (arith, held_count_le s t))

  pub prepared_in : (table : Rows) (order : List ℕ) (ends : List Span) → Loaded (store_of s) n rows table → Complete rows order
      → ends ≡ tab rows (claim_span (key_of s) s n) → Prepared (keyed_state s) n rows table order (lefts_of ends) (rights_of ends)
  unfolding keyed_state keyed
  prepared_in table order ends loaded complete e =
      let count : rows ≡ n + held_count s = omega arith in
      let bounded : Bounded (keyed s) rows (lefts_of ends) (rights_of ends) = bounded_in s t n rows a count ends e in
      let most : rows ≤ 48 = omega (arith, counts_fit) in
      let below : (i : ℕ) → i < rows → get_or (lefts_of ends) i 0 < no_end = λ i k. omega (arith, (keys_low s t n rows a count ends e i k).0) in
      let mapped = mapped_loaded (key_of s) (store_of s) loaded in
      record { loaded = mapped; bounded = bounded; complete = complete; ready = ready_in mapped most (lefts_of ends) (rights_of ends) order bounded complete below }
