-- Definitions that serve the code alone: no statement of document 01 cites this file.
-- What a struct of lent arrays holds: a row, the entries, and what a call leaves of the loan. Assumes nothing: these are definitions.
use Rattle.std.specs.Prelude.{ℕ, ◌+◌, ◌*◌, ◌≤◌, ◌≡◌, List, length}
use Rattle.state.specs.Layout.{entry_terms}
use Rattle.state.specs.code.Tables.{table_from, row_of, entries_in}
use Rattle.entries.specs.code.Marks.{Left}
use Rattle.entries.specs.declared.tables.Entries.{Entries}
use Rattle.entries.specs.declared.tables.Standing.{Standing}

-- the terms of row i
abbrev pub row_in : Entries → ℕ → List ℕ
row_in e i = row_of entry_terms (table_from e.first e.state.now e.counts.now e.masks.now) i

-- the entries in use
abbrev pub known : Entries → List (List ℕ)
known e = entries_in e.n (table_from e.first e.state.now e.counts.now e.masks.now)

-- the same of rows that are lent to be read alone
abbrev pub row_at : Standing → ℕ → List ℕ
row_at e i = row_of entry_terms (table_from e.first e.state.now e.counts.now e.masks.now) i

abbrev pub standing : Standing → List (List ℕ)
standing e = entries_in e.n (table_from e.first e.state.now e.counts.now e.masks.now)

-- the rows in the bytes are among those in use, and the arrays have room for k rows more
pub record Room (k : ℕ) (e : Entries) : Type 0 where
  pub beyond : e.first ≤ e.n
  pub counted : e.n + k ≤ length e.counts.now
  pub long : (e.n + k) * entry_terms ≤ e.first * entry_terms + length e.masks.now
  pub reach : e.n + k ≤ length e.marks.now

-- the same arrays, of the same lengths, are still lent, and each row that was in use has been given up or is as it was
abbrev pub Kept : Entries → Entries → Type 0
Kept old new =
    (new.state ≡ old.state) × (new.first ≡ old.first) × (old.n ≤ new.n) × Left old.n old.counts.now new.counts.now
    × (length new.counts.now ≡ length old.counts.now) × (length new.masks.now ≡ length old.masks.now)
    × (length new.marks.now ≡ length old.marks.now) × (new.counts.ghost_name ≡ old.counts.ghost_name)
    × (new.masks.ghost_name ≡ old.masks.ghost_name) × (new.marks.ghost_name ≡ old.marks.ghost_name)
