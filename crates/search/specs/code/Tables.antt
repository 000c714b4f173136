-- Definitions that serve the code alone: no statement of document 01 cites this file.
-- What a search over the ends of a table brings (`LeftEnds`). Assumes nothing: these are definitions.
use Rattle.std.specs.Prelude.{ℕ, ◌<◌, Option, None, Some, length}
use Rattle.names.specs.Sets.{no_set}
use Rattle.search.specs.declared.stretches.Table.{Table}
use Rattle.search.specs.declared.stretches.Stretch.{Stretch}
use Rattle.search.specs.declared.stretches.Reached.{Reached}
use Rattle.search.specs.code.LeftEnds.{lefts_of, rights_of, FirstStretch, FirstEnd, LeastSet}

-- the first stretch whose end is explained, or none is
abbrev pub StretchIn : Table → ℕ → ℕ → Option Stretch → Type 0
StretchIn t limit free None =
    FirstStretch t.entries (length t.rows.now) (lefts_of t.ends.now) (rights_of t.ends.now) t.rows.now t.order.now limit free 0 0 no_set
StretchIn t limit free (Some s) =
    (s.set < no_set)
    × FirstStretch t.entries (length t.rows.now) (lefts_of t.ends.now) (rights_of t.ends.now) t.rows.now t.order.now limit free s.from s.end s.set

-- the first left end that is explained, with a set, or none is
abbrev pub FirstIn : Table → ℕ → ℕ → Option Reached → Type 0
FirstIn t limit free None =
    FirstEnd t.entries (length t.rows.now) (lefts_of t.ends.now) (rights_of t.ends.now) t.rows.now t.order.now limit free 0 no_set
FirstIn t limit free (Some r) =
    (r.set < no_set)
    × FirstEnd t.entries (length t.rows.now) (lefts_of t.ends.now) (rights_of t.ends.now) t.rows.now t.order.now limit free r.end r.set

-- the least set of all, as a mask, or no set
abbrev pub LeastSetIn : Table → ℕ → ℕ → ℕ → Type 0
LeastSetIn t limit free r = LeastSet t.entries (length t.rows.now) (lefts_of t.ends.now) (rights_of t.ends.now) t.rows.now t.order.now limit free r

abbrev pub LeastIn : Table → ℕ → ℕ → Option ℕ → Type 0
LeastIn t limit free None = LeastSetIn t limit free no_set
LeastIn t limit free (Some r) = (r < no_set) × LeastSetIn t limit free r
