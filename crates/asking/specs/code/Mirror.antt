-- Definitions that serve the code alone: no statement of document 01 cites this file.
-- Ends as seen from the last key, so that the right ends are left ones and their falling is a rising. Assumes nothing: these are definitions.
use Rattle.std.specs.Prelude.{ℕ, ◌-◌, List, get_or}
use Rattle.search.specs.declared.rows.Span.{Span}
use Rattle.search.specs.code.LeftEnds.{lefts_of, rights_of}
use Rattle.claims.specs.code.Keys.{last_key}

abbrev pub mirrored : List Span → ℕ → Span
mirrored ends i = record { left = last_key - get_or (rights_of ends) i 0; right = last_key - get_or (lefts_of ends) i 0 }
