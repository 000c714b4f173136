-- Definitions that serve the code alone: no statement of document 01 cites this file.
-- The calls as the code makes them. Assumes nothing: these are definitions.
use Rattle.std.specs.Prelude.{ℕ, ◌+◌, cond, eqb, Result, Ok, ℤ}
use Rattle.listing.specs.declared.system.Call.{Call}
use Rattle.listing.specs.System.{moved_by}

-- before the first call: as if one had gone well
unfoldable pub no_call : Call
no_call = record { got = Ok 1; tries = 0 }

-- the call that follows another one: a try more where it moved nothing
unfoldable pub call_after : Call → Result ℕ ℤ → Call
call_after last got = record { got = got; tries = cond (eqb (moved_by got) 0) (last.tries + 1) last.tries }
