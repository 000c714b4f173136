-- Definitions that serve the code alone: no statement of document 01 cites this file.
-- One turn of a run: what is read, handed on and counted. Assumes nothing: these are definitions.
use Rattle.std.specs.Prelude.{ℕ, ◌+◌, ◌≤◌, ◌≡◌, Bool, ◌&&◌, not, List, T, ltb, length}
use Rattle.stream.specs.Kept.{Kept, kept_after, text_after}
use Rattle.listing.specs.declared.count.Tally.{Tally}
use Rattle.listing.specs.System.{moved_by, is_end, is_repeated, goes_on}
use Rattle.listing.specs.code.Calls.{no_call}
use Rattle.listing.specs.Run.{read_most, is_lost, stopped, CallsTell}

-- so many bytes are read at once at most
abbrev pub piece_most : ℕ
piece_most = 4096

-- a run goes on
unfoldable pub is_going : Tally → Bool
is_going t = ltb t.read read_most && not (stopped t)

-- before the first call
unfoldable pub nothing_done : Tally
nothing_done = record { read = 0; handed = 0; written = 0; input = no_call; output = no_call }

-- what a read into n bytes brought is counted
pub record Hears (n : ℕ) (old new : Tally) : Type 0 where
  pub read : new.read ≡ old.read + moved_by new.input.got
  pub handed : new.handed ≡ old.handed
  pub written : new.written ≡ old.written
  pub fits : moved_by new.input.got ≤ n
  pub tried : T (not (is_repeated new.input))

-- a text of n bytes was handed on to be written
pub record HandsOn (n : ℕ) (old new : Tally) : Type 0 where
  pub read : new.read ≡ old.read
  pub input : new.input ≡ old.input
  pub handed : new.handed ≡ old.handed + n
  pub kept : old.written ≤ new.written
  pub within : new.written ≤ new.handed
  pub lost : is_lost new ≡ not (goes_on new.output)

-- a piece of the input was read and answered: as many bytes as the last read moved
pub record Turned (piece : List ℕ) (k k' : Kept) (old new : Tally) : Type 0 where
  pub came : length piece ≡ moved_by new.input.got
  pub read : new.read ≡ old.read + length piece
  pub keeps : k' ≡ kept_after k piece
  pub prints : new.handed ≡ old.handed + length (text_after k piece)
  pub tells : CallsTell new
  pub whole : T (is_end new.input.got) → new.written ≡ new.handed
