-- Definitions that serve the code alone: no statement of documents 01 and 02 cites this file.
-- Names as a message brings them. Assumes nothing: these are definitions.
use Rattle.std.specs.Prelude.{ℕ, ◌<◌, ◌^◌, Bool, cond, List, length, get_or}
use Rattle.epochs.specs.Epochs.{epochs_most, name_limit, identifier_of}

-- a mask of one identifier, where a test passes
abbrev pub bit_where : Bool → ℕ → ℕ
bit_where test n = cond test (2 ^ n) 0

-- names of identifiers that rise
pub record Named (ws : List ℕ) : Type 0 where
  pub small : (i : ℕ) → i < length ws → get_or ws i 0 < name_limit
  pub few : (i : ℕ) → i < length ws → identifier_of (get_or ws i 0) < epochs_most
  pub rising : (i j : ℕ) → i < j → j < length ws → identifier_of (get_or ws i 0) < identifier_of (get_or ws j 0)
