-- Definitions that serve the code alone: no statement of document 02 cites this file.
-- The names tested in one pass. Assumes nothing: these are definitions.
use Rattle.std.specs.Prelude.{ℕ, ◌^◌, Bool, ◌&&◌, List, [], ◌∷◌, ltb, eqb}
use Rattle.names.specs.Sets.{set_union}
use Rattle.epochs.specs.Epochs.{identifier_of, name_limit}

-- a name is well formed, and its identifier above all those seen
abbrev pub follows : ℕ → ℕ → Bool
follows seen w = ltb w name_limit && ltb seen (2 ^ identifier_of w)

-- the names fit the mask, where the identifiers of `seen` were named before them
unfoldable pub names_from : ℕ → ℕ → List ℕ → Bool
names_from mask seen [] = eqb seen mask
names_from mask seen (w ∷ ws) = follows seen w && names_from mask (set_union seen (2 ^ identifier_of w)) ws
