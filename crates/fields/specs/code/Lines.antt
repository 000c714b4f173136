-- Definitions that serve the code alone: no statement of document 01 cites this file.
-- A line of a word and any numbers. Assumes nothing: these are definitions.
use Rattle.std.specs.Prelude.{ℕ, List, [], ◌∷◌, ◌++◌}
use Rattle.std.specs.List.{flat_map}
use Rattle.fields.specs.Decimal.{decimal}

-- the numbers, with a space before each
abbrev pub spaced : List ℕ → List ℕ
spaced ns = flat_map (λ n. 32 ∷ decimal n) ns

-- a word and numbers, with the line feed behind them
unfoldable pub with_numbers : List ℕ → List ℕ → List ℕ
with_numbers word ns = word ++ (spaced ns ++ (10 ∷ []))
