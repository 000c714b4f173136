-- What a caller of an exported call gets. Assumes nothing: these are definitions.
use Rattle.std.specs.Prelude.{ℕ, ◌≡◌, List}
use Rattle.runs.specs.Demand1.{Exported, returned, left_bytes}

-- the number and the lent bytes afterwards are those that demand 1 speaks of
pub record AsStated (c : Exported) (number : ℕ) (left : List ℕ) : Type 0 where
  pub its_number : number ≡ returned c
  pub its_bytes : left ≡ left_bytes c
