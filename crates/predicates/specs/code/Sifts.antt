-- Definitions that serve the code alone: no statement of document 01 cites this file.
-- Terms that are struck out one by one, each by those kept before it. Assumes nothing: these are definitions.
use Rattle.std.specs.Prelude.{ℕ, ◌≡◌, Bool, cond, List, [], ◌∷◌, ◌++◌}
use Rattle.std.specs.Borrow.{Bor}

-- what stays of the terms p behind those kept
unfoldable pub sifted : (List ℕ → ℕ → Bool) → List ℕ → List ℕ → List ℕ
sifted test kept [] = []
sifted test kept (t ∷ p) = cond (test kept t) (sifted test kept p) (t ∷ sifted test (kept ++ (t ∷ [])) p)

-- each call of a closure gives what the test says
abbrev pub Tells : (Bor (List ℕ) → ℕ → Bool → Type 0) → (List ℕ → ℕ → Bool) → Type 0
Tells post test = (kept : Bor (List ℕ)) (t : ℕ) (r : Bool) → post kept t r → r ≡ test kept.now t
