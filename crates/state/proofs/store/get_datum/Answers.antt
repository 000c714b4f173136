-- `state::store::get_datum` meets its contract: the ends, the count and the masks are read, and these fill the places.
use Prim.Native.Nat.{ℕ}
use mathlib.Core.Path.{◌≡◌}
use mathlib.Core.List.{List}
use Rattle.ends.specs.declared.Ends.{Ends}
use Rattle.state.specs.declared.holding.Held.{Held}
use Rattle.state.specs.Layout.{masks_at}
use Rattle.state.specs.code.Tables.{datum_row}
use Rattle.state.proofs.store.get_datum.Goals as goal

row-is : (e f : Ends) (m n : ℕ) (p q : List ℕ) → e ≡ f → m ≡ n → p ≡ q
    → ◌≡◌ {A = Held} (record { ends = e; count = m; terms = p }) (record { ends = f; count = n; terms = q })
row-is e f m n p q x y z = rw (x, y, z)

pub returns : goal.returns
unfolding datum_row masks_at
returns c = row-is _ _ _ _ _ _ c.get.ensures c.get32.ensures.0 c.get_words.ensures
