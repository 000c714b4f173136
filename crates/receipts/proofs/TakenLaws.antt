-- Laws of a datum taken (`specs.code.Taken`): a true one without a blamed name leaves all as it is, any other takes the four steps.
-- No contract cites this file. Assumes nothing.
use Prim.Native.Nat.{ℕ}
use mathlib.Core.Path.{◌≡◌}
use mathlib.Core.Bool.{true, false, and-false}
use borrow.Author.Tests.{eq-eqb, ne_eqb}
use lib.Dec.{eqb}
use Rattle.std.specs.Prelude.{Option}
use Rattle.std.specs.Option.{is_some}
use Rattle.predicates.specs.Predicates.{is_true}
use Rattle.state.specs.Model.{Datum, Store}
use Rattle.steps.specs.Steps.{settled}
use Rattle.receipts.specs.code.Blame.{blamed_by}
use Rattle.receipts.specs.code.Taken.{taken_by}

module _ (blame : Option ℕ) (first : ℕ) (n : Datum) (k : Store) (e : is_true n.terms ≡ eqb first 0) where
  pub taken_none : first ≡ 0 → is_some blame ≡ false → taken_by blame n k ≡ k
  unfolding taken_by
  taken_none z q = rw (e, eq-eqb first 0 z, q)

  -- the predicate is not true
  pub taken-some : (first ≡ 0 → ⊥) → settled n (blamed_by blame k) ≡ taken_by blame n k
  unfolding taken_by
  taken-some f = rw (e, ne_eqb first 0 f)

  -- somebody is blamed
  pub taken-blamed : is_some blame ≡ true → settled n (blamed_by blame k) ≡ taken_by blame n k
  unfolding taken_by
  taken-blamed q = rw (q, and-false (is_true n.terms))
