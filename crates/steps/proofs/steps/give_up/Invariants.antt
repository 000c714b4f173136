-- Invariant: the rows from the index on are as they were, and by a test that tells the same of the old rows those before it have been tested.
use Rattle.std.proofs.Common.{Bool, ℕ, ◌≡◌, ◌≤◌, ◌<◌, ◌++◌, Bor, length, get_or, map, take, drop}
use Rattle.state.specs.declared.holding.Held.{Held}
use Rattle.steps.specs.code.Rows.{given_up_if}
use Rattle.steps.proofs.steps.give_up.Given as goal

abbrev pub invariant-loop-row : goal.invariant-loop-row
invariant-loop-row g l =
    (length l.held ≡ length l.initial.held)
    × ((i : ℕ) (d : Held) → l.row-index ≤ i → get_or l.held i d ≡ get_or l.initial.held i d)
    × ((t : Held → Bool)
    → ((i : ℕ) (d : Held) (r : Bor Held) (b : Bool) → i < length l.initial.held → r.now ≡ get_or l.initial.held i d → goal.F-post g l.test r b → b ≡ t r.now)
    → l.held ≡ map (λ r. given_up_if (t r) r) (take l.row-index l.initial.held) ++ drop l.row-index l.initial.held)
