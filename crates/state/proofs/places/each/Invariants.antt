-- Invariant: what is tested so far is what a test that tells the same tells of the first i places.
use Rattle.std.proofs.Common.{ℕ, Bool, ◌≡◌, ◌<◌}
use Rattle.predicates.specs.Lists.{all_below}
use Rattle.state.proofs.places.each.Given as goal

abbrev pub invariant-loop-i : goal.invariant-loop-i
invariant-loop-i g l = (test : ℕ → Bool) → ((k : ℕ) (b : Bool) → k < l.n → goal.F-post g l.passes k b → b ≡ test k) → l.ok ≡ all_below l.i test
