-- Invariant: the keys of the first i claims are there.
use Prim.Native.Nat.{ℕ, ◌<◌}
use mathlib.Core.Path.{◌≡◌}
use lib.ListN.{get_or}
use Rattle.claims.specs.code.Keys.{key_of}
use Rattle.claims.specs.code.Tables.{claim_span}
use Rattle.claims.proofs.keys.put_keys.Given as goal

abbrev pub invariant-loop-i : goal.invariant-loop-i
invariant-loop-i g l = (k : ℕ) → k < l.i → get_or l.ends k (record { left = 0; right = 0 }) ≡ claim_span (key_of l.s.bytes.now) l.s.bytes.now l.n k
