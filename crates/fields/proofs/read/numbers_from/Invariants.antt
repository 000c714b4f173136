-- Invariant: the fields from at on, behind the n numbers that are stored, are the whole; each field has a byte, so n is at most half of at. Measure:
-- the bytes behind at.
use Prim.Native.Nat.{◌+◌, ◌*◌, ◌-◌, ◌≤◌}
use mathlib.Core.Path.{◌≡◌}
use lib.ListN.{length, drop}
use Rattle.std.specs.List.{list_all}
use Rattle.numbers.specs.Numbers.{put}
use Rattle.fields.specs.Fields.{fields, is_number}
use Rattle.fields.specs.code.Scan.{numbers_in}
use Rattle.fields.proofs.read.numbers_from.Given as goal

abbrev pub invariant-loop-values : goal.invariant-loop-values
invariant-loop-values l =
    (l.at ≤ length l.line) × (l.n * 2 ≤ l.at) × (length l.values ≡ length l.initial.values)
    × (list_all is_number (fields (drop l.at l.line)) ≡ list_all is_number (fields (drop l.from l.line)))
    × (l.n + length (fields (drop l.at l.line)) ≡ length (fields (drop l.from l.line)))
    × (put l.n (numbers_in (fields (drop l.at l.line))) l.values ≡ put 0 (numbers_in (fields (drop l.from l.line))) l.initial.values)

abbrev pub decreases-loop-values : goal.decreases-loop-values
decreases-loop-values l = length l.line - l.at
