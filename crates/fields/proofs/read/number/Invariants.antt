-- Invariant: the digits that are left, behind the number so far, write the field's number, and are digits if all are.
use Rattle.std.proofs.Common.{◌≡◌, ◌^◌, ◌<◌, drop}
use Rattle.std.specs.List.{list_all}
use Rattle.fields.specs.Fields.{is_digit, value_from, value}
use Rattle.fields.proofs.read.number.Given as goal

abbrev pub invariant-loop-b : goal.invariant-loop-b
invariant-loop-b l = record {
  fits : l.number < 2 ^ 64;
  digits : list_all is_digit (drop l.b-index l.field) ≡ list_all is_digit l.field;
  writes : value_from l.number (drop l.b-index l.field) ≡ value l.field;
}
