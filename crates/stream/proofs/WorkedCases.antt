-- The table of `specs.Cases` holds. The idea: each row is tested on bytes that are written out, so the table computes, and a test that is passed is the
-- row's equation. Assumes nothing.
use mathlib.Core.Bool.{Bool}
use lib.Dec.{T}
use Rattle.std.specs.List.{list_all}
use Rattle.predicates.proofs.ListLaws.{all_out}
use Rattle.numbers.specs.Numbers.{tab}
use Rattle.state.specs.Layout.{joined}
use Rattle.fields.specs.Fields.{onto, fields, value_from, value, is_number, same_bytes}
use Rattle.fields.proofs.FieldLaws.{same_bytes_out}
use Rattle.lines.specs.Lines.{bad_line, word_line, fields_line, line_result}
use Rattle.lines.specs.Cases.{ascii}
use Rattle.stream.specs.Listing.{lines_in, yields, listing_of}
use Rattle.stream.specs.Cases.{InputCase, InputComes, inputs, EachInput}

unfoldable input_passes : InputCase → Bool
input_passes c = same_bytes (listing_of (ascii c.input)) (ascii c.prints)

inputs_pass : T (list_all input_passes inputs)
unfolding tab joined onto fields value_from value is_number same_bytes bad_line word_line fields_line line_result ascii lines_in yields listing_of input_passes inputs
inputs_pass = tt

input-comes : (c : InputCase) → T (input_passes c) → InputComes c
unfolding input_passes
input-comes c h = same_bytes_out (listing_of (ascii c.input)) (ascii c.prints) h

pub each-input : EachInput
unfolding EachInput
each-input c i = input-comes c (all_out input_passes inputs inputs_pass c i)
