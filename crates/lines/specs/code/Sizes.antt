-- Definitions that serve the code alone: no statement of document 01 cites this file.
-- How long the arrays are that hold a line's numbers and an answer. Assumes nothing: these are definitions.
use Rattle.std.specs.Prelude.{ℕ, ◌+◌, ◌/◌}
use Rattle.lines.specs.Lines.{line_most}

-- so many fields have room in a line: each has a byte, and a space before the next
abbrev pub values_most : ℕ
values_most = line_most / 2 + 1

-- no answer is longer, with its line feed
abbrev pub answer_most : ℕ
answer_most = 64
