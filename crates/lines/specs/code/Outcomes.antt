-- Definitions that serve the code alone: no statement of document 01 cites this file.
-- What a command prints. Assumes nothing: these are definitions.
use Rattle.std.specs.Prelude.{ℕ, ◌≡◌, Result, Ok, Err, List, length}
use Rattle.numbers.specs.Numbers.{put}
use Rattle.lines.specs.Text.{bad_text}
use Rattle.lines.specs.Lines.{LineResult}
use Rattle.lines.specs.declared.BadLine.{BadLine}

-- the answer's line, with so many bytes, is printed at the front of the output; or the line is bad, and nothing is printed
abbrev pub Prints : LineResult → Result ℕ BadLine → List ℕ → List ℕ → Type 0
Prints answer (Ok size) old new = (size ≡ length answer.text) × (new ≡ put 0 answer.text old)
Prints answer (Err e) old new = (answer.text ≡ bad_text) × (new ≡ old)
