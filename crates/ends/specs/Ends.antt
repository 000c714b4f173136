-- Ends with their millionths (document 02, W-205): "Each end now keeps its millionths of a microsecond, 0 to 999,999". The model counts in
-- millionths, one number an end; code and bytes have two, the whole microseconds and the millionths. Assumes nothing: these are definitions.
use Rattle.std.specs.Prelude.{ℕ, ◌+◌, ◌*◌, ◌/◌, ◌<◌}
use Rattle.ends.specs.declared.End.{End}
use Rattle.ends.specs.declared.Ends.{Ends}

-- how many millionths a microsecond has
abbrev pub million : ℕ
million = 1_000_000

-- so many microseconds and millionths, as a count of millionths
abbrev pub count : ℕ → ℕ → ℕ
count whole millionths = whole * million + millionths

abbrev pub count_of : End → ℕ
count_of e = count e.whole e.millionths

-- the two numbers are those of an end: its millionths are less than a microsecond
abbrev pub Split : End → Type 0
Split e = e.millionths < million

abbrev pub BothSplit : Ends → Type 0
BothSplit e = Split e.left × Split e.right

-- "Answers and messages round the left end down and the right end up"
abbrev pub down : ℕ → ℕ
down x = x / million

abbrev pub up : ℕ → ℕ
up x = (x + 999_999) / million
