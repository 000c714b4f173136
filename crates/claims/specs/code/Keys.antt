-- Definitions that serve the code alone: no statement of document 01 cites this file.
-- Keys of ends (document 02, W-205): an end as one number of 64 bits. Keys lie as the ends of one state do, and tell the whole microseconds on
-- either side of the end. Where the ends lie near each other, the keys are counts of millionths. Assumes nothing: these are definitions.
use Rattle.std.specs.Prelude.{ℕ, zero, suc, ◌+◌, ◌*◌, ◌-◌, ◌/◌, ◌%◌, ◌^◌, min, max, ◌≡◌, Bool, true, false, cond, List, ◌++◌, map, ltb, get_or, drop}
use Rattle.numbers.specs.Numbers.{num, tab}
use Rattle.ends.specs.Ends.{million}
use Rattle.state.specs.Model.{Datum, datum, Store, State, last_whole}
use Rattle.state.specs.Layout.{zeros, datum_place, right_in, left_millionths_in, held_count, head_of, store_of}
use Rattle.claims.specs.declared.keys.Scale.{Scale}
use Rattle.claims.specs.declared.keys.Scale.TheVariants.{Counts, Ranks}

-- ---- where counts fit: from the first whole microsecond that a held end has, since clocks may count theirs from long ago, to the last one

-- the least whole microsecond of the first n left ends; the last of all where n is 0
unfoldable pub least_whole : ℕ → List ℕ → ℕ
least_whole zero s = last_whole
least_whole (suc n) s = min (least_whole n s) (num (datum_place n) 8 s)

unfoldable pub base_of : List ℕ → ℕ
base_of s = least_whole (held_count s) s

-- the greatest whole microsecond of the first n right ends; 0 where n is 0
unfoldable pub greatest_whole : ℕ → List ℕ → ℕ
greatest_whole zero s = 0
greatest_whole (suc n) s = max (greatest_whole n s) (num (datum_place n + right_in) 8 s)

unfoldable pub top_of : List ℕ → ℕ
top_of s = greatest_whole (held_count s) s

-- fewer whole microseconds have a count of millionths within 64 bits
abbrev pub count_limit : ℕ
count_limit = 2 ^ 44

-- every held end lies within them
unfoldable pub countable : List ℕ → Bool
countable s = ltb (top_of s) (base_of s + count_limit)

-- counts do, from this base on
abbrev pub Counted : List ℕ → ℕ → Type 0
Counted s base = (countable s ≡ true) × (base ≡ base_of s)

abbrev pub count_from : ℕ → ℕ → ℕ
count_from base x = x - base * million

-- how keys are made and read; the ranks of a state start from 0
abbrev pub scale_by : Bool → ℕ → Scale
scale_by true base = Counts base
scale_by false base = Ranks 0

unfoldable pub scale_of : List ℕ → Scale
scale_of s = scale_by (countable s) (base_of s)

-- ---- where they do not: the whole microseconds, and behind them the rank of the millionths among all that the state holds

-- how many of the first n numbers are less than x
unfoldable pub below : ℕ → List ℕ → ℕ → ℕ
below zero l x = 0
below (suc n) l x = below n l x + cond (ltb (get_or l n 0) x) 1 0

-- so many millionths are ranked: those of both ends of 16 data, and zeros behind them
abbrev pub parts_most : ℕ
parts_most = 36

-- ranks lie below this, so that it stands for a microsecond
abbrev pub rank_step : ℕ
rank_step = 64

unfoldable pub rank_key : List ℕ → ℕ → ℕ
rank_key parts x = x / million * rank_step + below parts_most parts (x % million)

-- the millionths of end j of the held data, of which each has a left and a right one
unfoldable pub millionths_at : List ℕ → ℕ → ℕ
millionths_at s j = num (datum_place (j / 2) + left_millionths_in + j % 2 * 4) 4 s

-- those of all held data, and zeros behind them
unfoldable pub parts_of : List ℕ → List ℕ
parts_of s = tab (held_count s * 2) (millionths_at s) ++ drop (held_count s * 2) (zeros parts_most)

-- ---- a key

abbrev pub key_by : Scale → List ℕ → ℕ → ℕ
key_by (Counts base) parts x = count_from base x
key_by (Ranks base) parts x = rank_key parts x

-- the whole microsecond that keys start from
abbrev pub start_of : Scale → ℕ
start_of (Counts base) = base
start_of (Ranks base) = base

-- what a whole microsecond is in a key
abbrev pub step_of : Scale → ℕ
step_of (Counts base) = million
step_of (Ranks base) = rank_step

-- the whole microseconds on either side of the end that a key tells
abbrev pub down_by : Scale → ℕ → ℕ
down_by scale key = start_of scale + key / step_of scale

abbrev pub up_by : Scale → ℕ → ℕ
up_by scale key = start_of scale + (key + (step_of scale - 1)) / step_of scale

-- of the ends of a state
unfoldable pub key_of : List ℕ → ℕ → ℕ
key_of s x = key_by (scale_of s) (parts_of s) x

-- the key of the last end that can be stored, where ranks are needed; no other is above it
abbrev pub last_key : ℕ
last_key = last_whole * rank_step

-- ---- a state with keys for ends

-- the datum with f of its ends
abbrev pub map_ends : (ℕ → ℕ) → Datum → Datum
map_ends f d = datum (f d.left) (f d.right) d.terms

unfoldable pub mapped : (ℕ → ℕ) → Store → Store
mapped f k = record { held = map (map_ends f) k.held; entries = k.entries }

unfoldable pub keyed : List ℕ → Store
keyed s = mapped (key_of s) (store_of s)

unfoldable pub keyed_state : List ℕ → State
keyed_state s = record { head = head_of s; store = keyed s }
