-- The 5,393 bytes of a state (document 01, "State bytes", and document 02's later parts), both ways: `state_bytes` writes a state, `state_of` reads
-- one. Assumes nothing: these are definitions.
use Rattle.std.specs.Prelude.{ℕ, ◌+◌, ◌*◌, ◌-◌, ◌/◌, ◌%◌, List, [], ◌∷◌, ◌++◌, length, take, replicate}
use Rattle.numbers.specs.Numbers.{num, bytes, bytes_of, tab}
use Rattle.predicates.specs.Lists.{padded}
use Rattle.ends.specs.Ends.{million, count}
use Rattle.epochs.specs.Epochs.{epochs_in}
use Rattle.clocks.specs.Places.{place_size, saved_bytes, saved_at}
use Rattle.state.specs.Model.{Datum, Head, Store, State}

-- how many bytes a state has
abbrev pub state_size : ℕ
state_size = 5393

-- where the numbers of the head stand: "own name (4 bytes), drift (4), reading (8), held count (4), entry count (4)"
abbrev pub own_at : ℕ
own_at = 0

abbrev pub drift_at : ℕ
drift_at = 4

abbrev pub reading_at : ℕ
reading_at = 8

abbrev pub held_at : ℕ
held_at = 16

abbrev pub known_at : ℕ
known_at = 20

-- "16 data of 52", and 8 more for the millionths of both ends (document 02, W-205): where they begin, how many there are, how long one is, and how
-- many masks it has
abbrev pub data_at : ℕ
data_at = 24

abbrev pub data_most : ℕ
data_most = 16

abbrev pub datum_size : ℕ
datum_size = 60

abbrev pub datum_terms : ℕ
datum_terms = 8

-- in a datum: the right end's whole microseconds behind the left one's, the row of its term count and masks behind both, and last the millionths,
-- "left then right at its end"
abbrev pub right_in : ℕ
right_in = 8

abbrev pub row_in : ℕ
row_in = 16

abbrev pub left_millionths_in : ℕ
left_millionths_in = 52

abbrev pub right_millionths_in : ℕ
right_millionths_in = 56

-- "32 entries of 68"
abbrev pub entries_at : ℕ
entries_at = 984

abbrev pub entries_most : ℕ
entries_most = 32

abbrev pub entry_size : ℕ
entry_size = 68

abbrev pub entry_terms : ℕ
entry_terms = 16

-- "29 places of 76 bytes by name" (document 02, W-201): where they begin, and how many there are
abbrev pub clocks_at : ℕ
clocks_at = 3160

abbrev pub clocks_most : ℕ
clocks_most = 29

-- "29 bytes of epochs by identifier, the own one among them" (document 02, W-204): where they begin
abbrev pub epochs_at : ℕ
epochs_at = 5364

-- where datum i, entry i and name i's clock stand
abbrev pub datum_place : ℕ → ℕ
datum_place i = data_at + i * datum_size

abbrev pub entry_place : ℕ → ℕ
entry_place i = entries_at + i * entry_size

abbrev pub clock_place : ℕ → ℕ
clock_place i = clocks_at + i * place_size

-- ---- writing

abbrev pub zeros : ℕ → List ℕ
zeros n = replicate n 0

-- a predicate in `width` places: "term count 4, eight masks of 4" of a datum, "term count 4, sixteen masks" of an entry; unused masks are zero
unfoldable pub row_bytes : ℕ → List ℕ → List ℕ
row_bytes width terms = bytes 4 (length terms) ++ bytes_of (padded width terms)

-- "left 8, right 8, term count 4, eight masks of 4", and behind them the millionths of left and right, 4 each
unfoldable pub datum_bytes : Datum → List ℕ
datum_bytes d =
    bytes 8 (d.left / million)
    ++ (bytes 8 (d.right / million)
    ++ (row_bytes datum_terms d.terms ++ (bytes 4 (d.left % million) ++ bytes 4 (d.right % million))))

unfoldable pub entry_bytes : List ℕ → List ℕ
entry_bytes e = row_bytes entry_terms e

-- one after the other
unfoldable pub joined : {A : Type 0} → (A → List ℕ) → List A → List ℕ
joined f [] = []
joined f (x ∷ xs) = f x ++ joined f xs

-- "Data and entries fill their places from the front, oldest first; unused places and masks are zero."
unfoldable pub data_bytes : List Datum → List ℕ
data_bytes ds = joined datum_bytes ds ++ zeros ((data_most - length ds) * datum_size)

unfoldable pub entries_bytes : List (List ℕ) → List ℕ
entries_bytes es = joined entry_bytes es ++ zeros ((entries_most - length es) * entry_size)

-- the parts of a state in their order, "own name (4 bytes), drift (4), reading (8), held count (4), entry count (4)", the data, the entries; "last
-- as later parts do" the clocks, and behind them the epochs, a byte for each
unfoldable pub parts : State → List (List ℕ)
parts st =
    bytes 4 st.head.own
    ∷ bytes 4 st.head.drift
    ∷ bytes 8 st.head.reading
    ∷ bytes 4 (length st.store.held)
    ∷ bytes 4 (length st.store.entries)
    ∷ data_bytes st.store.held
    ∷ entries_bytes st.store.entries
    ∷ joined saved_bytes st.head.clocks
    ∷ st.head.epochs
    ∷ []

unfoldable pub state_bytes : State → List ℕ
state_bytes st = joined (λ p. p) (parts st)

-- ---- reading

-- the masks of the row at `at`, used or not
unfoldable pub masks_at : ℕ → ℕ → List ℕ → List ℕ
masks_at width at s = tab width (λ j. num (at + 4 + j * 4) 4 s)

-- the predicate of the row at `at`
unfoldable pub row_at : ℕ → ℕ → List ℕ → List ℕ
row_at width at s = take (num at 4 s) (masks_at width at s)

unfoldable pub datum_at : List ℕ → ℕ → Datum
datum_at s i =
    record {
      left = count (num (datum_place i) 8 s) (num (datum_place i + left_millionths_in) 4 s);
      right = count (num (datum_place i + right_in) 8 s) (num (datum_place i + right_millionths_in) 4 s);
      terms = row_at datum_terms (datum_place i + row_in) s;
    }

unfoldable pub entry_at : List ℕ → ℕ → List ℕ
entry_at s i = row_at entry_terms (entry_place i) s

-- the counts in the head
abbrev pub held_count : List ℕ → ℕ
held_count s = num held_at 4 s

abbrev pub entry_count : List ℕ → ℕ
entry_count s = num known_at 4 s

unfoldable pub head_of : List ℕ → Head
head_of s =
    record {
      own = num own_at 4 s;
      drift = num drift_at 4 s;
      reading = num reading_at 8 s;
      clocks = tab clocks_most (λ i. saved_at (clock_place i) s);
      epochs = epochs_in epochs_at s;
    }

unfoldable pub store_of : List ℕ → Store
store_of s = record { held = tab (held_count s) (datum_at s); entries = tab (entry_count s) (entry_at s) }

unfoldable pub state_of : List ℕ → State
state_of s = record { head = head_of s; store = store_of s }
