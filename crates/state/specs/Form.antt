-- A state in form (document 01, "State bytes"): "all ranges and counts above, reading below 2^58, left at most right, normal form, no empty term,
-- no own name, zeros in all that is unused." Once as a test of the bytes, which is what each call makes first, and once of the state that
-- they hold. Assumes nothing: these are definitions.
use Rattle.std.specs.Prelude.{ℕ, ◌+◌, Bool, ◌&&◌, not, List, length, drop, leb, ltb, eqb}
use Rattle.std.proofs.Math.Seq.{slice}
use Rattle.numbers.specs.Numbers.{num}
use Rattle.names.specs.Sets.{no_set, has}
use Rattle.std.specs.List.{list_all}
use Rattle.predicates.specs.Lists.{all_below}
use Rattle.predicates.specs.Predicates.{is_normal}
use Rattle.ends.specs.Ends.{million}
use Rattle.epochs.specs.Epochs.{epoch_most, epochs_most, epochs_in}
use Rattle.clocks.specs.Clocks.{saved_ok}
use Rattle.clocks.specs.Places.{place_fits}
use Rattle.state.specs.Model.{Datum, Head, Store, State, name_most, end_limit, reading_limit}
use Rattle.clocks.specs.Clocks.{drift_most}
use Rattle.state.specs.Layout.{own_at, drift_at, reading_at, row_in, left_millionths_in}
use Rattle.state.specs.Layout.{right_millionths_in, data_most, datum_terms, entries_most, entry_terms}
use Rattle.state.specs.Layout.{datum_place, entry_place, masks_at, row_at, datum_at, held_count, entry_count, clocks_most, clock_place, epochs_at}

-- ---- terms and predicates

-- a term of a state: "no empty term", names 0 to 28, "no own name"
unfoldable pub term_fits : ℕ → ℕ → Bool
term_fits own t = ltb 0 t && (ltb t no_set && not (has own t))

-- a predicate of 1 to `width` terms: "a datum has 1 to 8 terms, an entry 1 to 16"
unfoldable pub terms_fit : ℕ → ℕ → List ℕ → Bool
terms_fit own width p = leb 1 (length p) && (leb (length p) width && (is_normal p && list_all (term_fits own) p))

-- ---- the bytes

-- every byte from `from` up to `to` is zero
unfoldable pub is_zero : ℕ → ℕ → List ℕ → Bool
is_zero from to s = list_all (λ b. eqb b 0) (slice from to s)

-- the row at `at`: its count, the terms in use, and zeros in the masks that are not
unfoldable pub row_fits : ℕ → ℕ → ℕ → List ℕ → Bool
row_fits own width at s =
    leb 1 (num at 4 s) && (leb (num at 4 s) width
    && (is_normal (row_at width at s)
    && (list_all (term_fits own) (row_at width at s) && list_all (λ t. eqb t 0) (drop (num at 4 s) (masks_at width at s)))))

-- millionths "0 to 999,999" (document 02, W-205), "left at most right", both with their millionths, and none above 2^58 − 1
unfoldable pub datum_fits : ℕ → List ℕ → ℕ → Bool
datum_fits own s i =
    ltb (num (datum_place i + left_millionths_in) 4 s) million
    && (ltb (num (datum_place i + right_millionths_in) 4 s) million
    && (leb (datum_at s i).left (datum_at s i).right
    && (ltb (datum_at s i).right end_limit && row_fits own datum_terms (datum_place i + row_in) s)))

unfoldable pub entry_fits : ℕ → List ℕ → ℕ → Bool
entry_fits own s i = row_fits own entry_terms (entry_place i) s

-- own name at most 28, drift at most 1,000, reading below 2^58, "At most 16 data and 32 entries"
unfoldable pub head_fits : List ℕ → Bool
head_fits s =
    leb (num own_at 4 s) name_most
    && (leb (num drift_at 4 s) drift_most
    && (ltb (num reading_at 8 s) reading_limit && (leb (held_count s) data_most && leb (entry_count s) entries_most)))

-- the places in use fit, and the others are zero
unfoldable pub data_fit : List ℕ → Bool
data_fit s = all_below (held_count s) (datum_fits (num own_at 4 s) s) && is_zero (datum_place (held_count s)) (datum_place data_most) s

unfoldable pub entries_fit : List ℕ → Bool
entries_fit s = all_below (entry_count s) (entry_fits (num own_at 4 s) s) && is_zero (entry_place (entry_count s)) (entry_place entries_most) s

-- each name's place, saved or not, the own one's too
unfoldable pub clocks_fit : List ℕ → Bool
clocks_fit s = all_below clocks_most (λ i. place_fits (clock_place i) s)

-- each epoch is one, "0 to 15", the own one too
unfoldable pub epochs_fit : List ℕ → Bool
epochs_fit s = list_all (λ e. leb e epoch_most) (epochs_in epochs_at s)

-- "In form", of a buffer of at least a state's size
unfoldable pub in_form : List ℕ → Bool
in_form s = head_fits s && (data_fit s && (entries_fit s && (clocks_fit s && epochs_fit s)))

-- ---- the state: what being in form means of it. The head, the store and the counts stand apart, since later parts join them one by one

unfoldable pub head_ok : Head → Bool
head_ok h =
    leb h.own name_most
    && (leb h.drift drift_most
    && (ltb h.reading reading_limit
    && (eqb (length h.clocks) clocks_most
    && (list_all saved_ok h.clocks && (eqb (length h.epochs) epochs_most && list_all (λ e. leb e epoch_most) h.epochs)))))

unfoldable pub datum_ok : ℕ → Datum → Bool
datum_ok own d = leb d.left d.right && (ltb d.right end_limit && terms_fit own datum_terms d.terms)

unfoldable pub store_ok : ℕ → Store → Bool
store_ok own k = list_all (datum_ok own) k.held && list_all (terms_fit own entry_terms) k.entries

unfoldable pub counts_ok : Store → Bool
counts_ok k = leb (length k.held) data_most && leb (length k.entries) entries_most

unfoldable pub state_ok : State → Bool
state_ok st = head_ok st.head && (store_ok st.head.own st.store && counts_ok st.store)
