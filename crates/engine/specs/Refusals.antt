-- The refusals of setting up, ageing and receiving on the state as lists (document 01, "Who can cause which refusal"), in document 01's order.
-- The refusals of the buffer, the form and the message's words (24, 25, 10 to 17) are tested on the bytes. 0 means taken.
-- Assumes nothing: these are definitions.
use Rattle.std.specs.Prelude.{ℕ, Bool, ◌||◌, eqb, leb, ltb, length}
use Rattle.std.specs.List.{list_any}
use Rattle.epochs.specs.Epochs.{epoch_most}
use Rattle.state.specs.Model.{Datum, Head, Store, State, name_most, end_limit, reading_limit}
use Rattle.clocks.specs.Clocks.{drift_most}
use Rattle.state.specs.Layout.{datum_terms}
use Rattle.state.specs.Refusal.{refuse}
use Rattle.engine.specs.Ageing.{slow, fast, aged}
use Rattle.engine.specs.Receiving.{Delivery, grown}
use Rattle.engine.specs.Hearing.{arrived}
use Rattle.steps.specs.Steps.{too_many}
use Rattle.engine.specs.Calls.{Setup, receive, made}

-- ---- setting up

-- "1 own name above 28; 2 drift above 1,000; 3 reading 2^58 or more (also in ageing)"
abbrev pub own_fails : ℕ → Bool
own_fails own = ltb name_most own

abbrev pub drift_fails : ℕ → Bool
drift_fails drift = ltb drift_most drift

abbrev pub reading_fails : ℕ → Bool
reading_fails reading = leb reading_limit reading

-- "41 own epoch above 15, after 1" (document 02, W-204)
abbrev pub epoch_fails : ℕ → Bool
epoch_fails epoch = ltb epoch_most epoch

-- "setting up 24, 1, 2, 3", with 41 after 1
unfoldable pub set_up_refusal : Setup → ℕ
set_up_refusal u =
    refuse (own_fails u.own) 1
    (refuse (epoch_fails u.epoch) 41
    (refuse (drift_fails u.drift) 2
    (refuse (reading_fails u.reading) 3 0)))

-- ---- ageing

-- "20 reading below the last"
abbrev pub goes_back : Head → ℕ → Bool
goes_back h reading = ltb reading h.reading

-- "30 an end would pass 2^58 − 1": one of the datum's two ends, "with its fraction" (document 02, W-205), lies beyond it. Where left is at most
-- right, the right end decides, and the code tests no other (`ages_right` and `grows_right` of `proofs.EndLaws`)
abbrev pub an_end_passes : Datum → Bool
an_end_passes d = leb end_limit d.left || leb end_limit d.right

-- of a held datum
unfoldable pub passes_end : Store → Bool
passes_end k = list_any an_end_passes k.held

-- an ageing to the reading would pass it
abbrev pub ages_past : State → ℕ → Bool
ages_past st reading = passes_end (aged (slow st.head reading) (fast st.head reading) st.store)

-- "Ageing 24, 25, 3, 20, 30"
unfoldable pub age_refusal : State → ℕ → ℕ
age_refusal st reading =
    refuse (reading_fails reading) 3
    (refuse (goes_back st.head reading) 20
    (refuse (ages_past st reading) 30 0))

-- ---- receiving

-- the greatest delay that a channel may have
abbrev pub delay_most : ℕ
delay_most = 600_000_000

-- 21: "least delay above greatest, or greatest above" 600,000,000 (document 02, W-202)
abbrev pub delays_fail : ℕ → ℕ → Bool
delays_fail least greatest = ltb greatest least || ltb delay_most greatest

-- "18 sender is the own name"
abbrev pub from_self : State → Delivery → Bool
from_self st g = eqb g.sender st.head.own

-- 30, of the grown interval
abbrev pub grows_past : State → Delivery → Bool
grows_past st g = an_end_passes (grown st.head g)

-- "31 more than 8 terms in the new predicate's normal form, stored or not", once old names count as failed
abbrev pub terms_fail : State → Delivery → Bool
terms_fail st g = ltb datum_terms (length (arrived st.head g).terms)

-- "32 too many data or entries"
abbrev pub overfills : State → Delivery → Bool
overfills st g = too_many (made st.head st.store (receive g))

-- "18, 30, 31, 32; 30 comes also for a predicate that is true"
unfoldable pub receipt_refusal : State → Delivery → ℕ
receipt_refusal st g =
    refuse (from_self st g) 18
    (refuse (grows_past st g) 30
    (refuse (terms_fail st g) 31
    (refuse (overfills st g) 32 0)))
