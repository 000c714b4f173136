-- The example runs, computed on the states that their bytes hold (`proofs.DecodedRuns`): numbers and book of the one, also in a buffer of zeros; of two,
-- of which one takes further receipts, what is taken, and the premise of demand 3's second half. Assumes nothing.
use Prim.Native.Nat.{ℕ, ◌≤◌}
use mathlib.Core.Path.{◌≡◌, refl, ap, ◌∙◌}
use mathlib.Core.Logic.{inl, inr}
use mathlib.Core.List.{List, map}
use native.Mathlib.Nat.{le_refl}
use lib.ListN.{length, get_or, replicate, length-replicate}
use Rattle.names.specs.Sets.{subset, set_union, minus, has}
use Rattle.numbers.specs.Numbers.{num, bytes, tab, words_of, bytes_of}
use Rattle.predicates.specs.Predicates.{holds, implies, is_true, is_normal, struck, insert_rising, rising, minimal, normal, formed}
use Rattle.message.specs.Words.{of_kind, masks, word_sum, check}
use Rattle.message.specs.Read.{head_word_fits, is_ends, opens, width, span_kinds, middle, kinds_fit, check_fits, pair, span, with_span}
use Rattle.message.specs.Read.{shape_refusal, contents, term_words}
use Rattle.epochs.specs.Epochs.{epochs_most, withdraw, older, raised, told, spoken}
use Rattle.radio.specs.Names.{named, wanted, rises, names_fit, names_of}
use Rattle.radio.specs.Read.{leading, epoch_count, epoch_part, epoch_words_fit, read_words, epoch_words}
use Rattle.message.specs.Write.{end_words, front, body, message_words}
use Rattle.state.specs.Layout.{state_size, zeros}
use Rattle.entries.specs.Entries.{explained, learn, withdrawn_entries}
use Rattle.steps.specs.Steps.{disjoint, learnt, unexplained, same, meet, met, without, betters, stored, held_after, settled, received, blamed, swept, judged, too_many}
use Rattle.steps.specs.Withdrawn.{withdrawn_data, withdrawn}
use Rattle.engine.specs.Ageing.{least_advance, greatest_advance, slow, fast, widened, aged}
use Rattle.engine.specs.Receiving.{grown}
use Rattle.engine.specs.Hearing.{spoken_by, risen, late, cleared, hearing, heeded, arrived}
use Rattle.clocks.specs.Clocks.{strays, ahead_of, behind_of, saving, violates, readings_fail, violated_by, watched}
use Rattle.engine.specs.Calls.{begun, set_up, violated, moved, made, done}
use Rattle.engine.specs.Refusals.{set_up_refusal, passes_end, age_refusal, receipt_refusal}
use Rattle.monitor.specs.Messages.{read_bytes}
use Rattle.monitor.specs.Receive.{delivered, delivered_as, delivered_number, delivered_state}
use Rattle.runs.specs.Book.{Step, opened, lines_of, entered, entered_delivery, entered_request, noted, book_of}
use Rattle.runs.specs.Runs.{Run, book, taken_of, Further}
use Rattle.runs.specs.Cases.{usual}
use Rattle.runs.specs.Example.{example_setup, example_requests, example_numbers, example_lines, example_run, Example}
use Rattle.runs.specs.Example.{fewer_taken, fewer_requests, more_taken, more_requests, fewer_run, more_run, FurtherExample}
use Rattle.runs.proofs.DecodedRuns.{number_on, done_by, next, steps_from, set_up-taken, run_steps}

-- ---- on states

record OnStates : Type 0 where
  numbers : map (λ (p : Step). p.number) (steps_from (set_up example_setup) example_requests) ≡ example_numbers
  lines : (book_of (opened example_setup) (steps_from (set_up example_setup) example_requests)).lines ≡ example_lines
  fewer : taken_of (steps_from (set_up (usual 5)) fewer_requests) ≡ fewer_taken
  more : taken_of (steps_from (set_up (usual 5)) more_requests) ≡ more_taken
  premise : Further (opened (usual 5)) fewer_taken more_taken

on_states : OnStates
unfolding subset set_union has holds implies is_true is_normal struck insert_rising rising minimal normal formed
    num bytes tab words_of bytes_of
    of_kind masks word_sum check head_word_fits is_ends opens width span_kinds middle kinds_fit check_fits
    pair span with_span shape_refusal contents read_words term_words
    end_words front body message_words read_bytes
    minus withdraw older raised told spoken named wanted rises names_fit names_of leading epoch_count epoch_part epoch_words_fit epoch_words
    spoken_by risen late cleared hearing heeded arrived withdrawn_data withdrawn_entries withdrawn
    least_advance greatest_advance slow fast widened aged
    grown disjoint explained learn learnt unexplained same meet met without betters stored held_after settled received
    strays ahead_of behind_of saving violates readings_fail violated_by watched violated blamed swept judged
    begun set_up moved made done passes_end age_refusal too_many receipt_refusal
    delivered delivered_as delivered_number delivered_state
    opened lines_of entered entered_delivery entered_request noted book_of
    number_on done_by next steps_from taken_of example_requests example_numbers example_lines
on_states =
    -- no epoch is above the known one: all are 0
    let known : (n : ℕ) → get_or (replicate epochs_most 0) n 0 ≤ get_or (replicate epochs_most 0) n 0 = λ n. le_refl (get_or (replicate epochs_most 0) n 0) in
    record {
      numbers = refl;
      lines = refl;
      fewer = refl;
      more = refl;
      premise = inr ((refl, known), inl (refl, inr ((refl, known), inl (refl, inr ((refl, known), inl (refl, ((refl, known), tt)))))));
    }

begins-taken : (set_up_refusal example_setup ≡ 0) × (set_up_refusal (usual 5) ≡ 0)
unfolding set_up_refusal
begins-taken = (refl, refl)

-- ---- on bytes

pub example_holds : Example
unfolding Example book
example_holds buffer h =
    let begins = set_up-taken buffer example_setup h begins-taken.0 in
    let r = example_run buffer begins in (
      begins,
      ap (λ (ps : List Step). map (λ (p : Step). p.number) ps) (run_steps r) ∙ on_states.numbers,
      ap (λ (ps : List Step). (book_of (opened example_setup) ps).lines) (run_steps r) ∙ on_states.lines,
    )

-- the run in 5,393 zeros
pub example : Run
unfolding Example
example =
    let room : state_size ≤ length (zeros state_size) = rw (length-replicate {A = ℕ} state_size 0) (le_refl state_size) in
    example_run (zeros state_size) (example_holds (zeros state_size) room).0

pub further_example : FurtherExample
unfolding FurtherExample
further_example one other h k =
    let begins = set_up-taken one (usual 5) h begins-taken.1 in
    let begins-other = set_up-taken other (usual 5) k begins-taken.1 in
    let fewer = ap taken_of (run_steps (fewer_run one begins)) ∙ on_states.fewer in
    let more = ap taken_of (run_steps (more_run other begins-other)) ∙ on_states.more in
    record { begins = begins; begins_other = begins-other; taken_fewer = fewer; taken_more = more; further = rw (fewer, more) on_states.premise }
