-- Receipts in two orders of which the premises of `AnyOrder` hold: receipts of one sender change places with each other and with one of it that has
-- readings, and so do readings of an older name. What comes of the bytes is in the table of cases; the premises are computed on the states that the
-- bytes hold (`proofs.DecodedRuns`). Assumes nothing.
use Prim.Native.Nat.{ℕ, zero, suc, ◌≤◌}
use mathlib.Core.Path.{◌≡◌, refl, sym, ap, subst, ◌∙◌}
use mathlib.Core.Logic.{◌⊎◌, inl, inr}
use mathlib.Core.Bool.{Bool, true, false, ◌&&◌, not}
use mathlib.Core.List.Permᴰ
use mathlib.Core.List.{List, [], ◌∷◌}
use native.Mathlib.Nat.{le_refl}
use native.Mathlib.Omega.{arith}
use lib.Dec.{T, eqb, eqb→eq}
use lib.ListN.{get_or, set, replicate}
use Rattle.names.specs.Sets.{subset, set_union, minus, has}
use Rattle.numbers.specs.Numbers.{num, bytes, tab, words_of, bytes_of}
use Rattle.std.specs.List.{list_all, filter}
use Rattle.predicates.specs.Predicates.{holds, implies, is_true, is_normal, struck, insert_rising, rising, minimal, normal, formed}
use Rattle.predicates.proofs.ListLaws.{both_l, both_r, split, all_in, all_out, keep-none, perm_in}
use Rattle.epochs.specs.Epochs.{epochs_most, withdraw, older, raised, told, spoken}
use Rattle.clocks.specs.Clocks.{nothing, readings_fail, violated_by, watched}
use Rattle.message.specs.Words.{of_kind, masks, word_sum, check}
use Rattle.message.specs.Read.{head_word_fits, is_ends, opens, width, span_kinds, middle, kinds_fit, check_fits, pair, span, with_span}
use Rattle.message.specs.Read.{shape_refusal, contents, term_words}
use Rattle.message.specs.Write.{end_words, front, body, message_words}
use Rattle.radio.specs.Names.{named, wanted, rises, names_fit, names_of}
use Rattle.radio.specs.Read.{leading, epoch_count, epoch_part, epoch_words_fit, read_words, epoch_words}
use Rattle.state.specs.Model.{Head}
use Rattle.state.specs.Layout.{clocks_most}
use Rattle.entries.specs.Entries.{explained, learn, withdrawn_entries}
use Rattle.steps.specs.Steps.{disjoint, learnt, unexplained, same, meet, met, without, betters, stored, held_after, settled, received, judged, too_many}
use Rattle.steps.specs.Withdrawn.{withdrawn_data, withdrawn}
use Rattle.engine.specs.Ageing.{least_advance, greatest_advance}
use Rattle.engine.specs.Receiving.{grown}
use Rattle.engine.specs.Hearing.{spoken_by, risen, late, cleared, hearing, heeded, arrived}
use Rattle.engine.specs.Calls.{begun, set_up, violated, moved, made, done}
use Rattle.engine.specs.Refusals.{passes_end, receipt_refusal}
use Rattle.monitor.specs.Messages.{read_bytes}
use Rattle.monitor.specs.Receive.{delivered, delivered_as, delivered_number, delivered_state}
use Rattle.runs.specs.Book.{Request, Step, opened, lines_of, entered, entered_delivery, entered_request, noted, book_of}
use Rattle.runs.specs.Runs.{request_number, steps, begin, bytes_after, bytes_run, state_after, steps_of, book}
use Rattle.runs.specs.Orders.{Reordered, NoEpochChange, NoneRefused, carries, ReadingsKept, OneBatch}
use Rattle.runs.specs.Cases.{CaseComes, steady, mended, given, holding, one_order, other_order, held_one, held_other, order_cases, cases, EachCase}
use Rattle.runs.specs.Example.{mended_run, OrderExample}
use Rattle.runs.proofs.DecodedRuns.{number_on, done_by, next, steps_from, run_steps}
use Rattle.runs.proofs.WorkedCases.{each_case}

-- ---- the premises, after the mending

-- nothing is saved, and of 1 the epoch 1 is known
mended_head : Head
mended_head = record { own = 5; drift = 0; reading = 0; clocks = replicate clocks_most nothing; epochs = set (replicate epochs_most 0) 1 1 }

-- the older epoch of 1
late_below : (es : List ℕ) (n : ℕ) → get_or (0 ∷ 0 ∷ es) n 0 ≤ get_or (0 ∷ 1 ∷ es) n 0
late_below es zero = le_refl 0
late_below es (suc zero) = omega arith
late_below es (suc (suc n)) = le_refl (get_or es n 0)

abbrev Kept : ℕ → Type 0
Kept n = filter (carries mended_head n) one_order ≡ filter (carries mended_head n) other_order

-- it carries no readings of n that are heeded
abbrev untimed_by : ℕ → Request → Bool
untimed_by n q = not (carries mended_head n q)

-- where n is neither 2 nor 3, whose readings are: a tells whether it is 1, whose are not
none_else : (a b c : Bool) → T (not b) → T (not c)
    → T (not (b && false) && (not (b && false) && (not (b && true) && (not (a && false) && (not (a && false) && (not (c && true) && true))))))
none_else a true c s t = absurd s
none_else a false true s t = absurd t
none_else true false false s t = tt
none_else false false false s t = tt

record Computed : Type 0 where
  head : (book_of (opened (steady 5)) (steps_from (set_up (steady 5)) (mended 0 10 ∷ []))).head ≡ mended_head
  quiet : NoEpochChange mended_head one_order
  two : Kept 2
  three : Kept 3
  others : (n : ℕ) → T (not (eqb 2 n)) → T (not (eqb 3 n)) → T (list_all (untimed_by n) one_order)

computed : Computed
unfolding mended_head
    subset set_union has holds implies is_true is_normal struck insert_rising rising minimal normal formed
    num bytes tab words_of bytes_of
    of_kind masks word_sum check head_word_fits is_ends opens width span_kinds middle kinds_fit check_fits
    pair span with_span shape_refusal contents read_words term_words
    end_words front body message_words read_bytes
    minus withdraw older raised told spoken named wanted rises names_fit names_of leading epoch_count epoch_part epoch_words_fit epoch_words
    spoken_by risen late cleared hearing heeded arrived withdrawn_data withdrawn_entries withdrawn
    least_advance greatest_advance grown disjoint explained learn learnt unexplained same meet met without betters stored held_after settled received
    readings_fail violated_by watched violated judged
    begun set_up moved made done passes_end too_many receipt_refusal
    delivered delivered_as delivered_number delivered_state
    opened lines_of entered entered_delivery entered_request noted book_of
    number_on done_by next steps_from
computed =
    let known : (n : ℕ) → get_or mended_head.epochs n 0 ≤ get_or mended_head.epochs n 0 = λ n. le_refl (get_or mended_head.epochs n 0) in
    let late-one = late_below (replicate 27 0) in
    record {
      head = refl;
      quiet = (known, (known, (known, (late-one, (late-one, (known, tt))))));
      two = refl;
      three = refl;
      others = λ n. none_else (eqb 1 n) (eqb 2 n) (eqb 3 n);
    }

order : Reordered one_order other_order
order = Permᴰ.symm (Permᴰ.reverse one_order)

kept : ReadingsKept mended_head one_order other_order
kept n = go (split (eqb 2 n)) (split (eqb 3 n))
  where
    go : T (eqb 2 n) ⊎ T (not (eqb 2 n)) → T (eqb 3 n) ⊎ T (not (eqb 3 n)) → Kept n
    go (inl t) c = subst Kept (eqb→eq 2 n t) computed.two
    go (inr b) (inl t) = subst Kept (eqb→eq 3 n t) computed.three
    go (inr b) (inr c) =
        let one = computed.others n b c in
        let other = all_in (untimed_by n) other_order (λ q m. all_out (untimed_by n) one_order one q (perm_in (Permᴰ.reverse one_order) q m)) in
        keep-none (carries mended_head n) one_order one ∙ sym (keep-none (carries mended_head n) other_order other)

-- ---- on bytes

none-refused : (qs : List Request) (s : List ℕ) → T (list_all (λ (p : Step). eqb p.number 0) (steps s qs)) → NoneRefused s qs
unfolding steps
none-refused [] s t = tt
none-refused (q ∷ qs) s t =
    let first = eqb (request_number s q) 0 in
    let rest = list_all (λ (p : Step). eqb p.number 0) (steps (bytes_after s q) qs) in
    (eqb→eq (request_number s q) 0 (both_l first rest t), none-refused qs (bytes_after s q) (both_r first rest t))

pub order_example : OrderExample
unfolding OrderExample EachCase cases order_cases begin state_after steps_of bytes_run book
order_example buffer room =
    let one : CaseComes (given (steady 5) (mended 0 10 ∷ one_order) (holding held_one)) buffer = each_case _ (inl refl) buffer room in
    let other : CaseComes (given (steady 5) (mended 0 10 ∷ other_order) (holding held_other)) buffer = each_case _ (inr (inl refl)) buffer room in
    let r = mended_run buffer one.begins in
    let head = ap (λ (ps : List Step). (book_of (opened (steady 5)) ps).head) (run_steps r) ∙ computed.head in
    record {
      begins = one.begins;
      batch =
          subst (λ (h : Head). OneBatch h one_order other_order) (sym head)
          record { order = order; still = tt; quiet = computed.quiet; kept = kept };
      taken_one = (none-refused (mended 0 10 ∷ one_order) (begin r) one.taken).1;
      taken_other = (none-refused (mended 0 10 ∷ other_order) (begin r) other.taken).1;
      holds_one = one.comes;
      holds_other = other.comes;
    }
