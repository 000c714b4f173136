-- The cases of document 01 ("Cases (P: to be proved)") and the answers of its listing hold of the exported calls.
-- The idea: each row is tested on the states that its bytes hold (`proofs.DecodedRuns`), with numbers that are written out, so the whole table
-- computes, the reading of the messages' bytes too; and a row that passes holds of the bytes. Assumes nothing.
use Prim.Native.Nat.{ℕ, ◌≤◌}
use mathlib.Core.Path.{◌≡◌, refl, ap, subst, ◌∙◌}
use mathlib.Core.Bool.{Bool, true, false, ◌&&◌}
use mathlib.Core.List.{List, [], ◌∷◌, ◌++◌}
use native.Mathlib.Omega.{arith}
use lib.Dec.{T, eqb, eqb→eq, nltb→le}
use lib.ListN.{length, get_or, length-append}
use Rattle.names.specs.Sets.{subset, set_union, minus, has}
use Rattle.numbers.specs.Numbers.{num, bytes, tab, words_of, bytes_of}
use Rattle.std.specs.List.{list_all}
use Rattle.predicates.specs.Predicates.{holds, implies, is_true, is_normal, struck, insert_rising, rising, minimal, normal, formed}
use Rattle.predicates.proofs.ListLaws.{both_l, both_r, T_true, all_out}
use Rattle.message.specs.Words.{of_kind, masks, word_sum, check}
use Rattle.message.specs.Read.{head_word_fits, is_ends, opens, width, span_kinds, middle, kinds_fit, check_fits, pair, span, with_span}
use Rattle.message.specs.Read.{shape_refusal, contents, term_words}
use Rattle.epochs.specs.Epochs.{withdraw, older, raised, told, spoken}
use Rattle.radio.specs.Names.{named, wanted, rises, names_fit, names_of}
use Rattle.radio.specs.Read.{leading, epoch_count, epoch_part, epoch_words_fit, read_words, epoch_words}
use Rattle.message.specs.Write.{end_words, front, body, message_words}
use Rattle.state.specs.Model.{Datum, datum, State}
use Rattle.state.specs.Layout.{state_size, state_bytes, head_of, store_of, state_of}
use Rattle.state.specs.Form.{term_fits, terms_fit, datum_ok, head_ok, store_ok, counts_ok, state_ok, in_form}
use Rattle.state.proofs.StateLaws.{length-state, encode_form, decode_encode}
use Rattle.state.proofs.LentLaws.{refuse-none, lent_next}
use Rattle.entries.specs.Entries.{explained, learn, withdrawn_entries}
use Rattle.steps.specs.Steps.{disjoint, learnt, unexplained, same, meet, met, without, betters, stored, held_after, settled, received, blamed, swept, judged, too_many}
use Rattle.steps.specs.Withdrawn.{withdrawn_data, withdrawn}
use Rattle.steps.proofs.ReceiveLaws.{same_out}
use Rattle.engine.specs.Ageing.{least_advance, greatest_advance, slow, fast, widened, aged}
use Rattle.engine.specs.Receiving.{grown}
use Rattle.engine.specs.Hearing.{spoken_by, risen, late, cleared, hearing, heeded, arrived}
use Rattle.clocks.specs.declared.Triple.{Triple}
use Rattle.clocks.specs.Clocks.{saved_ok, strays, ahead_of, behind_of, Saved, nothing, three, saving, violates, readings_fail, violated_by, watched}
use Rattle.clocks.specs.Worked.{triple}
use Rattle.engine.specs.Calls.{begun, set_up, clock_of, violated, moved, made, done}
use Rattle.engine.specs.Refusals.{set_up_refusal, passes_end, age_refusal, receipt_refusal}
use Rattle.asking.specs.declared.Answer.{Answer}
use Rattle.asking.specs.declared.Answer.TheVariants.{Contradicted, Open, Between}
use Rattle.asking.specs.Asking.{cut, common, active, leaves, sets_of, sets_within, either, left_by, exact, answer, answer_numbers}
use Rattle.monitor.specs.Messages.{read_bytes}
use Rattle.monitor.specs.Receive.{delivered, delivered_as, delivered_number, delivered_state}
use Rattle.monitor.specs.Calls.{age_number}
use Rattle.monitor.specs.Ask.{limit_most, limit_fails, limit_refusal, Shows, ask_number, ask_output}
use Rattle.runs.specs.Book.{Step}
use Rattle.runs.specs.Runs.{bytes_run, state_after}
use Rattle.runs.specs.Cases.{Question, asking, refusing, holding, knowing, remembering, dating, forming, advancing, returning, setting_up, Case, Comes, run_of, CaseComes, order_cases, clock_cases, limit_cases, cases, EachCase, Lent, LentComes, fractions, EachLent}
use Rattle.runs.proofs.DecodedRuns.{number_on, done_by, next, steps_from, state_from, set_up_number_lem, set_up-taken, number_on_lem, steps_run, state_run, form_run, long_run, run_steps, run_state}
use Rattle.runs.proofs.Runs.{reached}
use Rattle.runs.proofs.Demand3.{ask-answers}

-- ---- a row as a test

module _ {A : Type 0} where
  -- the same elements in the same order, where f tells which elements are the same
  abbrev alike : (A → A → Bool) → List A → List A → Bool
  alike f [] [] = true
  alike f [] (y ∷ ys) = false
  alike f (x ∷ xs) [] = false
  alike f (x ∷ xs) (y ∷ ys) = f x y && alike f xs ys

unfoldable same_datum : Datum → Datum → Bool
same_datum d e = eqb d.left e.left && (eqb d.right e.right && same d.terms e.terms)

unfoldable same_triple : Triple → Triple → Bool
same_triple t u = eqb t.there u.there && (eqb t.here u.here && eqb t.half u.half)

unfoldable same_saved : Saved → Saved → Bool
same_saved nothing nothing = true
same_saved nothing (three p a b) = false
same_saved (three p a b) nothing = false
same_saved (three p a b) (three q c d) = same_triple p q && (same_triple a c && same_triple b d)

unfoldable same_answer : Answer → Answer → Bool
same_answer Contradicted Contradicted = true
same_answer Contradicted Open = false
same_answer Contradicted (Between m s) = false
same_answer Open Contradicted = false
same_answer Open Open = true
same_answer Open (Between m s) = false
same_answer (Between l r) Contradicted = false
same_answer (Between l r) Open = false
same_answer (Between l r) (Between m s) = eqb l m && eqb r s

unfoldable meets : State → Question → Bool
meets st (asking limit a) = eqb (limit_refusal limit 0) 0 && same_answer (answer limit st) a
meets st (refusing limit number) = limit_fails limit && eqb (limit_refusal limit 0) number
meets st (holding ds) = alike same_datum st.store.held ds
meets st (knowing es) = alike same st.store.entries es
meets st (remembering name v) = same_saved (clock_of st.head name) v
meets st (dating identifier epoch) = eqb (get_or st.head.epochs identifier 0) epoch
meets st (forming sender terms p) = same (formed st.head.own sender terms) p
meets st (advancing reading lo hi) = eqb (age_refusal st reading) 0 && (eqb (slow st.head reading) lo && eqb (fast st.head reading) hi)
meets st (returning q number) = eqb (number_on st q) number
meets st (setting_up u number) = eqb (set_up_refusal u) number

unfoldable passes : Case → Bool
passes c =
    eqb (set_up_refusal c.setup) 0
    && (list_all (λ (p : Step). eqb p.number 0) (steps_from (set_up c.setup) c.requests)
    && meets (state_from (set_up c.setup) c.requests) c.question)

each_passes : T (list_all passes cases)
unfolding subset set_union has holds implies is_true is_normal struck insert_rising rising minimal normal formed
    num bytes tab words_of bytes_of
    of_kind masks word_sum check head_word_fits is_ends opens width span_kinds middle kinds_fit check_fits
    pair span with_span shape_refusal contents read_words term_words
    end_words front body message_words read_bytes
    minus withdraw older raised told spoken named wanted rises names_fit names_of leading epoch_count epoch_part epoch_words_fit epoch_words
    spoken_by risen late cleared hearing heeded arrived withdrawn_data withdrawn_entries withdrawn
    least_advance greatest_advance slow fast widened aged
    grown disjoint explained learn learnt unexplained same meet met without betters stored held_after settled received
    strays ahead_of behind_of saving violates readings_fail violated_by watched violated blamed swept judged
    begun set_up moved made done set_up_refusal passes_end age_refusal too_many receipt_refusal
    delivered delivered_as delivered_number delivered_state
    cut common active leaves sets_of sets_within either left_by exact answer
    number_on done_by next steps_from state_from same_datum same_triple same_saved same_answer meets passes cases order_cases clock_cases limit_cases
each_passes = tt

-- ---- what a test tells

module _ {A : Type 0} (f : A → A → Bool) (out : (x y : A) → T (f x y) → x ≡ y) where
  alike_out : (xs ys : List A) → T (alike f xs ys) → xs ≡ ys
  alike_out [] [] t = refl
  alike_out [] (y ∷ ys) t = absurd t
  alike_out (x ∷ xs) [] t = absurd t
  alike_out (x ∷ xs) (y ∷ ys) t = rw (out x y (both_l (f x y) (alike f xs ys) t), alike_out xs ys (both_r (f x y) (alike f xs ys) t))

same-datum_out : (d e : Datum) → T (same_datum d e) → d ≡ e
unfolding same_datum
same-datum_out d e t =
    let l : d.left ≡ e.left = eqb→eq d.left e.left (search both_l) in
    let r : d.right ≡ e.right = eqb→eq d.right e.right (search (both_l, both_r) depth 9) in
    let p : d.terms ≡ e.terms = same_out d.terms e.terms (search (both_l, both_r) depth 9) in
    ap (λ (x : ℕ). datum x d.right d.terms) l ∙ ap (λ (x : ℕ). datum e.left x d.terms) r
    ∙ ap (λ (x : List ℕ). datum e.left e.right x) p

same-triple_out : (t u : Triple) → T (same_triple t u) → t ≡ u
unfolding same_triple
same-triple_out t u h =
    let a : t.there ≡ u.there = eqb→eq t.there u.there (search both_l) in
    let b : t.here ≡ u.here = eqb→eq t.here u.here (search (both_l, both_r) depth 9) in
    let w : t.half ≡ u.half = eqb→eq t.half u.half (search (both_l, both_r) depth 9) in
    ap (λ (x : ℕ). triple x t.here t.half) a ∙ ap (λ (x : ℕ). triple u.there x t.half) b ∙ ap (λ (x : ℕ). triple u.there u.here x) w

same-saved_out : (v w : Saved) → T (same_saved v w) → v ≡ w
unfolding same_saved
same-saved_out nothing nothing h = refl
same-saved_out nothing (three p a b) h = absurd h
same-saved_out (three p a b) nothing h = absurd h
same-saved_out (three p a b) (three q c d) h =
    let x = same-triple_out p q (both_l (same_triple p q) (same_triple a c && same_triple b d) h) in
    let low = both_r (same_triple p q) (same_triple a c && same_triple b d) h in
    rw (x, same-triple_out a c (both_l (same_triple a c) (same_triple b d) low), same-triple_out b d (both_r (same_triple a c) (same_triple b d) low))

same-answer_out : (a b : Answer) → T (same_answer a b) → a ≡ b
unfolding same_answer
same-answer_out Contradicted Contradicted t = refl
same-answer_out Contradicted Open t = absurd t
same-answer_out Contradicted (Between m s) t = absurd t
same-answer_out Open Contradicted t = absurd t
same-answer_out Open Open t = refl
same-answer_out Open (Between m s) t = absurd t
same-answer_out (Between l r) Contradicted t = absurd t
same-answer_out (Between l r) Open t = absurd t
same-answer_out (Between l r) (Between m s) t = rw (eqb→eq l m (both_l (eqb l m) (eqb r s) t), eqb→eq r s (both_r (eqb l m) (eqb r s) t))

module _ (s : List ℕ) (h : state_size ≤ length s) (t : T (in_form s)) where
  question-comes : (q : Question) → T (meets (state_of s) q) → Comes s q
  unfolding meets ask_number age_number state_of
  question-comes (asking limit a) p = λ out k.
      let l = refuse-none (limit_fails limit) _ 0 (omega arith) (eqb→eq (limit_refusal limit 0) 0 (both_l (eqb (limit_refusal limit 0) 0) _ p)) in
      let told = ask-answers s h t out limit (nltb→le limit_most limit l.0) k in
      let comes = same-answer_out (answer limit (state_of s)) a (both_r (eqb (limit_refusal limit 0) 0) _ p) in
      (told.0, subst (λ (x : Answer). Shows (ask_output s limit out) (answer_numbers x)) comes told.1)
  question-comes (refusing limit number) p = λ out.
      let over = T_true (limit_fails limit) (both_l (limit_fails limit) _ p) in
      lent_next s _ h t ∙ rw over (rw over at (eqb→eq (limit_refusal limit 0) number (both_r (limit_fails limit) _ p)))
  question-comes (holding ds) p = alike_out same_datum same-datum_out (store_of s).held ds p
  question-comes (knowing es) p = alike_out same same_out (store_of s).entries es p
  question-comes (remembering name v) p = same-saved_out (clock_of (head_of s) name) v p
  question-comes (dating identifier epoch) p = eqb→eq (get_or (head_of s).epochs identifier 0) epoch p
  question-comes (forming sender terms q) p = same_out (formed (head_of s).own sender terms) q p
  question-comes (advancing reading lo hi) p = (
    lent_next s (age_refusal (state_of s) reading) h t ∙ eqb→eq (age_refusal (state_of s) reading) 0 (search both_l),
    eqb→eq (slow (head_of s) reading) lo (search (both_l, both_r) depth 9),
    eqb→eq (fast (head_of s) reading) hi (search (both_l, both_r) depth 9),
  )
  question-comes (returning q number) p = number_on_lem s h t q ∙ eqb→eq (number_on (state_of s) q) number p
  question-comes (setting_up u number) p = set_up_number_lem s u h ∙ eqb→eq (set_up_refusal u) number p

case_comes : (c : Case) → T (passes c) → (buffer : List ℕ) → state_size ≤ length buffer → CaseComes c buffer
unfolding passes
case_comes c p buffer h =
    let fits : T (eqb (set_up_refusal c.setup) 0) = search both_l in
    let begins = set_up-taken buffer c.setup h (eqb→eq (set_up_refusal c.setup) 0 fits) in
    let r = run_of c buffer begins in
    let so = reached r in
    record {
      begins = begins;
      taken = rw (run_steps r) (search (both_l, both_r) depth 9);
      comes = question-comes (state_after r) so.long so.form c.question (rw (run_state r) (search (both_l, both_r) depth 9));
    }

-- ---- rows on a state

lent_passes : Lent → Bool
lent_passes c =
    state_ok c.state
    && (list_all (λ (p : Step). eqb p.number 0) (steps_from c.state c.requests) && meets (state_from c.state c.requests) c.question)

each-lent_passes : T (list_all lent_passes fractions)
unfolding subset set_union has holds implies is_true is_normal struck insert_rising rising minimal normal formed
    num bytes tab words_of bytes_of
    of_kind masks word_sum check head_word_fits is_ends opens width span_kinds middle kinds_fit check_fits
    pair span with_span shape_refusal contents read_words term_words
    end_words front body message_words read_bytes
    minus withdraw older raised told spoken named wanted rises names_fit names_of leading epoch_count epoch_part epoch_words_fit epoch_words
    spoken_by risen late cleared hearing heeded arrived withdrawn_data withdrawn_entries withdrawn
    least_advance greatest_advance slow fast widened aged
    grown disjoint explained learn learnt unexplained same meet met without betters stored held_after settled received
    strays ahead_of behind_of saving violates readings_fail violated_by watched violated blamed swept judged
    begun set_up moved made done set_up_refusal passes_end age_refusal too_many receipt_refusal
    delivered delivered_as delivered_number delivered_state
    cut common active leaves sets_of sets_within either left_by exact answer
    number_on done_by next steps_from state_from same_datum same_triple same_saved same_answer meets state_ok head_ok store_ok counts_ok datum_ok terms_fit term_fits saved_ok lent_passes fractions
each-lent_passes = tt

lent-comes : (c : Lent) → T (lent_passes c) → (rest : List ℕ) → LentComes c rest
unfolding lent_passes
lent-comes c p rest =
    let right : T (state_ok c.state) = search both_l in
    let s = state_bytes c.state ++ rest in
    let long : state_size ≤ length s = omega (arith, length-append (state_bytes c.state) rest, length-state c.state right) in
    let form = encode_form c.state right rest in
    let read = decode_encode c.state right rest in
    record {
      right = right;
      taken = rw (steps_run c.requests s long form, read) (search (both_l, both_r) depth 9);
      comes = question-comes (bytes_run s c.requests) (long_run c.requests s long form) (form_run c.requests s long form) c.question
          (rw (state_run c.requests s long form, read) (search (both_l, both_r) depth 9));
    }

pub each_lent : EachLent
unfolding EachLent
each_lent c i = lent-comes c (all_out lent_passes fractions each-lent_passes c i)

pub each_case : EachCase
unfolding EachCase
each_case c i = case_comes c (all_out passes cases each_passes c i)
