-- Demand 1 over all exported calls.
-- The idea: a number is a nest of tests, and so is the first failing test of a list; they are the same nest once a reading is taken apart test by
-- test. The lent bytes have one shape for all calls (`after`): a refusal leaves them, and a taken call stores as many bytes as its layout
-- names, since it stores a right state, three or two or four numbers of 8 bytes, or a message in ends form. Assumes nothing.
use Prim.Native.Nat.{ℕ, ◌+◌, ◌-◌, ◌%◌, ◌≤◌}
use mathlib.Core.Path.{◌≡◌, refl, sym, ap, ◌∙◌}
use mathlib.Core.Bool.{Bool, true, false, not, cond, ◌||◌}
use mathlib.Core.List.{List, [], ◌∷◌, ◌++◌, map}
use mathlib.Core.Logic.{inl, inr}
use native.Mathlib.Omega.{arith}
use borrow.Author.Tests.{le-ltb, lt-ltb, le-leb, lt-leb, leb-true, leb-false, ltb-true, ltb-false}
use lib.Dec.{T, ltb, leb, eqb, eqb→eq, ltb→lt, nltb→le}
use lib.ListN.{length, get_or, drop}
use Rattle.numbers.specs.Numbers.{bytes, bytes_of, words_of, put, num}
use Rattle.predicates.specs.Predicates.{is_normal}
use Rattle.std.specs.List.{list_all}
use Rattle.predicates.specs.Lists.{In}
use Rattle.predicates.proofs.ListLaws.{cond_ind, both_l, both_r}
use Rattle.ends.specs.Ends.{down, up}
use Rattle.message.specs.Words.{payload, masks, ends_limit}
use Rattle.message.specs.Read.{sender_of, term_count, head_word_fits, is_ends, opens, start, span, pair, middle, kinds_fit, check_fits, with_span}
use Rattle.message.specs.Read.{shape_refusal, contents, refused_or}
use Rattle.epochs.specs.Epochs.{epochs_in}
use Rattle.radio.specs.Names.{wanted, names_of}
use Rattle.radio.specs.Read.{words_least, words_most, epoch_count, opening, epoch_words_fit, read_words, epoch_words}
use Rattle.radio.specs.Write.{rewritten_as}
use Rattle.message.specs.Read.{Interval}
use Rattle.message.specs.Read.{Span, Bad}
use Rattle.message.specs.Read.{Reading}
use Rattle.message.specs.Read.{Message, Refused}
use Rattle.radio.proofs.ReadLaws.{read_out, length-live, length_part, epochs_part, refused-above}
use Rattle.message.proofs.MessageLaws.{length-message-more}
use Rattle.clocks.specs.declared.Triple.{Triple}
use Rattle.clocks.specs.Clocks.{readings_fail, with_drift}
use Rattle.state.specs.Layout.{state_size, state_of, own_at, epochs_at, datum_at, state_bytes, joined}
use Rattle.state.specs.Refusal.{refuse, lent, after}
use Rattle.state.specs.Form.{in_form}
use Rattle.state.proofs.PutLaws.{drop-put}
use Rattle.state.proofs.LentLaws.{after-refused, length-after, refuse-none, lent_passed}
use Rattle.state.proofs.StateLaws.{length-state, form_ok}
use Rattle.engine.specs.Refusals.{set_up_refusal, age_refusal, receipt_refusal, delays_fail}
use Rattle.engine.specs.Calls.{set_up, age, done}
use Rattle.engine.proofs.CallLaws.{set_up_ok, age_ok}
use Rattle.asking.specs.declared.Answer.{Answer}
use Rattle.asking.specs.declared.Answer.TheVariants.{Contradicted, Open, Between}
use Rattle.asking.specs.Asking.{answer, answer_numbers}
use Rattle.asking.specs.Fewest.{Fewest, Over, Few, fewest, fewest_numbers}
use Rattle.monitor.specs.Messages.{read_bytes, answered, reading_bytes, read_number, read_output, rewrite_number, rewrite_output, rewritten_bytes}
use Rattle.monitor.specs.code.Words.{words_in}
use Rattle.monitor.specs.Calls.{set_up_number, age_number, write_number, written_words, written_bytes, set_up_state, age_state, write_output}
use Rattle.monitor.specs.Receive.{Receipt, receipt_of, receipt_with, delivered, delivered_as, delivered_number, receive_number, delivered_state, receipt_number}
use Rattle.monitor.specs.Receive.{receive_state}
use Rattle.monitor.specs.Ask.{ask_number, fewest_number, wide, answer_size, fewest_size, asked_bytes, ask_output, fewest_bytes, fewest_output}
use Rattle.monitor.proofs.MessageCalls.{read_words_in, words_in-taken, length-rewritten_bytes}
use Rattle.monitor.proofs.CallLaws.{length-written_bytes}
use Rattle.monitor.proofs.FormKept.{delivered_ok, receive_passed}
use Rattle.runs.specs.Demand1.{Exported, returned, lent_bytes, left_bytes, listed, Test, first_failing, words_fail, count_fails, ends_fail}
use Rattle.runs.specs.Demand1.{layout_size, tests, Demand1, of_delivered, ends_form_size, names_written, output_tests, delivery_tests, test, too_short, monitor_set_up}
use Rattle.runs.specs.Demand1.{receipt_tests, monitor_receive_with_readings}
use Rattle.runs.specs.Demand1.{monitor_age, monitor_receive, monitor_ask, monitor_fewest, monitor_write, message_read, message_rewrite, message_tests}

-- ---- a message's tests

is_bad : Interval → Bool
is_bad Bad = true
is_bad (Span left right) = false

span_bad : (ws : List ℕ) → is_bad (span (opening ws) (is_ends (opening ws) ws) ws) ≡ ends_fail ws
unfolding span ends_fail is_bad
span_bad ws = go (is_ends (opening ws) ws)
  where
    first : ℕ
    first = pair ws (opening ws)

    second : ℕ
    second = pair ws (opening ws + 2)

    half : ℕ
    half = payload (get_or ws (opening ws + 2) 0)

    by_ends : (b : Bool) → leb first second ≡ b → is_bad (cond b (Span first second) Bad) ≡ ltb second first
    by_ends true e = rw (le-ltb second first (leb-true first second e))
    by_ends false e = rw (lt-ltb second first (leb-false first second e))

    by_half : (a b : Bool) → leb half first ≡ a → ltb (first + half) ends_limit ≡ b
        → is_bad (cond a (cond b (Span (first - half) (first + half)) Bad) Bad) ≡ ltb first half || leb ends_limit (first + half)
    by_half true true e f = rw (le-ltb first half (leb-true half first e), lt-leb ends_limit (first + half) (ltb-true _ ends_limit f))
    by_half true false e f = rw (le-ltb first half (leb-true half first e), le-leb ends_limit (first + half) (ltb-false _ ends_limit f))
    by_half false b e f = rw (lt-ltb first half (leb-false half first e))

    go : (b : Bool) → is_bad (span (opening ws) b ws) ≡ cond b (ltb second first) (ltb first half || leb ends_limit (first + half))
    go true = by_ends (leb first second) refl
    go false = by_half (leb half first) (ltb (first + half) ends_limit) refl refl

-- four tests, told by one number or one by one
nest : (a b c d : Bool) (n : ℕ) →
    let k : ℕ = cond (not a) 12 (cond (not b) 11 (cond (not c) 13 (cond (not d) 14 0))) in
    cond (eqb k 0) n k ≡ refuse (not a) 12 (refuse (not b) 11 (refuse (not c) 13 (refuse (not d) 14 n)))
nest false b c d n = refl
nest true false c d n = refl
nest true true false d n = refl
nest true true true false n = refl
nest true true true true n = refl

-- f is a number by what was read: a refusal's own, and that of the tests us where the message is taken
module _ (m : List ℕ) (f : Reading → ℕ) (us : List Test) (plain : (n : ℕ) → f (Refused n) ≡ n)
    (taken : (s l r n : ℕ) → read_bytes m ≡ Message s l r n → f (Message s l r n) ≡ first_failing us) where
  -- one test
  past : (b : Bool) (k : ℕ) (x : Reading) (n : ℕ) → read_bytes m ≡ cond b (Refused k) x → (read_bytes m ≡ x → f x ≡ n)
      → f (cond b (Refused k) x) ≡ refuse b k n
  past true k x n e h = plain k
  past false k x n e h = h e

  past_words : (a b : Bool) (x : Reading) (n : ℕ) → read_bytes m ≡ cond a (cond b (Refused 10) x) (Refused 10) → (read_bytes m ≡ x → f x ≡ n)
      → f (cond a (cond b (Refused 10) x) (Refused 10)) ≡ refuse (not a || b) 10 n
  past_words true b x n e h = past b 10 x n e h
  past_words false b x n e h = plain 10

  past_span : (sender count : ℕ) (normal : Bool) (i : Interval) → read_bytes m ≡ with_span sender count normal i
      → f (with_span sender count normal i) ≡ refuse (is_bad i) 16 (refuse (not normal) 17 (first_failing us))
  unfolding with_span is_bad
  past_span sender count normal Bad e = plain 16
  past_span sender count true (Span left right) e = taken sender left right count e
  past_span sender count false (Span left right) e = plain 17

  -- a number of a refusal, and what comes next
  past_or : (k : ℕ) (x : Reading) (n : ℕ) → read_bytes m ≡ refused_or k x → (read_bytes m ≡ x → f x ≡ n) → f (refused_or k x) ≡ cond (eqb k 0) n k
  past_or k x n e h = by (eqb k 0) e
    where
      by : (b : Bool) → read_bytes m ≡ cond b x (Refused k) → f (cond b x (Refused k)) ≡ cond b n k
      by true e = h e
      by false e = plain k

  past_shape : (ws : List ℕ) (x : Reading) (n : ℕ) → read_bytes m ≡ refused_or (shape_refusal (opening ws) ws) x → (read_bytes m ≡ x → f x ≡ n)
      → f (refused_or (shape_refusal (opening ws) ws) x)
      ≡ refuse (not (head_word_fits (get_or ws 0 0))) 12
      (refuse (not (opens (opening ws) ws)) 11
      (refuse (count_fails ws) 13 (refuse (not (kinds_fit (opening ws) (is_ends (opening ws) ws) ws)) 14 n)))
  unfolding shape_refusal count_fails
  past_shape ws x n e h =
      let at = opening ws in
      past_or (shape_refusal at ws) x n e h
      ∙ nest (head_word_fits (get_or ws 0 0)) (opens at ws) (eqb (length ws) (start at (is_ends at ws) + term_count (get_or ws 0 0) + 1)) (kinds_fit at (is_ends at ws) ws) n

  read_first : f (read_bytes m) ≡ first_failing (message_tests m ++ us)
  unfolding read_bytes read_words contents first_failing words_fail
  read_first =
      let ws = words_of m in
      let at = opening ws in
      past_words (eqb (length m % 4) 0) (ltb (length ws) words_least || ltb words_most (length ws)) _ _ refl (λ a.
      past_shape ws _ _ a (λ b.
      past (not (epoch_words_fit ws)) 42 _ _ b (λ e.
      past (not (check_fits ws)) 15 _ _ e (λ g.
      rw (← (span_bad ws))
      (past_span (sender_of (get_or ws 0 0)) (term_count (get_or ws 0 0)) (is_normal (masks (middle at (is_ends at ws) ws))) (span at (is_ends at ws) ws) g)))))

-- ---- the numbers

read_number_lem : (m out : List ℕ) → returned (message_read m out) ≡ first_failing (tests (message_read m out))
unfolding tests read_number layout_size answered reading_bytes bytes first_failing
read_number_lem m out = read_first m (λ r. answered r (reading_bytes r) out) (output_tests 32 out) (λ n. refl) (λ s l r n e. refl)

-- what is written of a message that is read
pub rewritten-size : {s l r n : ℕ} (m : List ℕ) → read_bytes m ≡ Message s l r n
    → length (rewritten_bytes m) ≡ ends_form_size (epoch_count (words_of m)) (term_count (get_or (words_of m) 0 0))
rewritten-size {s} {l} {r} {n} m e =
    let words = words_in-taken m e in
    let read : read_words (words_of m) ≡ Message s l r n = rw words at (read_words_in m ∙ e) in
    let live = read_out (words_of m) read in
    let names : length (epoch_words (Message s l r n) (words_in m)) ≡ epoch_count (words_of m) =
    ap (λ (ws : List ℕ). length (epoch_words (Message s l r n) ws)) words
    ∙ ap length (epochs_part live) ∙ length_part (words_of m) (omega (arith, length-live live)) in
    omega (arith, length-rewritten_bytes m e, live.taken.count, names)

rewrite_number_lem : (m out : List ℕ) → returned (message_rewrite m out) ≡ first_failing (tests (message_rewrite m out))
unfolding tests rewrite_number rewritten_bytes layout_size answered first_failing
rewrite_number_lem m out =
    let size = ends_form_size (epoch_count (words_of m)) (term_count (get_or (words_of m) 0 0)) in
    read_first m (λ r. answered r (bytes_of (rewritten_as r (words_of m))) out) (output_tests size out) (λ n. refl)
    (λ s l r n e.
    ap (λ (k : ℕ). refuse (ltb (length out) k) 24 0)
    (ap (λ (x : Reading). length (bytes_of (rewritten_as x (words_of m)))) (sym e) ∙ rewritten-size m e))

pub written-size : (s : List ℕ) (position : ℕ)
    → length (written_bytes s position) ≡ ends_form_size (names_written s position) (length (datum_at s position).terms)
unfolding written_words
written-size s position =
    let d = datum_at s position in
    let own = num own_at 4 s in
    omega (arith, length-written_bytes s position, length-message-more own (names_of (epochs_in epochs_at s) (wanted own d.terms)) (down d.left) (up d.right) d.terms)

-- the tests of a lent state
lent_nest : (s : List ℕ) (n : ℕ) → lent s n ≡ refuse (too_short state_size s) 24 (refuse (not (in_form s)) 25 n)
unfolding lent
lent_nest s n = refl

-- a receipt, with readings or without
receive_nest : (s : List ℕ) (g : Receipt)
    → receive_number s g
    ≡ refuse (too_short state_size s) 24
    (refuse (not (in_form s)) 25
    (refuse (delays_fail g.least g.greatest) 21 (refuse (readings_fail g.readings) 40 (first_failing (receipt_tests s g)))))
unfolding receive_number delivered delivered_number delivered_as first_failing receipt_refusal of_delivered
receive_nest s g =
    let st = state_of s in
    ap (λ (k : ℕ). lent s (refuse (delays_fail g.least g.greatest) 21 (refuse (readings_fail g.readings) 40 k)))
    (read_first g.message (λ r. delivered_number st (delivered_as g r)) (delivery_tests st (delivered g)) (λ n. refl) (λ s' l r n e. rw e))
    ∙ lent_nest s _

receive_number_lem : (s : List ℕ) (least greatest : ℕ) (m : List ℕ)
    → returned (monitor_receive s least greatest m) ≡ first_failing (tests (monitor_receive s least greatest m))
unfolding tests first_failing readings_fail
receive_number_lem s least greatest m = receive_nest s (receipt_of least greatest m)

receive_with_number : (s : List ℕ) (least greatest : ℕ) (t : Triple) (drift : ℕ) (m : List ℕ)
    → returned (monitor_receive_with_readings s least greatest t drift m) ≡ first_failing (tests (monitor_receive_with_readings s least greatest t drift m))
unfolding tests first_failing readings_fail
receive_with_number s least greatest t drift m = receive_nest s (receipt_with least greatest (with_drift t drift) m)

number-first : (c : Exported) → returned c ≡ first_failing (tests c)
unfolding tests first_failing set_up_number set_up_refusal age_number age_refusal ask_number fewest_number write_number lent layout_size state_of
number-first (monitor_set_up s u) = refl
number-first (monitor_age s reading) = refl
number-first (monitor_receive s least greatest m) = receive_number_lem s least greatest m
number-first (monitor_receive_with_readings s least greatest t drift m) = receive_with_number s least greatest t drift m
number-first (monitor_ask s limit out) = refl
number-first (monitor_fewest s out) = refl
number-first (monitor_write s position out) = rw (written-size s position)
number-first (message_read m out) = read_number_lem m out
number-first (message_rewrite m out) = rewrite_number_lem m out

numbers-listed : (c : Exported) → map (λ (t : Test). t.number) (tests c) ≡ listed c
unfolding tests listed
numbers-listed (monitor_set_up s u) = refl
numbers-listed (monitor_age s reading) = refl
numbers-listed (monitor_receive s least greatest m) = refl
numbers-listed (monitor_receive_with_readings s least greatest t drift m) = refl
numbers-listed (monitor_ask s limit out) = refl
numbers-listed (monitor_fewest s out) = refl
numbers-listed (monitor_write s position out) = refl
numbers-listed (message_read m out) = refl
numbers-listed (message_rewrite m out) = refl

-- ---- room: what is taken was refused by no test

no_test-fails : (ts : List Test) → T (list_all (λ (t : Test). ltb 0 t.number) ts) → first_failing ts ≡ 0 → (t : Test) → In t ts → T (not t.fails)
unfolding first_failing
no_test-fails [] p e t i = absurd i
no_test-fails (u ∷ ts) p e t (inl q) =
    rw q (refuse-none u.fails u.number (first_failing ts) (ltb→lt 0 u.number (both_l (ltb 0 u.number) _ p)) e).0
no_test-fails (u ∷ ts) p e t (inr q) =
    let k = refuse-none u.fails u.number (first_failing ts) (ltb→lt 0 u.number (both_l (ltb 0 u.number) _ p)) e in
    no_test-fails ts (both_r (ltb 0 u.number) _ p) k.1 t q

numbers-above : (c : Exported) → T (list_all (λ (t : Test). ltb 0 t.number) (tests c))
unfolding tests
numbers-above (monitor_set_up s u) = tt
numbers-above (monitor_age s reading) = tt
numbers-above (monitor_receive s least greatest m) = tt
numbers-above (monitor_receive_with_readings s least greatest t drift m) = tt
numbers-above (monitor_ask s limit out) = tt
numbers-above (monitor_fewest s out) = tt
numbers-above (monitor_write s position out) = tt
numbers-above (message_read m out) = tt
numbers-above (message_rewrite m out) = tt

-- the lent bytes are tested for the layout's size
room_tested : (c : Exported) → In (test (too_short (layout_size c) (lent_bytes c)) 24) (tests c)
unfolding tests layout_size lent_bytes
room_tested (monitor_set_up s u) = inl refl
room_tested (monitor_age s reading) = inl refl
room_tested (monitor_receive s least greatest m) = inl refl
room_tested (monitor_receive_with_readings s least greatest t drift m) = inl refl
room_tested (monitor_ask s limit out) = inr (inr (inr (inl refl)))
room_tested (monitor_fewest s out) = inr (inr (inl refl))
room_tested (monitor_write s position out) = inr (inr (inr (inl refl)))
room_tested (message_read m out) = inr (inr (inr (inr (inr (inr (inr (inr (inr (inl refl)))))))))
room_tested (message_rewrite m out) = inr (inr (inr (inr (inr (inr (inr (inr (inr (inl refl)))))))))

has_room : (c : Exported) → returned c ≡ 0 → layout_size c ≤ length (lent_bytes c)
has_room c e =
    nltb→le (length (lent_bytes c)) (layout_size c)
    (no_test-fails (tests c) (numbers-above c) (sym (number-first c) ∙ e) (test (too_short (layout_size c) (lent_bytes c)) 24) (room_tested c))

-- ---- the lent bytes

length-answer : (a : Answer) → length (wide (answer_numbers a)) ≡ answer_size
unfolding wide answer_numbers joined bytes
length-answer Contradicted = refl
length-answer Open = refl
length-answer (Between l r) = refl

length-fewest : (a : Fewest) → length (wide (fewest_numbers a)) ≡ fewest_size
unfolding wide fewest_numbers joined bytes
length-fewest Over = refl
length-fewest (Few n m) = refl

-- what a call stores, and that it is as long as its layout says
record Stores (c : Exported) : Type 0 where
  stored : List ℕ
  left : left_bytes c ≡ after (returned c) stored (lent_bytes c)
  sized : returned c ≡ 0 → length stored ≡ layout_size c

-- of a message that is taken; a refusal's number is not 0
read_sized : (m out : List ℕ) → read_number m out ≡ 0 → length (reading_bytes (read_bytes m)) ≡ 32
unfolding read_number answered reading_bytes bytes
read_sized m out = go (read_bytes m) refl
  where
    go : (r : Reading) → read_bytes m ≡ r → answered r (reading_bytes r) out ≡ 0 → length (reading_bytes r) ≡ 32
    go (Refused number) e z = absurd (omega (arith, refused-above (words_in m) number (read_words_in m ∙ e)))
    go (Message s l r n) e z = refl

rewrite_sized : (m out : List ℕ) → rewrite_number m out ≡ 0
    → length (rewritten_bytes m) ≡ ends_form_size (epoch_count (words_of m)) (term_count (get_or (words_of m) 0 0))
unfolding rewrite_number answered
rewrite_sized m out = go (read_bytes m) refl
  where
    go : (r : Reading) → read_bytes m ≡ r → answered r (rewritten_bytes m) out ≡ 0
        → length (rewritten_bytes m) ≡ ends_form_size (epoch_count (words_of m)) (term_count (get_or (words_of m) 0 0))
    go (Refused number) e z = absurd (omega (arith, refused-above (words_in m) number (read_words_in m ∙ e)))
    go (Message s l r n) e z = rewritten-size m e

receive-lent : (s : List ℕ) (g : Receipt) → receive_number s g ≡ 0 → lent s (receipt_number (state_of s) g) ≡ 0
unfolding receive_number
receive-lent s g e = e

receive_sized : (s : List ℕ) (g : Receipt) → receive_number s g ≡ 0 → length (state_bytes (delivered_state (state_of s) (delivered g))) ≡ state_size
receive_sized s g e =
    let k = receive_passed s g e in
    length-state (delivered_state (state_of s) (delivered g)) (delivered_ok s g (lent_passed s _ (receive-lent s g e)).1 k.1 k.2 k.3)

stores : (c : Exported) → Stores c
unfolding lent_bytes layout_size set_up_number set_up_state age_number age_state receive_state
    ask_output asked_bytes fewest_output fewest_bytes write_output read_output rewrite_output
stores (monitor_set_up s u) =
    record {
      stored = state_bytes (set_up u);
      left = refl;
      sized = λ e. length-state (set_up u) (set_up_ok u (refuse-none (too_short state_size s) 24 (set_up_refusal u) (omega arith) e).1);
    }
stores (monitor_age s reading) =
    record {
      stored = state_bytes (done (state_of s) (age reading));
      left = refl;
      sized = λ e.
          let k = lent_passed s (age_refusal (state_of s) reading) e in
          length-state (done (state_of s) (age reading)) (age_ok (state_of s) reading (form_ok s k.1) k.2);
    }
stores (monitor_receive s least greatest m) =
    let g = receipt_of least greatest m in
    record { stored = state_bytes (delivered_state (state_of s) (delivered g)); left = refl; sized = receive_sized s g }
stores (monitor_receive_with_readings s least greatest t drift m) =
    let g = receipt_with least greatest (with_drift t drift) m in
    record { stored = state_bytes (delivered_state (state_of s) (delivered g)); left = refl; sized = receive_sized s g }
stores (monitor_ask s limit out) = record { stored = asked_bytes s limit; left = refl; sized = λ e. length-answer (answer limit (state_of s)) }
stores (monitor_fewest s out) = record { stored = fewest_bytes s; left = refl; sized = λ e. length-fewest (fewest (state_of s)) }
stores (monitor_write s position out) = record { stored = written_bytes s position; left = refl; sized = λ e. written-size s position }
stores (message_read m out) = record { stored = reading_bytes (read_bytes m); left = refl; sized = λ e. read_sized m out e }
stores (message_rewrite m out) = record { stored = rewritten_bytes m; left = refl; sized = λ e. rewrite_sized m out e }

after-beyond : (number n : ℕ) (vs s : List ℕ) → (number ≡ 0 → length vs ≡ n) → drop n (after number vs s) ≡ drop n s
unfolding after
after-beyond number n vs s h =
    cond_ind (λ (u : List ℕ). drop n u ≡ drop n s) (eqb number 0) (put 0 vs s) s
    (λ e. drop-put n 0 vs s (omega (arith, h (eqb→eq number 0 e)))) (λ e. refl)

pub demand1 : Demand1
unfolding Demand1
demand1 c =
    let st = stores c in
    let s = lent_bytes c in
    record {
      in_order = numbers-listed c;
      first = number-first c;
      unchanged = λ f. st.left ∙ sym (after-refused (returned c) st.stored s f);
      room = has_room c;
      size = ap length st.left ∙ length-after (returned c) st.stored s;
      beyond = ap (λ (u : List ℕ). drop (layout_size c) u) st.left ∙ after-beyond (returned c) (layout_size c) st.stored s st.sized;
    }
