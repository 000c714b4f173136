-- `receipts::receipt::deliver` meets its contract: 18, 30 and 31 in document 01's order, with old names counted as failed before 31, then what `take` makes of
-- the datum, and epochs and readings stored where that is not refused. The exits' numbers and bytes are `receipt-own`, `receipt_end`, `receipt-terms`,
-- `receipt-counts` and `receipt-closed` of `ReceiptCalls`.
use Prim.Native.Nat.{◌<◌, ◌≤◌}
use mathlib.Core.Path.{◌≡◌, refl, sym, ap, ◌∙◌}
use native.Mathlib.Omega.{arith}
use borrow.Author.Tests.{ltb-true, ltb-false}
use lib.Dec.{T}
use lib.ListN.{length, take}
use Rattle.numbers.specs.Numbers.{put}
use Rattle.numbers.proofs.NumberLaws.{length-put}
use Rattle.names.specs.Sets.{set_union}
use Rattle.std.specs.Result.{is_err}
use Rattle.std.proofs.lemmas.Result.{err_from_is_err_and}
use Rattle.refusals.specs.Refusals.{number}
use Rattle.epochs.specs.Epochs.{older, spoken}
use Rattle.clocks.specs.Clocks.{violated_by}
use Rattle.ends.specs.Ends.{count_of}
use Rattle.state.specs.Model.{end_limit}
use Rattle.state.specs.Layout.{state_bytes, state_of, head_of, store_of}
use Rattle.state.specs.Form.{state_ok}
use Rattle.state.specs.Refusal.{after}
use Rattle.state.specs.code.Tables.{datum_of}
use Rattle.state.proofs.LentLaws.{after-refused}
use Rattle.state.proofs.StateLaws.{state_out, form_ok, put-form}
use Rattle.engine.specs.Receiving.{Delivery, grown}
use Rattle.engine.specs.Hearing.{risen, late, arrived}
use Rattle.engine.specs.Calls.{receive, clock_of, violated, made}
use Rattle.engine.specs.Refusals.{receipt_refusal}
use Rattle.engine.proofs.CallLaws.{Heard, arrived-some, arrived-normal, arrived-single, unsaved_ok, receive_ok}
use Rattle.receipts.specs.code.Given.{delivered_by}
use Rattle.receipts.proofs.ReceiptCalls.{refused-number, masks-small, receipt-own, receipt_end, receipt-terms, receipt-counts, heed-fits, risen_there, late_there}
use Rattle.receipts.proofs.ReceiptCalls.{terms_there, datum-arrived, tested_there, heeded_there, sender_clock, counts_there, receipt-head, risen-kept, receipt-closed}
use Rattle.receipts.proofs.RisenLaws.{after_stays, receipt-written}
use Rattle.receipts.proofs.receipt.deliver.Goals as goal
use Rattle.receipts.proofs.receipt.deliver.Goals.{After-form_row-n, After-grow-new, After-take, Else-not-storable, Else-sender-own, Start}

-- what is received, at the start and at later points
abbrev given : Start → Delivery
given c = delivered_by c.args.delays c.args.readings c.args.message.now

abbrev given_grown : After-grow-new → Delivery
given_grown c = delivered_by c.args.delays c.args.readings c.args.message.now

abbrev given_below : Else-not-storable → Delivery
given_below c = delivered_by c.args.delays c.args.readings c.args.message.now

abbrev given_formed : After-form_row-n → Delivery
given_formed c = delivered_by c.args.delays c.args.readings c.args.message.now

abbrev given_taken : After-take → Delivery
given_taken c = delivered_by c.args.delays c.args.readings c.args.message.now

heard : (c : Start) → Heard (given c)
heard c =
    record {
      delays = c.requires.least_le_greatest.0;
      sender_le = c.requires.least_le_greatest.2.0;
      ends = c.requires.left_le_right.0;
      small = masks-small c.args.message.now.terms.now;
      names = c.requires.left_le_right.3;
      readings = c.requires.least_le_greatest.2.1;
    }

-- the own name that is read
own_there : (c : Else-sender-own) → c.own-own.result ≡ (head_of c.args.state.now).own
unfolding head_of
own_there c = c.own-own.ensures.value

-- the sender is another
other : (c : Else-sender-own) → c.args.message.now.sender ≡ (state_of c.args.state.now).head.own → ⊥
unfolding state_of
other c e = c.if-sender-own.false (e ∙ sym (own_there c))

-- the right end that is tested is the grown one
right-grown : (c : After-grow-new) → count_of c.grow-new.result.right ≡ (grown (state_of c.args.state.now).head (given_grown c)).right
unfolding grown state_of
right-grown c = c.grow-new.ensures.right_value

-- and it is below the limit
below_limit : (c : Else-not-storable) → count_of c.grow-new.result.right ≡ (grown (state_of c.args.state.now).head (given_below c)).right
    → (grown (state_of c.args.state.now).head (given_below c)).right < end_limit
below_limit c same = omega (arith, same, ltb-true (count_of c.grow-new.result.right) end_limit (sym c.storable.ensures ∙ c.if-not-storable.false))

-- the predicate that is formed, and its length
late-heard : (c : After-form_row-n) → c.own-own.result ≡ (head_of c.args.state.now).own → c.hear-heard.result.late ≡ late (head_of c.args.state.now) (given_formed c)
unfolding head_of
late-heard c own = late_there c.args.state.now (given_formed c) _ own _ c.hear-heard.ensures.late_value

risen_read : (c : After-form_row-n) → c.hear-heard.result.risen
    ≡ older (head_of c.args.state.now).epochs (spoken c.own-own.result c.args.message.now.names.now (head_of c.args.state.now).epochs)
unfolding head_of
risen_read c = c.hear-heard.ensures.risen_value

formed_there : (c : After-form_row-n) → c.own-own.result ≡ (head_of c.args.state.now).own
    → take c.form_row-n.result c.form_row-n.new.row ≡ (arrived (head_of c.args.state.now) (given_formed c)).terms
formed_there c own = c.form_row-n.ensures.row_after ∙ terms_there c.args.state.now (given_formed c) _ own _ (late-heard c own)

long_there : (c : After-form_row-n) → c.own-own.result ≡ (head_of c.args.state.now).own
    → c.form_row-n.result ≡ length (arrived (head_of c.args.state.now) (given_formed c)).terms
long_there c own = c.form_row-n.ensures.value.0 ∙ ap length (terms_there c.args.state.now (given_formed c) _ own _ (late-heard c own))

long : (c : After-form_row-n) → c.own-own.result ≡ (head_of c.args.state.now).own
    → c.form_row-n.result ≡ length (arrived (state_of c.args.state.now).head (given_formed c)).terms
unfolding state_of
long c own = long_there c own

pub form_row-n-requires : goal.form_row-n-requires
unfolding state_of
form_row-n-requires c =
    let s = c.args.state.now in
    let own = (state_out (state_of s) (form_ok s c.requires.state_size_in_bounds.1)).own_le in
    (omega (arith, c.requires.left_le_right.2), omega (arith, own, own_there (goal.at.form_row-n-requires c).Else-sender-own), omega (arith, c.requires.least_le_greatest.2.0))

pub returns-then-sender-own : goal.returns-then-sender-own
unfolding state_of head_of after
returns-then-sender-own c = record { result_value = sym (receipt-own c.args.state.now _ (c.if-sender-own.true ∙ c.own-own.ensures.value)); state_after = refl }

pub returns-then-not-storable : goal.returns-then-not-storable
unfolding after
returns-then-not-storable c =
    let a = (goal.at.returns-then-not-storable c).Start in
    let o = other (goal.at.returns-then-not-storable c).Else-sender-own in
    let right = right-grown (goal.at.returns-then-not-storable c).After-grow-new in
    let past = ltb-false (count_of c.grow-new.result.right) end_limit (sym c.storable.ensures ∙ c.if-not-storable.true) in
    record { result_value = sym (receipt_end c.args.state.now (given a) o (heard a) (omega (arith, right, past))); state_after = refl }

pub returns-then-n-gt-DATUM_TERMS : goal.returns-then-n-gt-DATUM_TERMS
unfolding after
returns-then-n-gt-DATUM_TERMS c =
    let a = (goal.at.returns-then-n-gt-DATUM_TERMS c).Start in
    let at_other = (goal.at.returns-then-n-gt-DATUM_TERMS c).Else-sender-own in
    let below = below_limit (goal.at.returns-then-n-gt-DATUM_TERMS c).Else-not-storable (right-grown (goal.at.returns-then-n-gt-DATUM_TERMS c).After-grow-new) in
    let n = long (goal.at.returns-then-n-gt-DATUM_TERMS c).After-form_row-n (own_there at_other) in
    record { result_value = sym (receipt-terms c.args.state.now (given a) (other at_other) (heard a) below (omega (arith, n, c.if-n-gt-DATUM_TERMS.true))); state_after = refl }

pub take-requires : goal.take-requires
take-requires c =
    let f = (goal.at.take-requires c).After-form_row-n in
    let own = own_there (goal.at.take-requires c).Else-sender-own in
    let h = head_of c.args.state.now in
    let g = given_formed f in
    let r = c.requires in
    let long = long_there f own in
    record {
      state_size_in_bounds = (
        r.state_size_in_bounds,
        (r.least_le_greatest.2.0, heed-fits c.args.message.now.sender _ c.args.readings _ c.heed-tested.ensures r.least_le_greatest.2.1),
      );
      p_nonzero = rw (formed_there f own)
          ((arrived-some h g, omega (arith, long, c.if-n-gt-DATUM_TERMS.false), arrived-normal h g), arrived-single h g, c.grow-new.ensures.both_split);
    }

-- what is known of a datum that was given to `take`
record Taken (c : After-take) : Type 0 where
  pub from : Heard (given_taken c)
  pub own : c.own-own.result ≡ (head_of c.args.state.now).own
  pub risen_value : c.hear-heard.result.risen ≡ risen (head_of c.args.state.now) (given_taken c)
  pub late_value : c.hear-heard.result.late ≡ late (head_of c.args.state.now) (given_taken c)
  pub new_value : datum_of c.grow-new.result (take c.form_row-n.result c.form_row-n.new.row) ≡ arrived (head_of c.args.state.now) (given_taken c)
  pub other : c.args.message.now.sender ≡ (state_of c.args.state.now).head.own → ⊥
  pub below : (grown (state_of c.args.state.now).head (given_taken c)).right < end_limit
  pub few : length (arrived (state_of c.args.state.now).head (given_taken c)).terms ≤ 8

-- the identifiers that have risen
risen-heard : (c : After-take) → c.own-own.result ≡ (head_of c.args.state.now).own
    → c.hear-heard.result.risen ≡ risen (head_of c.args.state.now) (given_taken c)
unfolding head_of
risen-heard c own = risen_there c.args.state.now (given_taken c) _ own _ c.hear-heard.ensures.risen_value

-- the datum that is taken is the one that arrives
new-arrived : (c : After-take) → take c.form_row-n.result c.form_row-n.new.row ≡ (arrived (head_of c.args.state.now) (given_taken c)).terms
    → datum_of c.grow-new.result (take c.form_row-n.result c.form_row-n.new.row) ≡ arrived (head_of c.args.state.now) (given_taken c)
new-arrived c terms = datum-arrived c.args.state.now (given_taken c) _ _ _ c.grow-new.ensures.left_value c.grow-new.ensures.right_value terms

-- from the facts of the points before
told : (c : After-take) (a : Heard (given_taken c)) (own : c.own-own.result ≡ (head_of c.args.state.now).own)
    → c.hear-heard.result.late ≡ late (head_of c.args.state.now) (given_taken c)
    → take c.form_row-n.result c.form_row-n.new.row ≡ (arrived (head_of c.args.state.now) (given_taken c)).terms
    → (c.args.message.now.sender ≡ (state_of c.args.state.now).head.own → ⊥)
    → (grown (state_of c.args.state.now).head (given_taken c)).right < end_limit
    → c.form_row-n.result ≡ length (arrived (state_of c.args.state.now).head (given_taken c)).terms
    → Taken c
told c a own late terms other below long =
    record {
      from = a;
      own = own;
      risen_value = risen-heard c own;
      late_value = late;
      new_value = new-arrived c terms;
      other = other;
      below = below;
      few = omega (arith, long, c.if-n-gt-DATUM_TERMS.false);
    }

-- the readings are tested as the definition says
violation_there : (c : After-take) → Taken c
    → violated_by (head_of c.args.state.now).drift (clock_of (head_of c.args.state.now) c.args.message.now.sender) c.heed-tested.result
    ≡ violated (head_of c.args.state.now) (given_taken c)
unfolding set_union
violation_there c t =
    let s = c.args.state.now in
    tested_there (head_of s) (given_taken c) _ _ _ (sender_clock s c.args.message.now.sender c.requires.state_size_in_bounds.1 c.requires.least_le_greatest.2.0) t.late_value
    t.risen_value c.heed-tested.ensures

-- the number that `take` gives is the receipt's
numbered : (c : After-take) → Taken c → number c.take.result ≡ receipt_refusal (state_of c.args.state.now) (given_taken c)
numbered c t =
    let s = c.args.state.now in
    counts_there s (given_taken c) _ _ _ _ t.new_value (violation_there c t) t.risen_value c.take.ensures.result_value
    ∙ sym (receipt-counts s (given_taken c) t.other t.from t.below t.few)

-- what is held and known of a taken one is right
right : (c : After-take) → Taken c → number c.take.result ≡ 0
    → T (state_ok (record { head = head_of c.args.state.now; store = made (head_of c.args.state.now) (store_of c.args.state.now) (receive (given_taken c)) }))
unfolding state_of
right c t zero =
    let s = c.args.state.now in
    unsaved_ok (state_of s) (given_taken c) (form_ok s c.requires.state_size_in_bounds.1) t.from (sym (numbered c t) ∙ zero)

-- the bytes of a taken one, before its epochs and readings are stored
written : (c : After-take) → Taken c → number c.take.result ≡ 0
    → c.take.new.state
    ≡ put 0 (state_bytes (record { head = head_of c.args.state.now; store = made (head_of c.args.state.now) (store_of c.args.state.now) (receive (given_taken c)) }))
    c.args.state.now
written c t zero =
    let r = c.requires.state_size_in_bounds in
    receipt-written c.args.state.now r.1 r.0 (given_taken c) _ _ _ _ _ (right c t zero) t.new_value (violation_there c t) t.risen_value zero c.take.ensures.state_after

pub close-requires : goal.close-requires
close-requires c =
    let k = (goal.at.close-requires c).After-take in
    let o = (goal.at.close-requires c).Else-sender-own in
    let f = (goal.at.close-requires c).After-form_row-n in
    let own = own_there o in
    let below = below_limit (goal.at.close-requires c).Else-not-storable (right-grown (goal.at.close-requires c).After-grow-new) in
    let t = told k (heard (goal.at.close-requires c).Start) own (late-heard f own) (formed_there f own) (other o) below (long f own) in
    let s = c.args.state.now in
    let zero : number c.take.result ≡ 0 = ap number c.in_ok-take.was in
    let in_bounds = c.requires.state_size_in_bounds.0 in
    let kept = receipt-head s (given_taken k) _ in_bounds (right k t zero) (written k t zero) in
    record {
      state_size_in_bounds = (
        (rw (written k t zero) (rw (length-put) in_bounds), rw (written k t zero) (put-form _ s (right k t zero) in_bounds)),
        c.requires.left_le_right.3,
      );
      sender_le_name_most = (
        risen-kept s _ _ c.args.message.now.names.now _ kept (risen_read f),
        (c.requires.least_le_greatest.2.0, heed-fits c.args.message.now.sender _ c.args.readings _ c.heed-heeded.ensures c.requires.least_le_greatest.2.1),
      );
    }

pub returns : goal.returns
unfolding after
returns c =
    let k = (goal.at.returns c).After-take in
    let o = (goal.at.returns c).Else-sender-own in
    let f = (goal.at.returns c).After-form_row-n in
    let own = own_there o in
    let below = below_limit (goal.at.returns c).Else-not-storable (right-grown (goal.at.returns c).After-grow-new) in
    let t = told k (heard (goal.at.returns c).Start) own (late-heard f own) (formed_there f own) (other o) below (long f own) in
    let s = c.args.state.now in
    let g = given_taken k in
    let zero : number c.take.result ≡ 0 = ap number c.in_ok-take.was in
    let r = c.requires.state_size_in_bounds in
    let all_right = receive_ok (state_of s) g (form_ok s r.1) t.from (sym (numbered k t) ∙ zero) in
    let readings = heeded_there (head_of s) g _ _ t.late_value c.heed-heeded.ensures in
    record {
      result_value = sym zero ∙ numbered k t;
      state_after = (receipt-closed s g _ _ _ _ _ r.0 (right k t zero) all_right own t.risen_value readings (written k t zero) c.close.ensures);
    }

pub returns-in_err-take : goal.returns-in_err-take
returns-in_err-take c =
    let k = (goal.at.returns-in_err-take c).After-take in
    let o = (goal.at.returns-in_err-take c).Else-sender-own in
    let f = (goal.at.returns-in_err-take c).After-form_row-n in
    let own = own_there o in
    let below = below_limit (goal.at.returns-in_err-take c).Else-not-storable (right-grown (goal.at.returns-in_err-take c).After-grow-new) in
    let t = told k (heard (goal.at.returns-in_err-take c).Start) own (late-heard f own) (formed_there f own) (other o) below (long f own) in
    let s = c.args.state.now in
    let refused = refused-number c.take.result (ap is_err c.in_err-take.was) in
    let p = err_from_is_err_and c.from_residual.result c.from_residual.ensures.1 in
    let same : number c.from_residual.result ≡ number c.take.result = rw (p.1, p.2) (sym (ap number c.in_err-take.was)) in
    record {
      result_value = same ∙ numbered k t;
      state_after = rw same (c.take.ensures.state_after ∙ sym (after_stays s _ _ _ refused) ∙ after-refused _ _ s refused);
    }
