-- The exits of a receipt, on plain values: the row that the predicate is formed in, when it is true, and what each exit's number and bytes are.
-- No contract cites this file. Assumes nothing.
use Prim.Native.Nat.{ℕ, ◌+◌, ◌-◌, ◌*◌, ◌^◌, ◌≤◌, ◌<◌}
use mathlib.Core.Path.{◌≡◌, refl, sym, ap, subst, ◌∙◌}
use mathlib.Core.Bool.{Bool, true, false, not, cond, and-true, and-false}
use mathlib.Core.Logic.{inl, inr}
use mathlib.Core.List.{List, [], ◌∷◌, ◌++◌}
use native.Mathlib.Omega.{arith}
use borrow.Author.Tests.{eq-eqb, ne_eqb, le-leb, lt-leb, lt-ltb, le-ltb}
use lib.Dec.{T}
use lib.ListN.{length, take, drop}
use lib.Seq.{sets, sets-eq, take_at, take-take, length-sets, length-take-le}
use Rattle.numbers.specs.Numbers.{put}
use Rattle.names.specs.Sets.{no_set, set_union, has}
use Rattle.message.specs.Words.{masks}
use Rattle.message.proofs.WordLaws.{length-masks}
use Rattle.predicates.specs.Lists.{In, padded}
use Rattle.predicates.specs.Predicates.{implies, is_true, formed}
use Rattle.predicates.proofs.ListLaws.{both_l, both_r, cond_ind}
use Rattle.predicates.proofs.SumLaws.{padded-front}
use Rattle.std.specs.Prelude.{Option, None, Some, Result, Ok, Err}
use Rattle.std.specs.Result.{is_err}
use Rattle.refusals.specs.declared.Refusal.{Refusal}
use Rattle.refusals.specs.Refusals.{number}
use Rattle.message.proofs.ReadLaws.{number_above}
use Rattle.clocks.specs.declared.Readings.{Readings}
use Rattle.clocks.specs.Clocks.{Saved, nothing, readings_fail, violated_by, watched}
use Rattle.epochs.specs.Epochs.{withdraw, older, spoken}
use Rattle.ends.specs.Ends.{million}
use Rattle.state.specs.Model.{Datum, datum, Head, Store, State, with_clocks, name_most, end_limit}
use Rattle.state.specs.Refusal.{after}
use Rattle.state.specs.Layout.{state_size, datum_terms, state_bytes, state_of, head_of, store_of}
use Rattle.state.specs.Form.{in_form, state_ok}
use Rattle.state.proofs.PartLaws.{put-over}
use Rattle.state.proofs.StateLaws.{state_out, form_ok, length-state, put-state, held_count_le, entry_count_le, length-held, length-entries}
use Rattle.engine.specs.Ageing.{least_advance, greatest_advance}
use Rattle.engine.specs.Receiving.{Delivery, grown}
use Rattle.engine.specs.Hearing.{spoken_by, risen, late, hearing, heeded, arrived}
use Rattle.engine.proofs.WatchLaws.{violated-none, none-saved}
use Rattle.engine.proofs.HearingLaws.{has-union_l, has-union_r, has-union_neither, get_or-cleared}
use Rattle.engine.specs.Calls.{receive, clock_of, violated, done, moved, made}
use Rattle.steps.specs.Steps.{received, blamed, judged, too_many}
use Rattle.steps.specs.Withdrawn.{withdrawn}
use Rattle.steps.proofs.WithdrawnLaws.{withdrawn-none}
use Rattle.receipts.specs.code.Blame.{blamed_by}
use Rattle.receipts.specs.code.Taken.{taken_by}
use Rattle.settling.specs.code.Rows.{with_term}
use Rattle.steps.proofs.BlameLaws.{judged-violated, blamed_explains, explained-settled}
use Rattle.engine.specs.code.Hearing.{heard_head}
use Rattle.engine.specs.Refusals.{receipt_refusal}
use Rattle.engine.proofs.EndLaws.{grows_right}
use Rattle.engine.proofs.CallLaws.{Heard}

-- ---- the row

row-front : (m z r : List ℕ) → length m ≤ length z → r ≡ sets z 0 m → take (length m) r ≡ m
row-front m z r h e =
    ap (λ (l : List ℕ). take (length m) l) (e ∙ sets-eq m z 0 (omega arith)) ∙ take_at m (drop (0 + length m) z) (length m) refl

-- the predicate formed of a row that the terms of words stand at the front of
pub formed-front : (ws z r : List ℕ) (own same sender : ℕ) → length ws ≤ length z → r ≡ sets z 0 (masks ws) → own ≡ same
    → formed own sender (take (length ws) r) ≡ formed same sender (masks ws)
formed-front ws z r own same sender h e o =
    let front = row-front (masks ws) z r (omega (arith, length-masks ws)) e in
    rw (o, rw (length-masks ws) at front)

-- the terms in a row that they stand at the front of, with room for one more
pub terms-front : (ws z r : List ℕ) → length ws < length z → r ≡ sets z 0 (masks ws)
    → take (length (take (length ws + 1) r) - 1) (take (length ws + 1) r) ≡ masks ws
terms-front ws z r h e =
    let long : length (take (length ws + 1) r) ≡ length ws + 1 = length-take-le (length ws + 1) r (omega (arith, h, ap length e, length-sets z 0 (masks ws))) in
    let same : length ws + 1 - 1 ≡ length ws = omega arith in
    let front : take (length ws) r ≡ masks ws = rw (length-masks ws) at (row-front (masks ws) z r (omega (arith, length-masks ws)) e) in
    ap (λ (k : ℕ). take (k - 1) (take (length ws + 1) r)) long
    ∙ ap (λ (k : ℕ). take k (take (length ws + 1) r)) same ∙ take-take (length ws) (length ws + 1) r (omega arith) ∙ front

-- what stands at the front afterwards
pub kept-front : (n m : ℕ) (p y r : List ℕ) → m ≡ length p → r ≡ padded n p ++ y → take m r ≡ p
kept-front n m p y r e f = rw (e, f) (padded-front n p y)

-- the terms that words carry have 29 bits
pub masks-small : (ws : List ℕ) (t : ℕ) → In t (masks ws) → t < no_set
unfolding masks
masks-small [] t h = absurd h
masks-small (w ∷ ws) t (inl e) = omega arith
masks-small (w ∷ ws) t (inr h) = masks-small ws t h

-- ---- what is made of a datum from the sender

-- the blamed name as a term
module _ (violation : Bool) (sender : ℕ) (b : Option ℕ) (told : b ≡ cond violation (Some (2 ^ sender)) None) where
  module _ (n : Datum) (k : Store) (h : T (implies (2 ^ sender ∷ []) n.terms)) where
    -- a violation: the entry is there, and the four steps end at the second
    judged-blamed : b ≡ Some (2 ^ sender) → judged true sender n k ≡ taken_by b n k
    unfolding taken_by blamed_by with_term blamed
    judged-blamed e =
        judged-violated sender n k h
        ∙ sym (explained-settled n (blamed sender k) (blamed_explains sender k n.terms h))
        ∙ rw (e, and-false (is_true n.terms))

    -- none: a datum that is true adds nothing
    judged-quiet : b ≡ None → judged false sender n k ≡ taken_by b n k
    unfolding judged received taken_by blamed_by with_term
    judged-quiet e = rw (e, and-true (is_true n.terms))

    pub judged-taken : judged violation sender n k ≡ taken_by b n k
    judged-taken = go violation told
      where
        go : (v : Bool) → b ≡ cond v (Some (2 ^ sender)) None → judged v sender n k ≡ taken_by b n k
        go true e = judged-blamed e
        go false e = judged-quiet e

-- what is counted and written, told of a store that is the same
pub made-same : (s : List ℕ) (k j : Store) (r : ℕ) (u : List ℕ) → j ≡ k → r ≡ cond (too_many k) 32 0
    → u ≡ after r (state_bytes (record { head = head_of s; store = k })) s
    → (r ≡ cond (too_many j) 32 0) × (u ≡ after r (state_bytes (record { head = head_of s; store = j })) s)
made-same s k j r u e p q = rw e (p, q)

-- a call's number, and whether it was refused
pub refused-number : (got : Result (Unit {0}) Refusal) → is_err got ≡ true → number got ≡ 0 → ⊥
refused-number (Ok taken) e z = absurd (cc)
refused-number (Err refusal) e z = omega (arith, z, number_above refusal)

pub taken-number : (got : Result (Unit {0}) Refusal) → is_err got ≡ false → number got ≡ 0
taken-number (Ok taken) e = refl
taken-number (Err refusal) e = absurd (cc)

-- a state in form does not have too many
pub few-held : (s : List ℕ) → T (in_form s) → too_many (store_of s) ≡ false
unfolding too_many
few-held s f =
    let few : (length (store_of s).held ≤ 16) × (length (store_of s).entries ≤ 32) =
    (omega (arith, length-held s, held_count_le s f), omega (arith, length-entries s, entry_count_le s f)) in
    rw (le-ltb 16 (length (store_of s).held) few.0, le-ltb 32 (length (store_of s).entries) few.1)

-- where nobody is withdrawn what is held and known stays
pub withdrawn_stays : (s : List ℕ) (r : ℕ) → T (in_form s) → r ≡ 0 → withdrawn r (store_of s) ≡ store_of s
unfolding state_ok state_of
withdrawn_stays s r f z =
    let ok = form_ok s f in
    rw z (withdrawn-none (head_of s).own (store_of s) (search (both_l, both_r) depth 9))

-- ---- the exits

module _ (s : List ℕ) (g : Delivery) where
  pub receipt-own : g.sender ≡ (state_of s).head.own → receipt_refusal (state_of s) g ≡ 18
  unfolding receipt_refusal
  receipt-own e = rw (eq-eqb _ _ e)

  -- of 30 the right end decides
  module _ (other : g.sender ≡ (state_of s).head.own → ⊥) (h : Heard g) where
    pub receipt_end : end_limit ≤ (grown (state_of s).head g).right → receipt_refusal (state_of s) g ≡ 30
    unfolding receipt_refusal
    receipt_end far = rw (ne_eqb _ _ other, grows_right (state_of s) g h, le-leb _ _ far)

    module _ (below : (grown (state_of s).head g).right < end_limit) where
      pub receipt-terms : datum_terms < length (arrived (state_of s).head g).terms → receipt_refusal (state_of s) g ≡ 31
      unfolding receipt_refusal
      receipt-terms many = rw (ne_eqb _ _ other, grows_right (state_of s) g h, lt-leb _ _ below, lt-ltb _ _ many)

      -- the last test: too many, or taken
      pub receipt-counts : length (arrived (state_of s).head g).terms ≤ datum_terms
          → receipt_refusal (state_of s) g ≡ cond (too_many (made (head_of s) (store_of s) (receive g))) 32 0
      unfolding receipt_refusal state_of
      receipt-counts few = rw (ne_eqb _ _ other, grows_right (state_of s) g h, lt-leb _ _ below, le-ltb _ _ few)

-- the datum with the grown ends, told of the predicate in the row
pub datum-arrived : (s : List ℕ) (g : Delivery) (left right : ℕ) (p : List ℕ) → left ≡ g.left * million + least_advance (head_of s).drift g.least
    → right ≡ g.right * million + greatest_advance (head_of s).drift g.greatest → p ≡ (arrived (head_of s) g).terms → datum left right p ≡ arrived (head_of s) g
unfolding arrived grown
datum-arrived s g left right p l r e = rw (l, r, e)

-- readings of a sender that is late, or that has risen, are not tested
tested_same : (h : Head) (g : Delivery) (tested : Option Readings) → g.sender < length h.clocks
    → tested ≡ cond (has g.sender (set_union (late h g) (risen h g))) None g.readings
    → violated_by h.drift (clock_of h g.sender) tested ≡ violated h g
unfolding violated heeded hearing
tested_same h g tested l e =
    ap (λ (r : Option Readings). violated_by h.drift (clock_of h g.sender) r) e
    ∙ go (has g.sender (late h g)) (has g.sender (risen h g)) refl refl
    ∙ ap (λ (v : Saved). violated_by h.drift v (cond (has g.sender (late h g)) None g.readings)) (sym (get_or-cleared (risen h g) h.clocks g.sender l))
  where
    old : Saved
    old = clock_of h g.sender

    quiet : (v : Saved) → false ≡ violated_by h.drift v None
    quiet v = sym (violated-none h.drift v None refl)

    go : (a b : Bool) → has g.sender (late h g) ≡ a → has g.sender (risen h g) ≡ b
        → violated_by h.drift old (cond (has g.sender (set_union (late h g) (risen h g))) None g.readings)
        ≡ violated_by h.drift (cond (has g.sender (risen h g)) nothing old) (cond (has g.sender (late h g)) None g.readings)
    go true b p q =
        rw (has-union_l g.sender (late h g) (risen h g) p, p) (sym (quiet old) ∙ quiet (cond (has g.sender (risen h g)) nothing old))
    go false true p q = rw (has-union_r g.sender (late h g) (risen h g) q, p, q) (sym (quiet old) ∙ sym (nothing-quiet g.readings))
      where
        nothing-quiet : (r : Option Readings) → violated_by h.drift nothing r ≡ false
        nothing-quiet r = none-saved h.drift r
    go false false p q = rw (has-union_neither g.sender (late h g) (risen h g) p q, p, q)

-- the same, told of the identifiers that were heard
pub tested_there : (h : Head) (g : Delivery) (tested : Option Readings) (l r : ℕ) → g.sender < length h.clocks → l ≡ late h g → r ≡ risen h g
    → tested ≡ cond (has g.sender (set_union l r)) None g.readings → violated_by h.drift (clock_of h g.sender) tested ≡ violated h g
tested_there h g tested l r b p q e = tested_same h g tested b (e ∙ rw (p, q))

pub heeded_there : (h : Head) (g : Delivery) (t : Option Readings) (l : ℕ) → l ≡ late h g → t ≡ cond (has g.sender l) None g.readings → t ≡ heeded h g
unfolding heeded
heeded_there h g t l p e = e ∙ rw p

-- each sender has a place
pub sender_clock : (s : List ℕ) (n : ℕ) → T (in_form s) → n ≤ name_most → n < length (head_of s).clocks
unfolding state_of
sender_clock s n f h = omega (arith, (state_out (state_of s) (form_ok s f)).clocks-all, h)

-- readings that fit, passed over or not
pub heed-fits : (sender names : ℕ) (r t : Option Readings) → t ≡ cond (has sender names) None r → T (not (readings_fail r)) → T (not (readings_fail t))
unfolding readings_fail
heed-fits sender names r t e h =
    subst (λ (x : Option Readings). T (not (readings_fail x))) (sym e)
    (cond_ind (λ x. T (not (readings_fail x))) (has sender names) None r (λ _. tt) (λ _. h))

-- what is told of the head by the own name and the epochs in the bytes
module _ (s : List ℕ) (g : Delivery) (own : ℕ) (o : own ≡ (head_of s).own) where
  pub risen_there : (r : ℕ) → r ≡ older (head_of s).epochs (spoken own g.names (head_of s).epochs) → r ≡ risen (head_of s) g
  unfolding risen spoken_by
  risen_there r e = e ∙ ap (λ (x : ℕ). older (head_of s).epochs (spoken x g.names (head_of s).epochs)) o

  pub late_there : (l : ℕ) → l ≡ older (spoken own g.names (head_of s).epochs) (head_of s).epochs → l ≡ late (head_of s) g
  unfolding late spoken_by
  late_there l e = e ∙ ap (λ (x : ℕ). older (spoken x g.names (head_of s).epochs) (head_of s).epochs) o

  -- the predicate that is formed
  pub terms_there : (l : ℕ) → l ≡ late (head_of s) g → withdraw l (formed own g.sender g.terms) ≡ (arrived (head_of s) g).terms
  unfolding arrived grown
  terms_there l e = rw (e, o)

-- the last test, told of what was heard and formed
pub counts_there : (s : List ℕ) (g : Delivery) (n : Datum) (violation : Bool) (names r : ℕ) → n ≡ arrived (head_of s) g → violation ≡ violated (head_of s) g
    → names ≡ risen (head_of s) g → r ≡ cond (too_many (judged violation g.sender n (withdrawn names (store_of s)))) 32 0
    → r ≡ cond (too_many (made (head_of s) (store_of s) (receive g))) 32 0
unfolding made
counts_there s g n violation names r e v w q = q ∙ rw (e, v, w)

-- the head is still the one that it was
pub receipt-head : (s : List ℕ) (g : Delivery) (u : List ℕ) → state_size ≤ length s
    → T (state_ok (record { head = head_of s; store = made (head_of s) (store_of s) (receive g) }))
    → u ≡ put 0 (state_bytes (record { head = head_of s; store = made (head_of s) (store_of s) (receive g) })) s → head_of u ≡ head_of s
unfolding state_of
receipt-head s g u h k p =
    ap (λ (x : State). x.head) (ap state_of p ∙ put-state (record { head = head_of s; store = made (head_of s) (store_of s) (receive g) }) s k h)

-- and so the identifiers that were heard are those of its epochs
pub risen-kept : (s u : List ℕ) (own : ℕ) (names : List ℕ) (r : ℕ) → head_of u ≡ head_of s
    → r ≡ older (head_of s).epochs (spoken own names (head_of s).epochs) → r ≡ older (head_of u).epochs (spoken own names (head_of u).epochs)
risen-kept s u own names r e h = h ∙ rw e

-- the store of a taken receipt, and then its epochs and readings stored
pub receipt-closed : (s : List ℕ) (g : Delivery) (u v : List ℕ) (own names : ℕ) (readings : Option Readings) → state_size ≤ length s
    → T (state_ok (record { head = head_of s; store = made (head_of s) (store_of s) (receive g) }))
    → T (state_ok (done (state_of s) (receive g))) → own ≡ (head_of s).own → names ≡ risen (head_of s) g → readings ≡ heeded (head_of s) g
    → u ≡ put 0 (state_bytes (record { head = head_of s; store = made (head_of s) (store_of s) (receive g) })) s
    → v ≡ put 0
    (state_bytes
    (record {
      head = with_clocks (heard_head own g.names names (head_of u)) (watched readings g.sender (heard_head own g.names names (head_of u)).clocks);
      store = store_of u;
    }))
    u
    → v ≡ put 0 (state_bytes (done (state_of s) (receive g))) s
unfolding state_of done moved hearing heard_head spoken_by
receipt-closed s g u v own names readings h k t o n w p q =
    let st : State = record { head = head_of s; store = made (head_of s) (store_of s) (receive g) } in
    let new : State = done (state_of s) (receive g) in
    let same : state_of u ≡ st = ap state_of p ∙ put-state st s k h in
    let head : head_of u ≡ head_of s = receipt-head s g u h k p in
    let store : store_of u ≡ made (head_of s) (store_of s) (receive g) = ap (λ (x : State). x.store) same in
    q ∙ rw (head, store, o, n, w, p) (put-over 0 (state_bytes new) (state_bytes st) s (length-state new t ∙ sym (length-state st k)))
