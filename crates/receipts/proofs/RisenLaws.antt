-- A receipt before which names are withdrawn, on plain values: what the state is then, what is told of it, and the bytes put back where the receipt is
-- refused. No contract cites this file. Assumes nothing.
use Prim.Native.Nat.{ℕ, ◌+◌, ◌≤◌}
use mathlib.Core.Path.{◌≡◌, refl, sym, ap, ◌∙◌}
use mathlib.Core.Bool.{Bool, cond}
use mathlib.Core.List.{List, ◌++◌}
use native.Mathlib.Omega.{arith}
use borrow.Author.Tests.{ne_eqb}
use lib.Dec.{T, le→leb}
use lib.ListN.{length, take, drop}
use lib.Seq.{sets, sets-eq, length-take-le}
use Rattle.std.specs.Prelude.{Option}
use Rattle.numbers.specs.Numbers.{put, Bytes}
use Rattle.numbers.proofs.NumberLaws.{length-put}
use Rattle.predicates.proofs.ListLaws.{both, both_l, both_r}
use Rattle.state.specs.Model.{Datum, Store, State}
use Rattle.state.specs.Layout.{state_size, clocks_at, parts, state_bytes, state_of, head_of, store_of}
use Rattle.state.specs.Form.{in_form, counts_ok, state_ok}
use Rattle.state.specs.Refusal.{after}
use Rattle.state.proofs.LentLaws.{after-refused}
use Rattle.state.proofs.PartLaws.{put-over}
use Rattle.state.proofs.StateLaws.{state_out, form_ok, length-state, put-form, put-state, put-state-same}
use Rattle.state.proofs.StoredLaws.{front_back}
use Rattle.steps.specs.Steps.{judged, too_many}
use Rattle.engine.specs.Receiving.{Delivery}
use Rattle.engine.specs.Hearing.{risen, arrived}
use Rattle.engine.specs.Calls.{receive, violated, made}
use Rattle.steps.specs.Withdrawn.{withdrawn}
use Rattle.steps.proofs.WithdrawnLaws.{withdrawn_ok, withdrawn-held_le, withdrawn_entries_le}
use Rattle.receipts.specs.code.Taken.{taken_by, withdrawn_state, after_risen}
use Rattle.receipts.proofs.ReceiptCalls.{withdrawn_stays}

pub after_stays : (s : List ℕ) (r n : ℕ) (made : List ℕ) → (n ≡ 0 → ⊥) → s ≡ after_risen n r made s
unfolding after_risen
after_stays s r n made f = rw (ne_eqb n 0 f)

module _ (s : List ℕ) (t : T (in_form s)) (h : state_size ≤ length s) (r : ℕ) where
  -- the state with names withdrawn is right
  pub withdrawn-right : T (state_ok (withdrawn_state r (state_of s)))
  unfolding withdrawn_state state_ok counts_ok
  withdrawn-right =
      let ok = form_ok s t in
      let o = state_out (state_of s) ok in
      let k = (state_of s).store in
      let store = withdrawn_ok (state_of s).head.own r k (search (both_l, both_r) depth 9) in
      let few = le→leb (length (withdrawn r k).held) 16 (omega (arith, withdrawn-held_le r k, o.held_le)) in
      let less = le→leb (length (withdrawn r k).entries) 32 (omega (arith, withdrawn_entries_le r k, o.entries_le)) in
      search (both, both_l) depth 9

  module _ (u : List ℕ) (e : u ≡ put 0 (state_bytes (withdrawn_state r (state_of s))) s) where
    pub risen-long : length u ≡ length s
    risen-long = ap length e ∙ length-put 0 (state_bytes (withdrawn_state r (state_of s))) s

    pub risen-form : T (in_form u)
    risen-form = rw e (put-form (withdrawn_state r (state_of s)) s withdrawn-right h)

    same : state_of u ≡ withdrawn_state r (state_of s)
    same = ap state_of e ∙ put-state (withdrawn_state r (state_of s)) s withdrawn-right h

    store_same : store_of u ≡ withdrawn r (store_of s)
    unfolding withdrawn_state state_of
    store_same = ap (λ (x : State). x.store) same

    head-same : head_of u ≡ head_of s
    unfolding withdrawn_state state_of
    head-same = ap (λ (x : State). x.head) same

    -- the number, told of what was held before
    pub risen-number : (b : Option ℕ) (n : ℕ) (d : Datum) → n ≡ cond (too_many (taken_by b d (store_of u))) 32 0
        → n ≡ cond (too_many (taken_by b d (withdrawn r (store_of s)))) 32 0
    risen-number b n d p = p ∙ rw store_same

    -- taken
    pub risen-taken : (b : Option ℕ) (n : ℕ) (d : Datum) (v : List ℕ) → n ≡ 0 → v ≡ after n (state_bytes (record { head = head_of u; store = taken_by b d (store_of u) })) u
        → v ≡ after_risen n r (state_bytes (record { head = head_of s; store = taken_by b d (withdrawn r (store_of s)) })) s
    unfolding after after_risen
    risen-taken b n d v z p = p ∙ rw (z, head-same, store_same, e)

    -- refused, and put back
    pub risen-refused : Bytes s → (b : Option ℕ) (n : ℕ) (d : Datum) (v w : List ℕ) → (n ≡ 0 → ⊥)
        → v ≡ after n (state_bytes (record { head = head_of u; store = taken_by b d (store_of u) })) u → w ≡ take clocks_at s ++ drop clocks_at v
        → w ≡ after_risen n r (state_bytes (record { head = head_of s; store = taken_by b d (withdrawn r (store_of s)) })) s
    unfolding withdrawn_state parts put
    risen-refused fits b n d v w f q x =
        let long : length (take clocks_at s) ≡ clocks_at = length-take-le clocks_at s (omega arith) in
        let still : v ≡ u = q ∙ sym (after-refused n _ u f) in
        let over : sets u 0 (take clocks_at s) ≡ take clocks_at s ++ drop clocks_at u =
        sets-eq (take clocks_at s) u 0 (omega (arith, risen-long)) ∙ ap (λ (k : ℕ). take clocks_at s ++ drop (0 + k) u) long in
        let back : put 0 (take clocks_at s) u ≡ s = front_back s fits t h (withdrawn_state r (state_of s)) withdrawn-right u 7 clocks_at refl (omega arith) refl e in
        let end : w ≡ s = x ∙ rw still (sym over ∙ back) in
        end ∙ after_stays s r n _ f

-- where nobody has risen nothing is withdrawn
pub after-quiet : (s : List ℕ) → Bytes s → T (in_form s) → state_size ≤ length s → (r n : ℕ) (made x : List ℕ) → r ≡ 0 → x ≡ after n made s → x ≡ after_risen n r made s
unfolding after after_risen withdrawn_state state_of
after-quiet s b t h r n made x z p = p ∙ rw (withdrawn_stays s r t z, put-state-same s t b h)

-- what is counted and written, told of a store that is the same
module _ (s : List ℕ) (r n : ℕ) (k j : Store) (x : List ℕ) (e : j ≡ k) (p : n ≡ cond (too_many k) 32 0) where
  pub risen-same : x ≡ after_risen n r (state_bytes (record { head = head_of s; store = k })) s
      → (n ≡ cond (too_many j) 32 0) × (x ≡ after_risen n r (state_bytes (record { head = head_of s; store = j })) s)
  risen-same q = rw e (p, q)

  pub quiet_same : Bytes s → T (in_form s) → state_size ≤ length s → r ≡ 0 → x ≡ after n (state_bytes (record { head = head_of s; store = k })) s
      → (n ≡ cond (too_many j) 32 0) × (x ≡ after_risen n r (state_bytes (record { head = head_of s; store = j })) s)
  quiet_same b t h z q = risen-same (after-quiet s b t h r n _ x z q)

-- the bytes of a taken receipt before its epochs and readings are stored
pub receipt-written : (s : List ℕ) → T (in_form s) → state_size ≤ length s → (g : Delivery) (n : Datum) (violation : Bool) (names r : ℕ) (u : List ℕ)
    → T (state_ok (record { head = head_of s; store = made (head_of s) (store_of s) (receive g) })) → n ≡ arrived (head_of s) g
    → violation ≡ violated (head_of s) g → names ≡ risen (head_of s) g → r ≡ 0
    → u ≡ after_risen r names (state_bytes (record { head = head_of s; store = judged violation g.sender n (withdrawn names (store_of s)) })) s
    → u ≡ put 0 (state_bytes (record { head = head_of s; store = made (head_of s) (store_of s) (receive g) })) s
unfolding made after_risen
receipt-written s t h g n violation names r u ok e v w z q =
    let first = withdrawn_state (risen (head_of s) g) (state_of s) in
    let last : State = record { head = head_of s; store = judged (violated (head_of s) g) g.sender (arrived (head_of s) g) (withdrawn (risen (head_of s) g) (store_of s)) } in
    q ∙ rw (z, e, v, w)
    (put-over 0 (state_bytes last) (state_bytes first) s (length-state last ok ∙ sym (length-state first (withdrawn-right s t h (risen (head_of s) g)))))
