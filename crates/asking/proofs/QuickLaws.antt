-- What is told without a search: by the entries, that no set within the limit makes all of them true; by the degrees, that some set makes every claim
-- true. The idea: a set that makes a predicate true has at least as many names as its degree says; and one name for each claim makes as many names as
-- there are claims. No contract cites this file. Assumes nothing.
use Prim.Native.Nat.{ℕ, zero, suc, ◌+◌, ◌≤◌, ◌<◌}
use mathlib.Core.Path.{◌≡◌, refl, sym, ap, subst, ◌∙◌}
use mathlib.Core.Bool.{Bool, true, ◌&&◌, not}
use mathlib.Core.List.{List}
use native.Mathlib.Decide.{dec_lt}
use native.Mathlib.Omega.{arith}
use lib.Dec.{T, T_not, leb, leb→le, le→leb, ltb, ltb→lt}
use lib.Count.{ones}
use lib.ListN.{length}
use Rattle.names.specs.Sets.{subset, set_union, no_set}
use Rattle.names.specs.code.Parts.{others}
use Rattle.names.proofs.SetLaws.{empty-subset, union_left, union_right, union-least, ones-union, ones-empty}
use Rattle.names.proofs.PartLaws.{others_in, others_lt, others_out}
use Rattle.std.specs.List.{list_all}
use Rattle.predicates.specs.Lists.{all_below}
use Rattle.predicates.specs.Predicates.{holds, degree}
use Rattle.predicates.proofs.ListLaws.{both_l, both_r, true_T, all_out}
use Rattle.predicates.proofs.PredicateLaws.{holds_in, holds_mono, degree-least, degree-some}
use Rattle.predicates.proofs.IndexLaws.{below_in}
use Rattle.state.specs.Model.{Store, State}
use Rattle.state.specs.Layout.{entry_count, store_of, state_of}
use Rattle.state.proofs.StateLaws.{length-entries}
use Rattle.state.specs.Form.{state_ok, term_fits}
use Rattle.claims.specs.code.Tables.{claim_at}
use Rattle.claims.specs.code.Degrees.{degree_within}
use Rattle.asking.specs.declared.Answer.TheVariants.{Contradicted, Open}
use Rattle.asking.specs.Instants.{Allowed}
use Rattle.asking.specs.Asking.{answer}
use Rattle.asking.specs.code.Claims.{hopeless}
use Rattle.asking.proofs.AnswerLaws.{answer_is, answer-rounded}
use Rattle.asking.proofs.ArrayLaws.{entries_at, everything_at, at_everything}
use Rattle.asking.proofs.EndLaws.{answer_open}
use Rattle.asking.proofs.PlainLaws.{form-terms}

-- ---- the entries alone

module _ (limit : ℕ) (st : State) (ok : T (state_ok st)) where
  abbrev k : Store
  k = st.store

  abbrev own : ℕ
  own = st.head.own

  abbrev known : ℕ
  known = length k.entries

  abbrev every : ℕ
  every = known + length k.held

  fit : (i : ℕ) → i < every → T (list_all (term_fits own) (claim_at k i).terms)
  fit = everything_at k every refl (list_all (term_fits own)) (form-terms st ok)

  pub hopeless-none : T (hopeless limit st) → (u : ℕ) → Allowed limit own u → T (list_all (holds u) k.entries) → ⊥
  unfolding hopeless degree_within
  hopeless-none t u a h =
      T_not (all_below known (degree_within k limit)) t (below_in known (degree_within k limit) (λ i l.
      le→leb (degree (claim_at k i).terms) limit (omega (arith, degree-least u (claim_at k i).terms (entries_at k (holds u) h i l), a.few))))

  pub hopeless-contradicted : hopeless limit st ≡ true → Contradicted ≡ answer limit st
  hopeless-contradicted e =
      answer-rounded limit st Contradicted
      (answer_is limit st Contradicted (λ x c. hopeless-none (true_T (hopeless limit st) e) c.0 c.1 c.2.0))

  -- ---- one name for each claim

  -- a set of at most m names, without the own one, that makes the first m claims true
  record Picked (m : ℕ) : Type 0 where
    set : ℕ
    few : ones set ≤ m
    free : T (subset set (others own))
    holding : (i : ℕ) → i < m → T (holds set (claim_at k i).terms)

  picked : (m : ℕ) → m ≤ every → T (all_below m (degree_within k 1)) → Picked m
  unfolding all_below degree_within term_fits
  picked zero l t = record { set = 0; few = omega (arith, ones-empty); free = empty-subset (others own); holding = λ i h. absurd (omega arith) }
  picked (suc m) l t =
      let rest = picked m (omega arith) (both_l (all_below m (degree_within k 1)) _ t) in
      let p = (claim_at k m).terms in
      let low = leb→le (degree p) 1 (both_r (all_below m (degree_within k 1)) _ t) in
      let w = degree-some p (omega arith) in
      let fits = all_out (term_fits own) p (fit m (omega arith)) w.0 w.1 in
      let named = both_r (ltb 0 w.0) _ fits in
      let inside = others_in own w.0 (ltb→lt w.0 no_set (both_l (ltb w.0 no_set) _ named)) (both_r (ltb w.0 no_set) _ named) in
      record {
        set = set_union rest.set w.0;
        few = omega (arith, ones-union rest.set w.0, rest.few, w.2);
        free = union-least rest.set w.0 (others own) rest.free inside;
        holding = λ i h. each rest w.0 (holds_in (set_union rest.set w.0) p w.0 w.1 (union_right rest.set w.0)) i h (dec_lt i m);
      }
    where
      each : (rest : Picked m) (t : ℕ) → T (holds (set_union rest.set t) (claim_at k m).terms) → (i : ℕ) → i < suc m → Dec (i < m) → T (holds (set_union rest.set t) (claim_at k i).terms)
      each rest t last i h (yes b) = holds_mono rest.set (set_union rest.set t) (claim_at k i).terms (union_left rest.set t) (rest.holding i b)
      each rest t last i h (no b) = let e : m ≡ i = omega arith in subst (λ (j : ℕ). T (holds (set_union rest.set t) (claim_at k j).terms)) e last

  pub affordable_open : (rows : ℕ) → rows ≡ every → leb rows limit && all_below rows (degree_within k 1) ≡ true → Open ≡ answer limit st
  affordable_open rows e h =
      let t = true_T (leb rows limit && all_below rows (degree_within k 1)) h in
      let l = leb→le rows limit (both_l (leb rows limit) _ t) in
      let w = picked rows (omega arith) (both_r (leb rows limit) _ t) in
      let a : Allowed limit own w.set = record { names = others_lt own w.set w.free; few = omega (arith, w.few); others = others_out own w.set w.free } in
      answer-rounded limit st Open (sym (answer_open limit st (w.set, a, at_everything k rows e (holds w.set) w.holding)))

-- ---- on the bytes

module _ (s : List ℕ) (n limit : ℕ) (e : n ≡ entry_count s) where
  counted : n ≡ length (store_of s).entries
  counted = e ∙ sym (length-entries s)

  pub hopeless_is : (r : Bool) → r ≡ all_below n (degree_within (store_of s) limit) → not r ≡ hopeless limit (state_of s)
  unfolding hopeless state_of
  hopeless_is r h = ap not h ∙ rw counted
