-- What withdrawing names means to one set s of failed names: the instants that s allows afterwards are those that it allowed before together with the
-- names withdrawn. The idea: each predicate is made true by s exactly if it was by both (`withdraw-holds`), and what became true claims nothing.
-- Assumes nothing.
use Prim.Native.Nat.{ℕ}
use mathlib.Core.Path.{sym, subst}
use mathlib.Core.Logic.{◌↔◌, ◌⊎◌, ⊎_elim}
use mathlib.Core.Bool.{Bool, not}
use mathlib.Core.List.{List, map}
use lib.Dec.{T, T_not, not_T}
use lib.IntN.{ℤ, pos}
use Rattle.names.specs.Sets.{set_union}
use Rattle.std.specs.List.{list_all, filter}
use Rattle.predicates.specs.Lists.{In}
use Rattle.predicates.specs.Predicates.{holds, is_true}
use Rattle.predicates.proofs.ListLaws.{split, all_in, all_out, keep_in, keep_out, map_in, map_out}
use Rattle.predicates.proofs.PredicateLaws.{true_holds}
use Rattle.epochs.specs.Epochs.{withdraw}
use Rattle.epochs.proofs.WithdrawLaws.{withdraw-holds}
use Rattle.state.specs.Model.{Datum, Store}
use Rattle.entries.specs.Entries.{withdrawn_entries}
use Rattle.steps.specs.Withdrawn.{withdrawn_datum, withdrawn_data, withdrawn}
use Rattle.asking.specs.Instants.{InAll, Fine}
use Rattle.asking.proofs.InstantLaws.{Active, Allows}
use Rattle.runs.proofs.ReceiptMeaning.{Some, inall_each}

module _ (s r : ℕ) where
  entries_fine : (es : List (List ℕ)) → T (list_all (holds s) (withdrawn_entries r es)) ↔ T (list_all (holds (set_union s r)) es)
  unfolding withdrawn_entries
  entries_fine es = (
    λ h. all_in (holds (set_union s r)) es (λ e m. subst (λ (b : Bool). T b) (withdraw-holds s r e) (left h e m (split (is_true (withdraw r e))))),
    λ h. all_in (holds s) (filter (λ e. not (is_true e)) (map (withdraw r) es)) (λ e m.
        let q = keep_out (λ e. not (is_true e)) (map (withdraw r) es) e m in
        let u = map_out (withdraw r) es e q.0 in
        subst (λ (x : List ℕ). T (holds s x)) (sym u.2)
        (subst (λ (b : Bool). T b) (sym (withdraw-holds s r u.0)) (all_out (holds (set_union s r)) es h u.0 u.1))),
  )
    where
      left : T (list_all (holds s) (filter (λ e. not (is_true e)) (map (withdraw r) es))) → (e : List ℕ) → In e es
          → T (is_true (withdraw r e)) ⊎ T (not (is_true (withdraw r e))) → T (holds s (withdraw r e))
      left h e m c =
          ⊎_elim
          (λ t. true_holds s (withdraw r e) t)
          (λ t. all_out (holds s) (filter (λ e. not (is_true e)) (map (withdraw r) es)) h (withdraw r e)
          (keep_in (λ e. not (is_true e)) (map (withdraw r) es) (withdraw r e) (map_in (withdraw r) es e m) t))
          c

  -- a datum allows the same
  active_in : (d : Datum) → Active s (withdrawn_datum r d) → Active (set_union s r) d
  active_in d a = subst (λ (b : Bool). T (not b)) (withdraw-holds s r d.terms) a

  active_out : (d : Datum) → Active (set_union s r) d → Active s (withdrawn_datum r d)
  active_out d a = subst (λ (b : Bool). T (not b)) (sym (withdraw-holds s r d.terms)) a

  -- an active one is not true
  active_stays : (d : Datum) → Active s d → T (not (is_true d.terms))
  active_stays d a = not_T (is_true d.terms) (λ t. T_not (holds s d.terms) a (true_holds s d.terms t))

  held_fine : (ds : List Datum) (x : ℤ) → InAll s (withdrawn_data r ds) x ↔ InAll (set_union s r) ds x
  unfolding withdrawn_data
  held_fine ds x = (
    λ h. (inall_each (set_union s r) x ds).1 (λ d m a.
        let b = active_out d a in
        (inall_each s x (filter (λ d. not (is_true d.terms)) (map (withdrawn_datum r) ds))).0 h (withdrawn_datum r d)
        (keep_in (λ d. not (is_true d.terms)) (map (withdrawn_datum r) ds) (withdrawn_datum r d) (map_in (withdrawn_datum r) ds d m) (active_stays (withdrawn_datum r d) b)) b),
    λ h. (inall_each s x (filter (λ d. not (is_true d.terms)) (map (withdrawn_datum r) ds))).1 (λ d m.
        let q = keep_out (λ d. not (is_true d.terms)) (map (withdrawn_datum r) ds) d m in
        let u = map_out (withdrawn_datum r) ds d q.0 in
        subst (λ (z : Datum). Allows s x z) (sym u.2) (λ a. (inall_each (set_union s r) x ds).0 h u.0 u.1 (active_in u.0 a))),
  )

  pub withdrawn_fine : (k : Store) (x : ℤ) → Fine s (withdrawn r k) x ↔ Fine (set_union s r) k x
  unfolding withdrawn
  withdrawn_fine k x = (
    λ h. ((entries_fine k.entries).0 h.0, (held_fine k.held x).0 h.1),
    λ h. ((entries_fine k.entries).1 h.0, (held_fine k.held x).1 h.1),
  )

  pub withdrawn-some : (k : Store) → Some (set_union s r) k → Some s (withdrawn r k)
  unfolding withdrawn
  withdrawn-some k some h =
      let m = some ((entries_fine k.entries).0 h) in
      (m.0, (held_fine k.held (pos m.0)).1 m.1)
