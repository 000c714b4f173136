-- The laws of epochs heard (`specs.Hearing`): the head stays right, the places of those who have not risen stay, a late sender's readings are no
-- readings, and where no epoch is above the known one nothing moves. No contract cites this file. Assumes nothing.
use Prim.Native.Nat.{ℕ, zero, suc, ◌≤◌, ◌<◌}
use mathlib.Core.Path.{◌≡◌, refl, sym, ap, subst, ◌∙◌}
use mathlib.Core.Bool.{Bool, true, false, not, cond}
use mathlib.Core.List.{List, [], ◌∷◌}
use native.Mathlib.Omega.{arith}
use lib.Dec.{T, eqb, leb, leb→le, le→leb}
use lib.ListN.{length, get_or}
use Rattle.numbers.proofs.NumberLaws.{length-tab, get_or-tab, tab_ext}
use Rattle.names.specs.Sets.{set_union, has}
use Rattle.names.proofs.SetLaws.{has-empty, has_mono, has-union-none, union_left, union_right}
use Rattle.std.specs.List.{list_all}
use Rattle.predicates.proofs.ListLaws.{both, both_l, both_r, true_T, T_true, T_false, cond_ind}
use Rattle.predicates.proofs.IndexLaws.{all_get_or}
use Rattle.epochs.specs.Epochs.{epoch_most, epochs_most, raised, NotAbove, spoken}
use Rattle.epochs.specs.code.Known.{Named}
use Rattle.epochs.proofs.EpochLaws.{length-raised, get_or-raised, length-spoken, spoken_le, spoken-own, raised-same, risen-none}
use Rattle.std.specs.Prelude.{None}
use Rattle.clocks.specs.Clocks.{Saved, nothing, saved_ok, readings_fail}
use Rattle.state.specs.Model.{Head}
use Rattle.state.specs.Layout.{clocks_most}
use Rattle.state.specs.Form.{head_ok}
use Rattle.state.proofs.LayoutLaws.{all-tab}
use Rattle.engine.specs.Receiving.{Delivery}
use Rattle.engine.specs.Hearing.{spoken_by, risen, late, cleared, hearing, heeded}
use Rattle.engine.specs.code.Hearing.{heard_head}

-- ---- a name of a union is in one of both

pub has-union_l : (n s t : ℕ) → has n s ≡ true → has n (set_union s t) ≡ true
has-union_l n s t e = T_true (has n (set_union s t)) (has_mono n s (set_union s t) (union_left s t) (true_T (has n s) e))

pub has-union_r : (n s t : ℕ) → has n t ≡ true → has n (set_union s t) ≡ true
has-union_r n s t e = T_true (has n (set_union s t)) (has_mono n t (set_union s t) (union_right s t) (true_T (has n t) e))

pub has-union_neither : (n s t : ℕ) → has n s ≡ false → has n t ≡ false → has n (set_union s t) ≡ false
has-union_neither n s t e f = has-union-none n s t (subst (λ (b : Bool). T (not b)) (sym f) tt) ∙ e

-- ---- the places

module _ (r : ℕ) (cs : List Saved) where
  pub length-cleared : length (cleared r cs) ≡ length cs
  unfolding cleared
  length-cleared = length-tab (length cs) (λ n. cond (has n r) nothing (get_or cs n nothing))

  pub get_or-cleared : (n : ℕ) → n < length cs → get_or (cleared r cs) n nothing ≡ cond (has n r) nothing (get_or cs n nothing)
  unfolding cleared
  get_or-cleared n h = get_or-tab (length cs) n (λ n. cond (has n r) nothing (get_or cs n nothing)) nothing h

  pub cleared_ok : T (list_all saved_ok cs) → T (list_all saved_ok (cleared r cs))
  unfolding cleared saved_ok
  cleared_ok h =
      all-tab saved_ok (length cs) (λ n. cond (has n r) nothing (get_or cs n nothing))
      (λ n l. cond_ind (λ v. T (saved_ok v)) (has n r) nothing (get_or cs n nothing) (λ _. tt) (λ _. all_get_or saved_ok cs n nothing h l))

-- where nobody has risen
pub cleared-none : (cs : List Saved) → cleared 0 cs ≡ cs
unfolding cleared
cleared-none cs =
    tab_ext nothing (length cs) (λ n. cond (has n 0) nothing (get_or cs n nothing)) cs refl
    (λ n l. ap (λ (b : Bool). cond b nothing (get_or cs n nothing)) (T_false (has n 0) (has-empty n)))

-- ---- the epochs

-- a list of epochs, by its places
epochs_out : (es : List ℕ) → T (list_all (λ e. leb e epoch_most) es) → (n : ℕ) → get_or es n 0 ≤ epoch_most
epochs_out [] t n = omega arith
epochs_out (e ∷ es) t zero = leb→le e epoch_most (both_l (leb e epoch_most) _ t)
epochs_out (e ∷ es) t (suc n) = epochs_out es (both_r (leb e epoch_most) _ t) n

epochs_in_lem : (es : List ℕ) → ((n : ℕ) → get_or es n 0 ≤ epoch_most) → T (list_all (λ e. leb e epoch_most) es)
epochs_in_lem [] h = tt
epochs_in_lem (e ∷ es) h = both (leb e epoch_most) _ (le→leb e epoch_most (h 0)) (epochs_in_lem es (λ n. h (suc n)))

-- the head stays right, whoever speaks of the epochs
module _ (own : ℕ) (names : List ℕ) (r : ℕ) (h : Head) where
  abbrev said : List ℕ
  said = spoken own names h.epochs

  heard-epochs : T (list_all (λ e. leb e epoch_most) h.epochs) → Named names → T (list_all (λ e. leb e epoch_most) (raised h.epochs said))
  heard-epochs t named =
      let known = epochs_out h.epochs t in
      let small = spoken_le own epoch_most names h.epochs known (λ i l. omega (arith, named.small i l)) in
      epochs_in_lem (raised h.epochs said)
      (λ n. omega (arith, get_or-raised h.epochs said n (omega (arith, length-spoken own names h.epochs)), known n, small n))

  pub heard_ok : T (head_ok h) → Named names → T (head_ok (heard_head own names r h))
  unfolding head_ok heard_head
  heard_ok t named =
      let cs : T (list_all saved_ok h.clocks) = search (both_l, both_r) depth 9 in
      let es : T (list_all (λ e. leb e epoch_most) h.epochs) = search (both_l, both_r) depth 12 in
      let clocks = cleared_ok r h.clocks cs in
      let clocks-there : T (eqb (length (cleared r h.clocks)) clocks_most) = rw length-cleared (search (both_l, both_r) depth 9) in
      let epochs : T (list_all (λ e. leb e epoch_most) (raised h.epochs said)) = heard-epochs es named in
      let epochs-there : T (eqb (length (raised h.epochs said)) epochs_most) = rw length-raised (search (both_l, both_r) depth 12) in
      search (both, both_l, both_r) depth 14

module _ (h : Head) (g : Delivery) where
  pub length-spoken_by : length (spoken_by h g) ≡ length h.epochs
  unfolding spoken_by
  length-spoken_by = length-spoken h.own g.names h.epochs

  -- the head stays right
  pub hearing_ok : T (head_ok h) → Named g.names → T (head_ok (hearing h g))
  unfolding hearing spoken_by heard_head
  hearing_ok t named = heard_ok h.own g.names (risen h g) h t named

  -- the readings that are heeded fit, if those given do
  pub heeded-fits : T (not (readings_fail g.readings)) → T (not (readings_fail (heeded h g)))
  unfolding heeded readings_fail
  heeded-fits k = cond_ind (λ r. T (not (readings_fail r))) (has g.sender (late h g)) None g.readings (λ _. tt) (λ _. k)

  -- without readings none are heeded
  pub heeded-none : g.readings ≡ None → heeded h g ≡ None
  unfolding heeded
  heeded-none e = cond_ind (λ r. r ≡ None) (has g.sender (late h g)) None g.readings (λ _. refl) (λ _. e)

  -- where no epoch is above the known one nothing moves
  pub quiet-risen : NotAbove (spoken_by h g) h.epochs → risen h g ≡ 0
  unfolding risen
  quiet-risen q = risen-none h.epochs (spoken_by h g) q

  pub quiet-hearing : NotAbove (spoken_by h g) h.epochs → hearing h g ≡ h
  unfolding hearing
  quiet-hearing q =
      rw (quiet-risen q, cleared-none h.clocks, raised-same h.epochs (spoken_by h g) q)

  -- the own epoch stays
  pub own-epoch-heard : get_or (hearing h g).epochs h.own 0 ≡ get_or h.epochs h.own 0
  unfolding hearing spoken_by
  own-epoch-heard =
      get_or-raised h.epochs (spoken h.own g.names h.epochs) h.own (omega (arith, length-spoken h.own g.names h.epochs))
      ∙ omega (arith, spoken-own h.own g.names h.epochs)
