-- A store agrees with the lines of a book, for one set s of failed names: the instants that s allows over the store are those on which the paths
-- that agree with s end. Ageing, receiving and a violation keep it so, each with the line that it enters.
-- The idea: with the two directions goes that s, where it makes every entry true, allows some instant; without it ageing could not be taken back
-- (`proofs.AgeingMeaning`). Which lines s makes true is told by any test v, so that the laws ask of a line only what its datum or its name says.
-- Assumes nothing.
use Prim.Native.Nat.{ℕ, ◌+◌, ◌^◌, ◌≤◌}
use mathlib.Core.Path.{◌≡◌, refl, sym, ap, subst, ◌∙◌}
use mathlib.Core.Logic.{◌↔◌, ◌⊎◌, inl, inr, ⊎_elim}
use mathlib.Core.Bool.{Bool, true, false, not, cond}
use mathlib.Core.List.{List, [], ◌∷◌, ◌++◌, map, append_assoc}
use native.Mathlib.Nat.{le_refl}
use native.Mathlib.Omega.{arith}
use lib.Dec.{T}
use lib.ListN.{length}
use lib.IntN.{ℤ, pos, ◌+ℤ◌}
use Rattle.names.specs.Sets.{set_union, has}
use Rattle.names.proofs.SetLaws.{union_comm, union_assoc, has-union-none}
use Rattle.predicates.specs.Predicates.{holds, implies}
use Rattle.predicates.proofs.ListLaws.{split}
use Rattle.epochs.specs.Epochs.{withdraw, older, raised, NotAbove}
use Rattle.epochs.proofs.WithdrawLaws.{withdraw-holds}
use Rattle.epochs.proofs.EpochLaws.{late-before, older-raised, raised-above, raised-heard}
use Rattle.std.specs.Prelude.{None}
use Rattle.clocks.specs.Clocks.{violated_by}
use Rattle.state.specs.Model.{Datum, datum, Head, Store}
use Rattle.engine.specs.Ageing.{slow, fast, widened, aged}
use Rattle.engine.specs.Receiving.{Delivery, grown}
use Rattle.engine.specs.Hearing.{spoken_by, risen, late, hearing, heeded, arrived}
use Rattle.steps.specs.Steps.{received, blamed, swept, judged}
use Rattle.steps.specs.Withdrawn.{withdrawn}
use Rattle.steps.proofs.BlameLaws.{judged-violated, received-swept}
use Rattle.engine.specs.Calls.{Call, age, receive, clock_of, violated, moved, made}
use Rattle.engine.proofs.CallLaws.{slow-fast, Heard, grown-ends, arrived-single}
use Rattle.engine.proofs.WatchLaws.{violated-none}
use Rattle.engine.proofs.HearingLaws.{length-spoken_by}
use Rattle.asking.specs.Instants.{Within, InAll, Fine}
use Rattle.runs.specs.Book.{Line, advanced, heard, blames, lines_of, failed_under, sees, Walk, EndsOn}
use Rattle.asking.proofs.InstantLaws.{Allows, not_active}
use Rattle.runs.proofs.ReceiptMeaning.{Some, receipt_fine, receipt-some}
use Rattle.runs.proofs.BlameMeaning.{blamed_fine, blamed-some}
use Rattle.runs.proofs.WithdrawnMeaning.{withdrawn_fine, withdrawn-some}
use Rattle.runs.proofs.AgeingMeaning.{age_in, age_out}

-- ---- paths over more lines

module _ (v : Line → Bool) where
  walk_out : (ls ms : List Line) (y x : ℤ) → Walk v (ls ++ ms) y x → (z : ℤ) × Walk v ls y z × Walk v ms z x
  walk_out [] ms y x h = (y, refl, h)
  walk_out (advanced lo hi ∷ ls) ms y x h =
      let r = walk_out ls ms (y +ℤ pos h.0) x h.3 in (r.0, (h.0, h.1, h.2, r.1), r.2)
  walk_out (heard es d ∷ ls) ms y x h = let r = walk_out ls ms y x h.1 in (r.0, (h.0, r.1), r.2)
  walk_out (blames es n ∷ ls) ms y x h = let r = walk_out ls ms y x h.1 in (r.0, (h.0, r.1), r.2)

  walk_in : (ls ms : List Line) (y z x : ℤ) → Walk v ls y z → Walk v ms z x → Walk v (ls ++ ms) y x
  walk_in [] ms y z x h k = subst (λ (w : ℤ). Walk v ms w x) (sym h) k
  walk_in (advanced lo hi ∷ ls) ms y z x h k = (h.0, h.1, h.2, walk_in ls ms (y +ℤ pos h.0) z x h.3 k)
  walk_in (heard es d ∷ ls) ms y z x h k = (h.0, walk_in ls ms y z x h.1 k)
  walk_in (blames es n ∷ ls) ms y z x h k = (h.0, walk_in ls ms y z x h.1 k)

  pub ends_out : (ls ms : List Line) (x : ℤ) → EndsOn v (ls ++ ms) x → (z : ℤ) × EndsOn v ls z × Walk v ms z x
  ends_out ls ms x h = let r = walk_out ls ms h.0 x h.1 in (r.0, (h.0, r.1), r.2)

  pub ends_in : (ls ms : List Line) (z x : ℤ) → EndsOn v ls z → Walk v ms z x → EndsOn v (ls ++ ms) x
  ends_in ls ms z x h k = (h.0, walk_in ls ms h.0 z x h.1 k)

-- ---- the invariant

pub record Agrees (v : Line → Bool) (s : ℕ) (k : Store) (ls : List Line) : Type 0 where
  pub forth : (x : ℤ) → Fine s k x → EndsOn v ls x
  pub back : (x : ℤ) → EndsOn v ls x → Fine s k x
  pub some : Some s k

-- nothing is held and nothing written
pub agrees_none : (v : Line → Bool) (s : ℕ) → Agrees v s record { held = []; entries = [] } []
agrees_none v s = record { forth = λ x h. (x, refl); back = λ x h. (tt, tt); some = λ h. (0, tt) }

module _ (v : Line → Bool) (s : ℕ) (k : Store) (ls : List Line) (ag : Agrees v s k ls) where
  pub age_agrees : (lo hi : ℕ) → lo ≤ hi → Agrees v s (aged lo hi k) (ls ++ (advanced lo hi ∷ []))
  unfolding aged
  age_agrees lo hi fits =
      record {
        forth = λ x h.
            let n = ag.some h.0 in
            let b = age_out s lo hi k.held fits n.0 n.1 x h.1 in
            ends_in v ls (advanced lo hi ∷ []) b.0 x (ag.forth b.0 (h.0, b.5)) (b.1, b.2, b.3, b.4);
        back = λ x p.
            let w = ends_out v ls (advanced lo hi ∷ []) x p in
            let f = ag.back w.0 w.1 in
            let a = w.2 in (
              f.0,
              subst (λ (z : ℤ). InAll s (map (widened lo hi) k.held) z) a.3 (age_in s lo hi k.held w.0 a.0 a.1 a.2 f.1),
            );
        some = λ h. let n = ag.some h in (n.0 + lo, age_in s lo hi k.held (pos n.0) lo (le_refl lo) fits n.1);
      }

  -- v tells of the line what s says of the datum, which has the line's ends
  pub heard_agrees : (es : List ℕ) (d : Datum) (p : List ℕ) → d.left ≤ d.right → v (heard es d) ≡ holds s p
      → Agrees v s (received (datum d.left d.right p) k) (ls ++ (heard es d ∷ []))
  heard_agrees es d p fits told =
      record {
        forth = λ x h. let f = (receipt_fine s n k x).0 h in ends_in v ls (heard es d ∷ []) x x (ag.forth x f.1) (tell x f.0, refl);
        back = λ x w.
            let w = ends_out v ls (heard es d ∷ []) x w in
            subst (λ (z : ℤ). Fine s (received n k) z) w.2.1 ((receipt_fine s n k w.0).1 (tells w.0 w.2.0, ag.back w.0 w.1));
        some = receipt-some s n k fits ag.some;
      }
    where
      n : Datum
      n = datum d.left d.right p

      tell : (x : ℤ) → Allows s x n → Within d.left d.right x ⊎ T (v (heard es d))
      tell x f = ⊎_elim (λ t. inr (rw told t)) (λ a. inl (f a)) (split (holds s p))

      tells : (x : ℤ) → Within d.left d.right x ⊎ T (v (heard es d)) → Allows s x n
      tells x (inl w) a = w
      tells x (inr t) a = not_active s n (rw told at t) x a

  -- v tells of the line whether s holds the name
  pub blamed_agrees : (es : List ℕ) (name : ℕ) → v (blames es name) ≡ has name s → Agrees v s (swept (blamed name k)) (ls ++ (blames es name ∷ []))
  blamed_agrees es name told =
      record {
        forth = λ x h. let f = (blamed_fine s name k x).0 h in ends_in v ls (blames es name ∷ []) x x (ag.forth x f.1) (rw told f.0, refl);
        back = λ x p.
            let w = ends_out v ls (blames es name ∷ []) x p in
            subst (λ (z : ℤ). Fine s (swept (blamed name k)) z) w.2.1
            ((blamed_fine s name k w.0).1 (rw told at w.2.0, ag.back w.0 w.1));
        some = blamed-some s name k ag.some;
      }

-- a receipt from the sender, with or without a violation, which enters a line of its own first
pub judged_agrees : (v : Line → Bool) (s : ℕ) (k : Store) (ls : List Line) → Agrees v s k ls → (violation : Bool) (sender : ℕ) (es : List ℕ) (d : Datum)
    (p : List ℕ) → d.left ≤ d.right → T (implies (2 ^ sender ∷ []) p) → (violation ≡ true → v (blames es sender) ≡ has sender s)
    → v (heard es d) ≡ holds s p
    → Agrees v s (judged violation sender (datum d.left d.right p) k) (ls ++ (cond violation (blames es sender ∷ []) [] ++ (heard es d ∷ [])))
unfolding judged
judged_agrees v s k ls ag true sender es d p fits i blame told =
    let n = datum d.left d.right p in
    let b = blamed_agrees v s k ls ag es sender (blame refl) in
    let h = heard_agrees v s (swept (blamed sender k)) (ls ++ (blames es sender ∷ [])) b es d p fits told in
    rw (judged-violated sender n k i) (rw (received-swept sender n k i, append_assoc ls (blames es sender ∷ []) (heard es d ∷ [])) at h)
judged_agrees v s k ls ag false sender es d p fits i blame told = heard_agrees v s k ls ag es d p fits told

-- ---- epochs heard

-- no line has an epoch above the known ones
abbrev pub Known : List ℕ → List Line → Type 0
Known ks [] = Unit {0}
Known ks (advanced lo hi ∷ ls) = Known ks ls
Known ks (heard es d ∷ ls) = NotAbove es ks × Known ks ls
Known ks (blames es n ∷ ls) = NotAbove es ks × Known ks ls

-- paths by another test that says the same of each line
module _ (ks js : List ℕ) (s u : ℕ) (same : (es : List ℕ) → NotAbove es ks → failed_under js s es ≡ failed_under ks u es) where
  walk_same : (ls : List Line) → Known ks ls → (y x : ℤ) → Walk (sees js s) ls y x ↔ Walk (sees ks u) ls y x
  unfolding sees
  walk_same [] known y x = (λ h. h, λ h. h)
  walk_same (advanced lo hi ∷ ls) known y x = (
    λ h. (h.0, h.1, h.2, (walk_same ls known (y +ℤ pos h.0) x).0 h.3),
    λ h. (h.0, h.1, h.2, (walk_same ls known (y +ℤ pos h.0) x).1 h.3),
  )
  walk_same (heard es d ∷ ls) known y x =
      let e = same es known.0 in (
        λ h. (⊎_elim (λ w. inl w) (λ t. inr (subst (λ (m : ℕ). T (holds m d.terms)) e t)) h.0, (walk_same ls known.1 y x).0 h.1),
        λ h. (⊎_elim (λ w. inl w) (λ t. inr (subst (λ (m : ℕ). T (holds m d.terms)) (sym e) t)) h.0, (walk_same ls known.1 y x).1 h.1),
      )
  walk_same (blames es n ∷ ls) known y x =
      let e = same es known.0 in (
        λ h. (subst (λ (m : ℕ). T (has n m)) e h.0, (walk_same ls known.1 y x).0 h.1),
        λ h. (subst (λ (m : ℕ). T (has n m)) (sym e) h.0, (walk_same ls known.1 y x).1 h.1),
      )

-- the old state, at the set with the risen names, is the new one
pub withdrawn_agrees : (ks es : List ℕ) → length es ≤ length ks → (s : ℕ) (k : Store) (ls : List Line) → Known ks ls
    → Agrees (sees ks (set_union s (older ks es))) (set_union s (older ks es)) k ls → Agrees (sees (raised ks es) s) s (withdrawn (older ks es) k) ls
withdrawn_agrees ks es fits s k ls known ag =
    let r = older ks es in
    let walk = walk_same ks (raised ks es) s (set_union s r) (λ fs b. later fs b) ls known in
    record {
      forth = λ x h. let w = ag.forth x ((withdrawn_fine s r k x).0 h) in (w.0, (walk w.0 x).1 w.1);
      back = λ x w. (withdrawn_fine s r k x).1 (ag.back x (w.0, (walk w.0 x).0 w.1));
      some = withdrawn-some s r k ag.some;
    }
  where
    later : (fs : List ℕ) → NotAbove fs ks → set_union s (older fs (raised ks es)) ≡ set_union (set_union s (older ks es)) (older fs ks)
    later fs b =
        ap (λ (m : ℕ). set_union s m) (older-raised ks es fits fs b ∙ union_comm (older fs ks) (older ks es)) ∙ sym (union_assoc s (older ks es) (older fs ks))

-- ---- a receipt

-- a violating sender is not late
violated_current : (h : Head) (g : Delivery) → violated h g ≡ true → T (not (has g.sender (late h g)))
unfolding violated heeded
violated_current h g e = go (has g.sender (late h g)) refl e
  where
    go : (b : Bool) → has g.sender (late h g) ≡ b
        → violated_by h.drift (clock_of (hearing h g) g.sender) (cond b None g.readings) ≡ true → T (not b)
    go true q p = false_true (sym (violated-none h.drift (clock_of (hearing h g) g.sender) None refl) ∙ p)
      where
        false_true : false ≡ true → ⊥
        false_true z = let n : ◌≡◌ {A = ℕ} 0 1 = ap (λ (b : Bool). cond b 1 0) z in omega (arith, n)
    go false q p = tt

receipt_agrees : (h : Head) (g : Delivery) → Heard g → (k : Store) (ls : List Line) → Known h.epochs ls
    → ((s : ℕ) → Agrees (sees h.epochs s) s k ls) → (s : ℕ)
    → Agrees (sees (hearing h g).epochs s) s (judged (violated h g) g.sender (arrived h g) (withdrawn (risen h g) k))
    (ls ++ (cond (violated h g) (blames (spoken_by h g) g.sender ∷ []) [] ++ (heard (spoken_by h g) (grown h g) ∷ [])))
unfolding hearing arrived risen late sees
receipt_agrees h g f k ls known ag s =
    let ks = h.epochs in
    let es = spoken_by h g in
    let fits : length es ≤ length ks = omega (arith, length-spoken_by h g) in
    let old = withdrawn_agrees ks es fits s k ls known (ag (set_union s (older ks es))) in
    let now-late : older es (raised ks es) ≡ older es ks = late-before ks es fits in
    judged_agrees (sees (raised ks es) s) s (withdrawn (older ks es) k) ls old (violated h g) g.sender es (grown h g)
    (withdraw (older es ks) (grown h g).terms) (grown-ends h g f) (arrived-single h g)
    (λ v. rw now-late (has-union-none g.sender s (older es ks) (violated_current h g v)))
    (rw now-late (sym (withdraw-holds s (older es ks) (grown h g).terms)))

-- ---- a taken call

-- what a call must be given: nothing is asked of an ageing
abbrev pub Given : Call → Type 0
Given (age reading) = Unit {0}
Given (receive g) = Heard g

-- the lines that a call enters have no epoch above those known then, nor have the others
known_more : (ks : List ℕ) (ls ms : List Line) → Known ks ls → Known ks ms → Known ks (ls ++ ms)
known_more ks [] ms a b = b
known_more ks (advanced lo hi ∷ ls) ms a b = known_more ks ls ms a b
known_more ks (heard es d ∷ ls) ms a b = (a.0, known_more ks ls ms a.1 b)
known_more ks (blames es n ∷ ls) ms a b = (a.0, known_more ks ls ms a.1 b)

known_later : (ks js : List ℕ) → NotAbove ks js → (ls : List Line) → Known ks ls → Known js ls
known_later ks js h [] a = tt
known_later ks js h (advanced lo hi ∷ ls) a = known_later ks js h ls a
known_later ks js h (heard es d ∷ ls) a = (λ n. omega (arith, h n, a.0 n), known_later ks js h ls a.1)
known_later ks js h (blames es m ∷ ls) a = (λ n. omega (arith, h n, a.0 n), known_later ks js h ls a.1)

pub call_known : (h : Head) (c : Call) (ls : List Line) → Known h.epochs ls → Known (moved h c).epochs (ls ++ lines_of h c)
unfolding moved lines_of hearing
call_known h (age reading) ls a = known_more h.epochs ls (advanced (slow h reading) (fast h reading) ∷ []) a tt
call_known h (receive g) ls a =
    let ks = h.epochs in
    let es = spoken_by h g in
    let fits : length es ≤ length ks = omega (arith, length-spoken_by h g) in
    let said = raised-heard ks es fits in
    known_more (raised ks es) ls _ (known_later ks (raised ks es) (raised-above ks es fits) ls a) (entered_known (violated h g) said)
  where
    entered_known : (b : Bool) → NotAbove (spoken_by h g) (raised h.epochs (spoken_by h g))
        → Known (raised h.epochs (spoken_by h g)) (cond b (blames (spoken_by h g) g.sender ∷ []) [] ++ (heard (spoken_by h g) (grown h g) ∷ []))
    entered_known true said = (said, (said, tt))
    entered_known false said = (said, tt)

-- where an ageing leaves the known epochs, and a receipt raises them
pub call_agrees : (h : Head) (c : Call) → Given c → (k : Store) (ls : List Line) → Known h.epochs ls
    → ((s : ℕ) → Agrees (sees h.epochs s) s k ls) → (s : ℕ) → Agrees (sees (moved h c).epochs s) s (made h k c) (ls ++ lines_of h c)
unfolding made lines_of moved
call_agrees h (age reading) f k ls known ag s =
    age_agrees (sees h.epochs s) s k ls (ag s) (slow h reading) (fast h reading) (slow-fast h reading)
call_agrees h (receive g) f k ls known ag s = receipt_agrees h g f k ls known ag s
