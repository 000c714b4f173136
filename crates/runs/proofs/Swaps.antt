-- Two receipts that follow each other, in either order (document 02, W-206): the book lets the same paths through.
-- The idea: a receipt leaves a path where it is, so lines of receipts may change places. What the second enters does not depend on the first, unless
-- both carry clock readings of one sender: the triples of different senders are saved in different places, and without an epoch above the known one
-- nothing else of the head moves. Assumes nothing.
use Prim.Native.Nat.{ℕ}
use mathlib.Core.Path.{◌≡◌, refl, sym, ap, subst, ◌∙◌}
use mathlib.Core.Bool.{Bool, true, ◌&&◌, cond}
use mathlib.Core.List.{List, [], ◌∷◌, ◌++◌}
use lib.Dec.{T, eqb, eqb_refl}
use lib.ListN.{get_or, set}
use lib.Seq.{get_or-set_other, set_comm}
use lib.IntN.{ℤ}
use Rattle.predicates.proofs.ListLaws.{both, cond_ind}
use Rattle.epochs.specs.Epochs.{NotAbove}
use Rattle.std.specs.Prelude.{Option, None, Some}
use Rattle.clocks.specs.declared.Readings.{Readings}
use Rattle.clocks.specs.Clocks.{Saved, nothing, saving, violated_by, watched}
use Rattle.state.specs.Model.{Head, with_clocks}
use Rattle.engine.specs.Receiving.{Delivery, grown}
use Rattle.engine.specs.Hearing.{spoken_by, late, heeded}
use Rattle.engine.specs.Calls.{receive, violated, moved}
use Rattle.engine.proofs.HearingLaws.{quiet-hearing}
use Rattle.runs.specs.Book.{Line, advanced, heard, blames, Book, lines_of, entered, Walk, EndsOn}
use Rattle.runs.specs.Orders.{is_given}
use Rattle.runs.proofs.Agreement.{ends_out, ends_in}
use Rattle.runs.proofs.Further.{Less}

-- ---- lines that leave a path where it is

abbrev Still : List Line → Type 0
Still [] = Unit {0}
Still (advanced lo hi ∷ ls) = ⊥
Still (heard es d ∷ ls) = Still ls
Still (blames es n ∷ ls) = Still ls

module _ (v : Line → Bool) where
  still_walk : (ls : List Line) (y x : ℤ) → Still ls → Walk v ls y x → y ≡ x
  still_walk [] y x r h = h
  still_walk (advanced lo hi ∷ ls) y x r h = absurd r
  still_walk (heard es d ∷ ls) y x r h = still_walk ls y x r h.1
  still_walk (blames es n ∷ ls) y x r h = still_walk ls y x r h.1

  -- so their order does not matter
  ends_swap : (ls ms ns : List Line) (x : ℤ) → Still ms → Still ns → EndsOn v ((ls ++ ms) ++ ns) x → EndsOn v ((ls ++ ns) ++ ms) x
  ends_swap ls ms ns x a b h =
      let u = ends_out v (ls ++ ms) ns x h in
      let w = ends_out v ls ms u.0 u.1 in
      let p : w.0 ≡ u.0 = still_walk ms w.0 u.0 a w.2 in
      let q : u.0 ≡ x = still_walk ns u.0 x b u.2 in
      let first : Walk v ns w.0 w.0 = subst (λ (z : ℤ). Walk v ns w.0 z) (sym (p ∙ q)) (subst (λ (z : ℤ). Walk v ns z x) (sym p) u.2) in
      let second : Walk v ms w.0 x = subst (λ (z : ℤ). Walk v ms w.0 z) q w.2 in
      ends_in v (ls ++ ns) ms w.0 x (ends_in v ls ns w.0 w.0 w.1 first) second

lines-still : (h : Head) (g : Delivery) → Still (lines_of h (receive g))
unfolding lines_of
lines-still h g =
    cond_ind (λ (ms : List Line). Still (ms ++ (heard (spoken_by h g) (grown h g) ∷ []))) (violated h g) (blames (spoken_by h g) g.sender ∷ []) []
    (λ _. tt) (λ _. tt)

-- ---- the triples of different senders

-- readings of i and of j that are not both given, or i and j are not one
abbrev UnrelatedAt : ℕ → Option Readings → ℕ → Option Readings → Type 0
UnrelatedAt i r j u = (n : ℕ) → T (eqb i n && is_given r) → T (eqb j n && is_given u) → ⊥

other_senders : (i j : ℕ) → ((n : ℕ) → T (eqb i n && true) → T (eqb j n && true) → ⊥) → j ≡ i → ⊥
other_senders i j a e =
    let same : T (eqb j j && true) = both (eqb j j) true (eqb_refl j) tt in a j (subst (λ (n : ℕ). T (eqb n j && true)) e same) same

-- what is saved of j is what it was
watched_other : (i : ℕ) (r : Option Readings) (j drift : ℕ) (u : Option Readings) (cs : List Saved) → UnrelatedAt i r j u
    → violated_by drift (get_or (watched r i cs) j nothing) u ≡ violated_by drift (get_or cs j nothing) u
unfolding watched violated_by
watched_other i None j drift u cs a = refl
watched_other i (Some x) j drift None cs a = refl
watched_other i (Some x) j drift (Some y) cs a =
    ap (λ (c : Saved). violated_by drift c (Some y)) (get_or-set_other cs i j (saving (get_or cs i nothing) x.triple) nothing (other_senders i j a))

watched_swap : (i : ℕ) (r : Option Readings) (j : ℕ) (u : Option Readings) (cs : List Saved) → UnrelatedAt i r j u
    → watched u j (watched r i cs) ≡ watched r i (watched u j cs)
unfolding watched
watched_swap i None j u cs a = refl
watched_swap i (Some x) j None cs a = refl
watched_swap i (Some x) j (Some y) cs a =
    let other : j ≡ i → ⊥ = other_senders i j a in
    let new : Saved = saving (get_or cs i nothing) x.triple in
    ap (λ (c : Saved). set (set cs i new) j (saving c y.triple)) (get_or-set_other cs i j new nothing other)
    ∙ set_comm cs i j new (saving (get_or cs j nothing) y.triple) (λ q. other (sym q))
    ∙ ap (λ (c : Saved). set (set cs j (saving (get_or cs j nothing) y.triple)) i (saving c x.triple))
    (sym (get_or-set_other cs j i (saving (get_or cs j nothing) y.triple) nothing (λ q. other (sym q))))

-- ---- two receipts, where the head before all of them is h

module _ (h : Head) where
  -- a receipt that brings no epoch above the known one changes the clocks alone
  pub plain_moved : (g : Delivery) → NotAbove (spoken_by h g) h.epochs → (cs : List Saved)
      → moved (with_clocks h cs) (receive g) ≡ with_clocks h (watched (heeded h g) g.sender cs)
  unfolding moved heeded late spoken_by
  plain_moved g q cs = rw (quiet-hearing (with_clocks h cs) g q)

  -- and enters what it enters by the clocks before it
  plain_lines : (g : Delivery) → NotAbove (spoken_by h g) h.epochs → (cs : List Saved)
      → lines_of (with_clocks h cs) (receive g)
      ≡ cond (violated_by h.drift (get_or cs g.sender nothing) (heeded h g)) (blames (spoken_by h g) g.sender ∷ []) []
      ++ (heard (spoken_by h g) (grown h g) ∷ [])
  unfolding lines_of violated heeded late spoken_by grown
  plain_lines g q cs = rw (quiet-hearing (with_clocks h cs) g q)

  module _ (f g : Delivery) (qf : NotAbove (spoken_by h f) h.epochs) (qg : NotAbove (spoken_by h g) h.epochs)
      (a : UnrelatedAt f.sender (heeded h f) g.sender (heeded h g)) (cs : List Saved) where
    -- the second enters what it would enter first
    lines_other : lines_of (moved (with_clocks h cs) (receive f)) (receive g) ≡ lines_of (with_clocks h cs) (receive g)
    lines_other =
        rw (
          plain_moved f qf cs,
          plain_lines g qg (watched (heeded h f) f.sender cs),
          plain_lines g qg cs,
          watched_other f.sender (heeded h f) g.sender h.drift (heeded h g) cs a,
        )

    both-moved : moved (moved (with_clocks h cs) (receive f)) (receive g)
        ≡ with_clocks h (watched (heeded h g) g.sender (watched (heeded h f) f.sender cs))
    both-moved = rw (plain_moved f qf cs, plain_moved g qg (watched (heeded h f) f.sender cs))

  -- a book while such receipts come
  abbrev pub Batch : Book → Type 0
  Batch b = (cs : List Saved) × (b.head ≡ with_clocks h cs)

  pub swap_less : (b : Book) → Batch b → (f g : Delivery) → NotAbove (spoken_by h f) h.epochs → NotAbove (spoken_by h g) h.epochs
      → UnrelatedAt f.sender (heeded h f) g.sender (heeded h g)
      → Less (entered (entered b (receive f)) (receive g)) (entered (entered b (receive g)) (receive f))
  unfolding entered
  swap_less b (cs, e) f g qf qg a =
      record {
        head =
            rw (e, both-moved f g qf qg a cs, both-moved g f qg qf back cs)
            (ap (λ (c : List Saved). with_clocks h c) (watched_swap f.sender (heeded h f) g.sender (heeded h g) cs a));
        ends = λ v x p.
            rw (e, lines_other g f qg qf back cs)
            (ends_swap v b.lines (lines_of (with_clocks h cs) (receive f)) (lines_of (with_clocks h cs) (receive g)) x
            (lines-still (with_clocks h cs) f) (lines-still (with_clocks h cs) g) (rw (e, lines_other f g qf qg a cs) at p));
      }
    where
      back : UnrelatedAt g.sender (heeded h g) f.sender (heeded h f)
      back n s t = a n t s
