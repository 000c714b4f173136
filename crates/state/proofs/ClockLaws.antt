-- Laws of a name's place (`clocks.specs.Places`): what stands there is read and in form, and a place in form has the bytes of what is read.
-- The idea: saved or not, a place is a flag and three triples; where nothing is saved they are zero. No contract cites this file. Assumes nothing.
use Prim.Native.Nat.{ℕ, ◌+◌, ◌≤◌, ◌<◌}
use mathlib.Core.Path.{◌≡◌, refl, sym, ap, ◌∙◌}
use mathlib.Core.Bool.{Bool, true, false, ◌&&◌, cond}
use mathlib.Core.List.{List, ◌++◌}
use native.Mathlib.Omega.{arith}
use lib.Dec.{T, eqb, eqb→eq}
use lib.ListN.{length, get_or}
use Rattle.numbers.specs.Numbers.{num, bytes, tab, Bytes}
use Rattle.numbers.proofs.NumberLaws.{bytes-num, length-bytes, tab_ext}
use Rattle.std.specs.List.{list_all}
use Rattle.predicates.specs.Lists.{all_below}
use Rattle.predicates.proofs.ListLaws.{both_l, both_r}
use Rattle.predicates.proofs.IndexLaws.{all_get_or, below_in}
use Rattle.clocks.specs.declared.Triple.{Triple}
use Rattle.clocks.specs.Clocks.{small, Saved, nothing, three, saved_ok}
use Rattle.clocks.specs.Places.{place_size, previous_in, ahead_in, behind_in, triple_bytes, saved_bytes, triple_at, three_at, saved_at, blank, blank_at, place_fits}
use Rattle.clocks.proofs.PlaceLaws.{length-triple, length-saved, small_out}
use Rattle.state.specs.Layout.{clocks_at, clocks_most, clock_place, joined}
use Rattle.state.proofs.LayoutLaws.{part, part_add, At, at_first_lem, at_then, at_joined, num_at}

-- ---- a triple

triple_in : (at : ℕ) (t : Triple) (s : List ℕ) → T (small t) → At at (triple_bytes t) s → triple_at at s ≡ t
unfolding triple_bytes triple_at
triple_in at t s h k =
    let fit = small_out t h in
    let rest = at_then 8 at (bytes 8 t.there) _ s (length-bytes 8 t.there) k in
    let e : at + 8 + 8 ≡ at + 16 = omega arith in
    let last : At (at + 16) (bytes 8 t.half) s =
    rw e at (at_then 8 (at + 8) (bytes 8 t.here) (bytes 8 t.half) s (length-bytes 8 t.here) rest) in
    rw (
      num_at 8 at t.there s (omega (arith, fit.0)) (at_first_lem at (bytes 8 t.there) _ s k),
      num_at 8 (at + 8) t.here s (omega (arith, fit.1)) (at_first_lem (at + 8) (bytes 8 t.here) _ s rest),
      num_at 8 (at + 16) t.half s (omega (arith, fit.2)) last,
    )

triple_part : (at : ℕ) (s : List ℕ) → Bytes s → at + 24 ≤ length s → triple_bytes (triple_at at s) ≡ part at 24 s
unfolding triple_bytes triple_at
triple_part at s b h =
    let e : at + 8 + 8 ≡ at + 16 = omega arith in
    rw (bytes-num 8 at s b (omega arith), bytes-num 8 (at + 8) s b (omega arith), bytes-num 8 (at + 16) s b (omega arith), ← e)
    (sym (part_add at 8 16 s ∙ ap (λ (a : List ℕ). part at 8 s ++ a) (part_add (at + 8) 8 8 s)))

-- ---- a place, by its flag and its triples

abbrev place_bytes : ℕ → Triple → Triple → Triple → List ℕ
place_bytes flag p a b = bytes 4 flag ++ (triple_bytes p ++ (triple_bytes a ++ triple_bytes b))

abbrev none : Triple
none = record { there = 0; here = 0; half = 0 }

-- where nothing is saved all is zero
nothing-bytes : saved_bytes nothing ≡ place_bytes 0 none none none
unfolding saved_bytes triple_bytes bytes
nothing-bytes = refl

record PlaceRead (at flag : ℕ) (p a b : Triple) (s : List ℕ) : Type 0 where
  flag_is : num at 4 s ≡ flag
  previous_is : triple_at (at + previous_in) s ≡ p
  ahead_is : triple_at (at + ahead_in) s ≡ a
  behind_is : triple_at (at + behind_in) s ≡ b

place_read : (at flag : ℕ) (p a b : Triple) (s : List ℕ) → flag < 2 → T (small p) → T (small a) → T (small b) → At at (place_bytes flag p a b) s
    → PlaceRead at flag p a b s
place_read at flag p a b s f hp ha hb k =
    let first = at_then 4 at (bytes 4 flag) _ s (length-bytes 4 flag) k in
    let e : at + 4 + 24 ≡ at + 28 = omega arith in
    let d : at + 28 + 24 ≡ at + 52 = omega arith in
    let second : At (at + 28) (triple_bytes a ++ triple_bytes b) s = rw e at (at_then 24 (at + 4) (triple_bytes p) _ s (length-triple p) first) in
    let third : At (at + 52) (triple_bytes b) s = rw d at (at_then 24 (at + 28) (triple_bytes a) (triple_bytes b) s (length-triple a) second) in
    record {
      flag_is = num_at 4 at flag s (omega arith) (at_first_lem at (bytes 4 flag) _ s k);
      previous_is = triple_in (at + 4) p s hp (at_first_lem (at + 4) (triple_bytes p) _ s first);
      ahead_is = triple_in (at + 28) a s ha (at_first_lem (at + 28) (triple_bytes a) (triple_bytes b) s second);
      behind_is = triple_in (at + 52) b s hb third;
    }

nothing_in : (at : ℕ) (s : List ℕ) → At at (saved_bytes nothing) s → (saved_at at s ≡ nothing) × T (place_fits at s)
unfolding saved_at place_fits blank_at
nothing_in at s k =
    let r = place_read at 0 none none none s (omega arith) tt tt tt (rw nothing-bytes at k) in
    (rw r.flag_is, rw (r.flag_is, r.previous_is, r.ahead_is, r.behind_is) tt)

three_in : (at : ℕ) (p a b : Triple) (s : List ℕ) → T (saved_ok (three p a b)) → At at (saved_bytes (three p a b)) s
    → (saved_at at s ≡ three p a b) × T (place_fits at s)
unfolding saved_ok saved_bytes three_at saved_at place_fits
three_in at p a b s h k =
    let low = both_r (small p) (small a && small b) h in
    let r = place_read at 1 p a b s (omega arith) (both_l (small p) _ h) (both_l (small a) (small b) low) (both_r (small a) (small b) low) k in
    (rw (r.flag_is, r.previous_is, r.ahead_is, r.behind_is), rw (r.flag_is, r.previous_is, r.ahead_is, r.behind_is) h)

-- what stands at a place is read, and in form
pub saved_in : (at : ℕ) (v : Saved) (s : List ℕ) → T (saved_ok v) → At at (saved_bytes v) s → (saved_at at s ≡ v) × T (place_fits at s)
saved_in at nothing s h k = nothing_in at s k
saved_in at (three p a b) s h k = three_in at p a b s h k

-- ---- a place in form

place_part : (at : ℕ) (s : List ℕ) → Bytes s → at + place_size ≤ length s
    → place_bytes (num at 4 s) (triple_at (at + previous_in) s) (triple_at (at + ahead_in) s) (triple_at (at + behind_in) s) ≡ part at place_size s
place_part at s b h =
    let e : at + 4 + 24 ≡ at + 28 = omega arith in
    let d : at + 28 + 24 ≡ at + 52 = omega arith in
    rw (
      bytes-num 4 at s b (omega arith),
      triple_part (at + 4) s b (omega arith),
      triple_part (at + 28) s b (omega arith),
      triple_part (at + 52) s b (omega arith),
      ← d,
      ← e,
    )
    (sym (part_add at 4 72 s ∙ ap (λ (x : List ℕ). part at 4 s ++ x) (part_add (at + 4) 24 48 s ∙ ap (λ (x : List ℕ). part (at + 4) 24 s ++ x) (part_add (at + 4 + 24) 24 24 s))))

blank_none : (t : Triple) → T (blank t) → t ≡ none
blank_none t h =
    let low = both_r (eqb t.there 0) (eqb t.here 0 && eqb t.half 0) h in
    let x = eqb→eq t.there 0 (both_l (eqb t.there 0) _ h) in
    let y = eqb→eq t.here 0 (both_l (eqb t.here 0) (eqb t.half 0) low) in
    let z = eqb→eq t.half 0 (both_r (eqb t.here 0) (eqb t.half 0) low) in
    ap (λ (n : ℕ). triple n t.here t.half) x ∙ ap (λ (n : ℕ). triple 0 n t.half) y ∙ ap (λ (n : ℕ). triple 0 0 n) z
  where
    triple : ℕ → ℕ → ℕ → Triple
    triple a b w = record { there = a; here = b; half = w }

blank-bytes : (at : ℕ) (s : List ℕ) → num at 4 s ≡ 0 → T (blank_at at s)
    → saved_bytes nothing ≡ place_bytes (num at 4 s) (triple_at (at + previous_in) s) (triple_at (at + ahead_in) s) (triple_at (at + behind_in) s)
unfolding blank_at
blank-bytes at s e k =
    let p = triple_at (at + previous_in) s in
    let a = triple_at (at + ahead_in) s in
    let c = triple_at (at + behind_in) s in
    let low = both_r (blank p) (blank a && blank c) k in
    nothing-bytes
    ∙ rw (e, blank_none p (both_l (blank p) _ k), blank_none a (both_l (blank a) (blank c) low), blank_none c (both_r (blank a) (blank c) low))

three-bytes : (at : ℕ) (s : List ℕ) → num at 4 s ≡ 1
    → saved_bytes (three_at at s) ≡ place_bytes (num at 4 s) (triple_at (at + previous_in) s) (triple_at (at + ahead_in) s) (triple_at (at + behind_in) s)
unfolding three_at saved_bytes
three-bytes at s e = rw e

-- a place in form has the bytes of what is read of it
pub saved_part : (at : ℕ) (s : List ℕ) → T (place_fits at s) → Bytes s → at + place_size ≤ length s → saved_bytes (saved_at at s) ≡ part at place_size s
unfolding place_fits saved_at
saved_part at s t b h = go (eqb (num at 4 s) 0) refl t ∙ place_part at s b h
  where
    go : (z : Bool) → eqb (num at 4 s) 0 ≡ z → T (cond z (blank_at at s) (eqb (num at 4 s) 1 && saved_ok (three_at at s)))
        → saved_bytes (cond z nothing (three_at at s)) ≡ place_bytes (num at 4 s) (triple_at (at + previous_in) s) (triple_at (at + ahead_in) s) (triple_at (at + behind_in) s)
    go true e k = blank-bytes at s (eqb→eq (num at 4 s) 0 (rw e tt)) k
    go false e k = three-bytes at s (eqb→eq (num at 4 s) 1 (both_l (eqb (num at 4 s) 1) _ k))

-- ---- the places of all names

-- what stands at them is read, and in form
pub clocks_in : (cs : List Saved) (s : List ℕ) → length cs ≡ clocks_most → T (list_all saved_ok cs) → At clocks_at (joined saved_bytes cs) s
    → (tab clocks_most (λ i. saved_at (clock_place i) s) ≡ cs) × T (all_below clocks_most (λ i. place_fits (clock_place i) s))
clocks_in cs s e t k = (
  tab_ext nothing clocks_most _ cs e (λ i l. (each i l).0),
  below_in clocks_most (λ i. place_fits (clock_place i) s) (λ i l. (each i l).1),
)
  where
    each : (i : ℕ) → i < clocks_most → (saved_at (clock_place i) s ≡ get_or cs i nothing) × T (place_fits (clock_place i) s)
    each i l =
        let near : i < length cs = omega arith in
        saved_in (clock_place i) (get_or cs i nothing) s (all_get_or saved_ok cs i nothing t near)
        (at_joined saved_bytes saved_ok place_size (λ v _. length-saved v) nothing clocks_at i cs s t near k)
