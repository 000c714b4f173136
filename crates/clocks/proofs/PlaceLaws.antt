-- A sender's place: how many bytes it has, and that what is saved in one in form is below 2^43, also after one triple more. Assumes nothing.
use Prim.Native.Nat.{ℕ, ◌+◌, ◌≤◌}
use mathlib.Core.Path.{◌≡◌}
use mathlib.Core.Bool.{Bool, true, false, ◌&&◌, ◌||◌, not, cond}
use mathlib.Core.List.{List}
use borrow.Author.Tests.{ne_eqb}
use lib.Dec.{T, eqb, leb, ltb, ltb→lt, lt→ltb, nleb→lt, nltb→le}
use lib.ListN.{length, length-append, length-replicate}
use Rattle.numbers.specs.Numbers.{num}
use Rattle.numbers.proofs.NumberLaws.{length-bytes}
use Rattle.predicates.proofs.ListLaws.{both, both_l, both_r, neither, cond_ind}
use Rattle.clocks.specs.declared.Triple.{Triple}
use Rattle.clocks.specs.Clocks.{Fits, triple_limit, drift_most, fails, small, ahead, behind, ahead_of, behind_of, Saved, nothing, three, saving, saved_ok}
use Rattle.clocks.specs.Places.{triple_size, place_size, previous_in, ahead_in, behind_in, triple_bytes, saved_bytes, triple_at, three_at, saved_at, place_fits}

-- ---- lengths

pub length-triple : (t : Triple) → length (triple_bytes t) ≡ triple_size
unfolding triple_bytes
length-triple t = simp (length-append, length-bytes)

pub length-saved : (v : Saved) → length (saved_bytes v) ≡ place_size
unfolding saved_bytes
length-saved nothing = length-replicate {A = ℕ} place_size 0
length-saved (three p a b) = simp (length-append, length-bytes, length-triple)

-- ---- below 2^43

-- three tests, one behind the other
three_in : (a b c : Bool) → T a → T b → T c → T (a && (b && c))
three_in a b c p q r = both a (b && c) p (both b c q r)

three_out : (a b c : Bool) → T (a && (b && c)) → T a × T b × T c
three_out a b c h = let low = both_r a (b && c) h in (both_l a (b && c) h, both_l b c low, both_r b c low)

-- a triple that passes the test
pub small_out : (t : Triple) → T (small t) → Fits t
small_out t h =
    let each = three_out (ltb t.there triple_limit) (ltb t.here triple_limit) (ltb t.half triple_limit) h in
    (ltb→lt t.there triple_limit each.0, ltb→lt t.here triple_limit each.1, ltb→lt t.half triple_limit each.2)

pub small_in : (t : Triple) → Fits t → T (small t)
small_in t fit =
    three_in (ltb t.there triple_limit) (ltb t.here triple_limit) (ltb t.half triple_limit)
    (lt→ltb t.there triple_limit fit.0) (lt→ltb t.here triple_limit fit.1) (lt→ltb t.half triple_limit fit.2)

-- readings that can be taken
pub fails-small : (t : Triple) (drift : ℕ) → T (not (fails t drift)) → T (small t) × (drift ≤ drift_most)
fails-small t drift h =
    let a = neither (leb triple_limit t.there) (leb triple_limit t.here || (leb triple_limit t.half || ltb drift_most drift)) h in
    let b = neither (leb triple_limit t.here) (leb triple_limit t.half || ltb drift_most drift) a.1 in
    let c = neither (leb triple_limit t.half) (ltb drift_most drift) b.1 in
    (small_in t (nleb→lt triple_limit t.there a.0, nleb→lt triple_limit t.here b.0, nleb→lt triple_limit t.half c.0), nltb→le drift_most drift c.1)

-- what is saved after one triple more
pub saving_ok : (v : Saved) (t : Triple) → T (saved_ok v) → T (small t) → T (saved_ok (saving v t))
unfolding saved_ok saving ahead_of behind_of
saving_ok nothing t h k = three_in (small t) (small t) (small t) k k k
saving_ok (three p a b) t h k =
    let old = three_out (small p) (small a) (small b) h in
    three_in (small t) (small (ahead_of a t)) (small (behind_of b t)) k
    (cond_ind (λ x. T (small x)) (ahead a t) t a (λ _. k) (λ _. old.1)) (cond_ind (λ x. T (small x)) (behind b t) t b (λ _. k) (λ _. old.2))

-- ---- what is saved in a place

saved_if : (empty blank flag : Bool) (v : Saved) → T (cond empty blank (flag && saved_ok v)) → T (saved_ok (cond empty nothing v))
unfolding saved_ok
saved_if true blank flag v h = tt
saved_if false blank flag v h = both_r flag (saved_ok v) h

-- in a place in form
pub saved-small : (at : ℕ) (s : List ℕ) → T (place_fits at s) → T (saved_ok (saved_at at s))
unfolding place_fits saved_at
saved-small at s h = saved_if (eqb (num at 4 s) 0) _ (eqb (num at 4 s) 1) (three_at at s) h

-- by the flag that was read
at_three : (at flag : ℕ) (s : List ℕ) → flag ≡ num at 4 s → (flag ≡ 0 → ⊥) → saved_at at s ≡ three_at at s
unfolding saved_at
at_three at flag s e n = rw (← e, ne_eqb flag 0 n)

-- the three of a place in form in which something is saved
pub place-three : (at flag : ℕ) (s : List ℕ) → flag ≡ num at 4 s → (flag ≡ 0 → ⊥) → T (place_fits at s) →
    Fits (triple_at (at + previous_in) s) × Fits (triple_at (at + ahead_in) s) × Fits (triple_at (at + behind_in) s)
unfolding saved_ok three_at
place-three at flag s e n h =
    let p = triple_at (at + previous_in) s in
    let a = triple_at (at + ahead_in) s in
    let b = triple_at (at + behind_in) s in
    let ok : T (saved_ok (three p a b)) = rw (at_three at flag s e n) at (saved-small at s h) in
    let each = three_out (small p) (small a) (small b) ok in
    (small_out p each.0, small_out a each.1, small_out b each.2)
