-- The sender's clock in a state: what is saved of each name stays right, and storing one place is storing the state with that name's triples exchanged.
-- No contract cites this file. Assumes nothing.
use Prim.Native.Nat.{ℕ, zero, suc, ◌+◌, ◌≤◌, ◌<◌}
use mathlib.Core.Path.{◌≡◌, refl, sym, ap, subst, ◌∙◌}
use mathlib.Core.Bool.{Bool, false, not}
use mathlib.Core.List.{List, [], ◌∷◌}
use lib.Dec.{T}
use lib.ListN.{length, get_or, set, length-set}
use Rattle.numbers.specs.Numbers.{num, put, Bytes}
use Rattle.std.specs.List.{list_all}
use Rattle.predicates.proofs.ListLaws.{both, both_l, both_r}
use Rattle.predicates.proofs.IndexLaws.{all_get_or}
use Rattle.std.specs.Prelude.{Option, None, Some}
use Rattle.clocks.specs.declared.Readings.{Readings}
use Rattle.clocks.specs.Clocks.{Fits, drift_most, Saved, nothing, saved_ok, saving, violates, readings_fail, violated_by, watched}
use Rattle.clocks.specs.Places.{saved_bytes, saved_at}
use Rattle.clocks.proofs.PlaceLaws.{saving_ok, small_out, fails-small}
use Rattle.state.specs.Model.{with_clocks}
use Rattle.state.specs.Layout.{state_size, drift_at, clocks_most, clock_place, state_bytes, head_of, store_of, state_of}
use Rattle.state.specs.Form.{in_form}
use Rattle.state.proofs.StateLaws.{form_ok, put-state-same, place-put, clock_read}
use Rattle.engine.specs.Calls.{clock_of}

pub all_set : {A : Type 0} (f : A → Bool) (l : List A) (i : ℕ) (v : A) → T (list_all f l) → T (f v) → T (list_all f (set l i v))
all_set f [] i v t h = tt
all_set f (x ∷ l) zero v t h = both (f v) (list_all f l) h (both_r (f x) (list_all f l) t)
all_set f (x ∷ l) (suc i) v t h = both (f x) (list_all f (set l i v)) (both_l (f x) (list_all f l) t) (all_set f l i v (both_r (f x) (list_all f l) t) h)

pub length-watched : (r : Option Readings) (sender : ℕ) (cs : List Saved) → length (watched r sender cs) ≡ length cs
unfolding watched
length-watched None sender cs = refl
length-watched (Some x) sender cs = length-set cs sender (saving (get_or cs sender nothing) x.triple)

pub watched_ok : (r : Option Readings) (sender : ℕ) (cs : List Saved) → T (not (readings_fail r)) → sender < length cs → T (list_all saved_ok cs)
    → T (list_all saved_ok (watched r sender cs))
unfolding readings_fail watched
watched_ok None sender cs h l a = a
watched_ok (Some x) sender cs h l a =
    all_set saved_ok cs sender _ a (saving_ok (get_or cs sender nothing) x.triple (all_get_or saved_ok cs sender nothing a l) (fails-small x.triple x.drift h).0)

-- without readings
pub watched-none : (r : Option Readings) (sender : ℕ) (cs : List Saved) → r ≡ None → watched r sender cs ≡ cs
unfolding watched
watched-none r sender cs e = subst (λ (x : Option Readings). watched x sender cs ≡ cs) (sym e) refl

pub violated-none : (own : ℕ) (v : Saved) (r : Option Readings) → r ≡ None → violated_by own v r ≡ false
unfolding violated_by
violated-none own v r e = subst (λ (x : Option Readings). violated_by own v x ≡ false) (sym e) refl

-- of a clock of which nothing is saved
pub none-saved : (own : ℕ) (r : Option Readings) → violated_by own nothing r ≡ false
unfolding violated_by violates
none-saved own None = refl
none-saved own (Some x) = refl

-- one place, stored in a state in form
pub place-saved : (s : List ℕ) → T (in_form s) → Bytes s → state_size ≤ length s → (i : ℕ) (v : Saved) → i < clocks_most
    → put (clock_place i) (saved_bytes v) s ≡ put 0 (state_bytes (record { head = with_clocks (head_of s) (set (head_of s).clocks i v); store = store_of s })) s
unfolding state_of
place-saved s f b h i v l =
    ap (λ (u : List ℕ). put (clock_place i) (saved_bytes v) u) (sym (put-state-same s f b h)) ∙ place-put (state_of s) s (form_ok s f) h i v l

-- ---- readings that a call was given

-- they fit
pub with_fits : (r : Option Readings) (x : Readings) → r ≡ Some x → T (not (readings_fail r)) → Fits x.triple × (x.drift ≤ drift_most)
unfolding readings_fail
with_fits r x e h =
    let k = fails-small x.triple x.drift (subst (λ (y : Option Readings). T (not (readings_fail y))) e h) in (small_out x.triple k.0, k.1)

-- tested against the sender's place
pub with_violated : (s : List ℕ) (sender : ℕ) (r : Option Readings) (x : Readings) (own : ℕ) → sender < clocks_most → r ≡ Some x → own ≡ num drift_at 4 s
    → violates (own + x.drift) (saved_at (clock_place sender) s) x.triple ≡ violated_by (head_of s).drift (clock_of (head_of s) sender) r
unfolding violated_by head_of
with_violated s sender r x own l e d =
    subst (λ (y : Option Readings). violates (own + x.drift) (saved_at (clock_place sender) s) x.triple ≡ violated_by (head_of s).drift (clock_of (head_of s) sender) y) (sym e)
    (rw (d, clock_read s sender l))

-- saved in the sender's place
pub with_saved : (s u : List ℕ) (sender : ℕ) (r : Option Readings) (x : Readings) → T (in_form s) → Bytes s → state_size ≤ length s → sender < clocks_most
    → r ≡ Some x → u ≡ put (clock_place sender) (saved_bytes (saving (saved_at (clock_place sender) s) x.triple)) s
    → u ≡ put 0 (state_bytes (record { head = with_clocks (head_of s) (watched r sender (head_of s).clocks); store = store_of s })) s
unfolding watched
with_saved s u sender r x f b h l e p =
    subst (λ (y : Option Readings). u ≡ put 0 (state_bytes (record { head = with_clocks (head_of s) (watched y sender (head_of s).clocks); store = store_of s })) s) (sym e)
    (p ∙ rw (← (clock_read s sender l)) (place-saved s f b h sender (saving (get_or (head_of s).clocks sender nothing) x.triple) l))

-- nothing is saved without them
pub without-saved : (s : List ℕ) (sender : ℕ) (r : Option Readings) → T (in_form s) → Bytes s → state_size ≤ length s → r ≡ None
    → s ≡ put 0 (state_bytes (record { head = with_clocks (head_of s) (watched r sender (head_of s).clocks); store = store_of s })) s
unfolding state_of
without-saved s sender r f b h e = rw (watched-none r sender (head_of s).clocks e) (sym (put-state-same s f b h))
