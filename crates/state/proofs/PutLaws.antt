-- Laws of storing next to what is stored already: what stands at a place may be stored again, what lies behind stays, the order of two
-- stores apart from each other does not matter, one element more of a run of elements, and zeros of which the last stand there already.
-- No contract cites this file. Assumes nothing.
use Prim.Native.Nat.{ℕ, zero, suc, ◌+◌, ◌*◌, ◌-◌, ◌≤◌, ◌<◌}
use mathlib.Core.Path.{◌≡◌, refl, sym, ap, ◌∙◌}
use mathlib.Core.List.{List, [], ◌∷◌, ◌++◌, append_assoc, append-nil}
use native.Mathlib.Nat.{add-zero, zero-mul, suc-mul, mul-le-mul_right}
use native.Mathlib.Numerals.{add-one}
use native.Mathlib.Omega.{arith}
use lib.Dec.{T}
use lib.ListN.{length, get_or, drop, set, length-append, length-replicate, replicate-append-replicate, take-append-drop}
use lib.Seq.{get_or-drop, set-get_or, drop-set-lt, slice_empty}
use Rattle.numbers.specs.Numbers.{put, tab}
use Rattle.numbers.proofs.NumberLaws.{put_then, put-append, set-put}
use Rattle.state.specs.Model.{Datum}
use Rattle.state.specs.Layout.{state_size, data_at, data_most, datum_size, entries_at, entries_most, entry_size, datum_place, entry_place, zeros, joined, datum_bytes, entry_bytes, data_bytes, entries_bytes}
use Rattle.state.specs.Form.{is_zero}
use Rattle.state.proofs.LayoutLaws.{part, slice_part, At, at_first_lem, at_then}
use Rattle.state.proofs.FormLaws.{sizes_add, zeros_out}

-- ---- what stands at a place

-- a part stands where it was taken from
pub part_stands : (at n : ℕ) (s : List ℕ) → At at (part at n s) s
part_stands at n s = (drop n (drop at s), sym (take-append-drop n (drop at s)))

-- storing what stands there changes nothing
pub put_stands : (at : ℕ) (a s : List ℕ) → At at a s → put at a s ≡ s
unfolding put
put_stands at [] s h = refl
put_stands at (x ∷ a) s h =
    let first : x ≡ get_or s at 0 = ap (λ (l : List ℕ). get_or l 0 0) (sym h.1) ∙ get_or-drop at s 0 0 ∙ rw add-zero in
    let rest : At (suc at) a s = rw add-one at (at_then 1 at (x ∷ []) a s refl h) in
    rw (first, set-get_or s at 0) (put_stands (suc at) a s rest)

-- what lies behind what is stored stays
pub drop-put : (at b : ℕ) (vs s : List ℕ) → b + length vs ≤ at → drop at (put b vs s) ≡ drop at s
unfolding put
drop-put at b [] s h = refl
drop-put at b (v ∷ vs) s h = drop-put at (suc b) vs (set s b v) (omega arith) ∙ drop-set-lt at s b v (omega arith)

-- two stores, the first one in front
pub put_swap : (at b : ℕ) (a vs s : List ℕ) → at + length a ≤ b → put at a (put b vs s) ≡ put b vs (put at a s)
unfolding put
put_swap at b [] vs s h = refl
put_swap at b (x ∷ a) vs s h =
    rw (set-put at b x vs s (omega arith)) (put_swap (suc at) b a vs (set s at x) (omega arith))

-- ---- elements one after the other

module _ {A : Type 0} (f : A → List ℕ) where
  pub joined-last : (xs : List A) (x : A) → joined f (xs ++ (x ∷ [])) ≡ joined f xs ++ f x
  unfolding joined
  joined-last [] x = append-nil (f x)
  joined-last (y ∷ xs) x = rw (joined-last xs x, append_assoc)

  -- n elements of one size
  pub length-joined-tab : (size n : ℕ) (g : ℕ → A) → ((k : ℕ) → k < n → length (f (g k)) ≡ size) → length (joined f (tab n g)) ≡ n * size
  unfolding joined tab
  length-joined-tab size zero g h = rw zero-mul
  length-joined-tab size (suc n) g h =
      rw (joined-last, length-append, length-joined-tab size n g (λ k p. h k (omega arith)), h n (omega arith), suc-mul)

  -- a turn of a loop that stores them
  pub joined_next : (size at i : ℕ) (g : ℕ → A) (s t u : List ℕ) → ((k : ℕ) → k < i → length (f (g k)) ≡ size)
      → t ≡ put at (joined f (tab i g)) s → u ≡ put (at + i * size) (f (g i)) t → u ≡ put at (joined f (tab (i + 1) g)) s
  unfolding tab
  joined_next size at i g s t u h p q =
      rw (add-one, joined-last) (put_then (i * size) at (at + i * size) _ _ s t u (length-joined-tab size i g h) refl p q)

  -- one element exchanged where they stand
  pub joined-set : (size at i : ℕ) (xs : List A) (v : A) (s : List ℕ) → ((x : A) → length (f x) ≡ size) → i < length xs → At at (joined f xs) s
      → put (at + i * size) (f v) s ≡ put at (joined f (set xs i v)) s
  unfolding joined
  joined-set size at i [] v s sized l h = absurd (omega arith)
  joined-set size at zero (x ∷ xs) v s sized l h =
      let rest = at_then size at (f x) (joined f xs) s (sized x) h in
      let e = sized v in
      rw (zero-mul, add-zero, put-append size at (f v) (joined f xs) s e)
      (sym (put_stands (at + size) (joined f xs) (put at (f v) s) (rest.0, drop-put (at + size) at (f v) s (omega arith) ∙ rest.1)))
  joined-set size at (suc i) (x ∷ xs) v s sized l h =
      let rest = at_then size at (f x) (joined f xs) s (sized x) h in
      let e : at + suc i * size ≡ at + size + i * size = rw suc-mul (omega arith) in
      rw (e, put-append size at (f x) (joined f (set xs i v)) s (sized x), put_stands at (f x) s (at_first_lem at (f x) (joined f xs) s h))
      (joined-set size (at + size) i xs v s sized (omega arith) rest)

-- ---- zeros

-- where all is zero, zeros stand from each place on
zeros_stand : (used from to : ℕ) (s : List ℕ) → used ≤ from → from ≤ to → to ≤ length s → T (is_zero used to s) → At from (zeros (to - from)) s
zeros_stand used from to s h k l t =
    let e : to ≡ used + (to - used) = omega arith in
    let there : At used (zeros (to - used)) s = rw (zeros_out used (to - used) to s e l t) at (part_stands used (to - used) s) in
    let long : from - used + (to - from) ≡ to - used = omega arith in
    let both : zeros (from - used) ++ zeros (to - from) ≡ zeros (to - used) =
    replicate-append-replicate (from - used) (to - from) 0 ∙ ap (λ (n : ℕ). zeros n) long in
    let place : used + (from - used) ≡ from = omega arith in
    rw place at (at_then (from - used) used (zeros (from - used)) (zeros (to - from)) s (length-replicate (from - used) 0) (rw (← both) at there))

-- of no bytes all are zero
pub zero_none : (at : ℕ) (s : List ℕ) → T (is_zero at at s)
unfolding is_zero
zero_none at s = rw (slice_empty at s) tt

-- zeros from a place on, where nothing has changed
pub zero_behind : (from to : ℕ) (s u : List ℕ) → from ≤ to → drop from u ≡ drop from s → is_zero from to u ≡ is_zero from to s
unfolding is_zero
zero_behind from to s u k e =
    let p : to ≡ from + (to - from) = omega arith in
    rw (p, slice_part from (to - from) u, slice_part from (to - from) s, e)

-- bytes are stored, and zeros behind them up to `used`: all is zero up to `to` then, where it was so from `used` on
clear-rest : (at from used to : ℕ) (vs s t u : List ℕ) → at + length vs ≤ from → from ≤ to → used ≤ to → to ≤ length s → T (is_zero used to s)
    → t ≡ put at vs s → u ≡ put from (zeros (used - from)) t → u ≡ put from (zeros (to - from)) t
clear-rest at from used to vs s t u g h k l z p q =
    let n = used - from in
    let next = from + n in
    let stand = zeros_stand used next to s (omega arith) (omega arith) l z in
    let same : drop next u ≡ drop next s =
    ap (λ (x : List ℕ). drop next x) q ∙ drop-put next from (zeros n) t (omega (arith, length-replicate {A = ℕ} n 0))
    ∙ ap (λ (x : List ℕ). drop next x) p ∙ drop-put next at vs s (omega arith) in
    let long : n + (to - next) ≡ to - from = omega arith in
    let both : zeros n ++ zeros (to - next) ≡ zeros (to - from) = replicate-append-replicate n (to - next) 0 ∙ ap (λ (k : ℕ). zeros k) long in
    put_then n from next (zeros n) (zeros (to - next)) t u u (length-replicate n 0) refl q
    (sym (put_stands next (zeros (to - next)) u (stand.0, same ∙ stand.1)))
    ∙ ap (λ (x : List ℕ). put from x t) both

-- ---- the places of data and entries

-- n elements of one size, and zeros in the places left over, of which those from `used` on were zero before
places_put : (size cap at n used : ℕ) (vs s t u : List ℕ) → length vs ≡ n * size → n ≤ cap → used ≤ cap → at + cap * size ≤ length s
    → T (is_zero (at + used * size) (at + cap * size) s) → t ≡ put at vs s
    → u ≡ put (at + n * size) (zeros (at + used * size - (at + n * size))) t → u ≡ put at (vs ++ zeros ((cap - n) * size)) s
places_put size cap at n used vs s t u e h k l z p q =
    let places = sizes_add cap n size h in
    let left : at + cap * size - (at + n * size) ≡ (cap - n) * size = omega arith in
    let room = mul-le-mul_right size h in
    let rest = clear-rest at (at + n * size) (at + used * size) (at + cap * size) vs s t u (omega arith) (omega arith)
    (omega (arith, mul-le-mul_right size k)) l z p q in
    put_then (n * size) at (at + n * size) vs (zeros ((cap - n) * size)) s t u e refl p (rest ∙ ap (λ (x : ℕ). put (at + n * size) (zeros x) t) left)

pub data_put : (ds : List Datum) (n used : ℕ) (s t u : List ℕ) → n ≡ length ds → length (joined datum_bytes ds) ≡ n * datum_size → length ds ≤ data_most
    → used ≤ data_most → state_size ≤ length s → T (is_zero (datum_place used) (datum_place data_most) s) → t ≡ put data_at (joined datum_bytes ds) s
    → u ≡ put (datum_place n) (zeros (datum_place used - datum_place n)) t → u ≡ put data_at (data_bytes ds) s
unfolding data_bytes
data_put ds n used s t u c e h k l z p q =
    rw (← c) (places_put datum_size data_most data_at n used (joined datum_bytes ds) s t u e (omega arith) k (omega arith) z p q)

pub entries-put : (es : List (List ℕ)) (n used : ℕ) (s t u : List ℕ) → n ≡ length es → length (joined entry_bytes es) ≡ n * entry_size
    → length es ≤ entries_most → used ≤ entries_most → state_size ≤ length s → T (is_zero (entry_place used) (entry_place entries_most) s)
    → t ≡ put entries_at (joined entry_bytes es) s → u ≡ put (entry_place n) (zeros (entry_place used - entry_place n)) t
    → u ≡ put entries_at (entries_bytes es) s
unfolding entries_bytes
entries-put es n used s t u c e h k l z p q =
    rw (← c) (places_put entry_size entries_most entries_at n used (joined entry_bytes es) s t u e (omega arith) k (omega arith) z p q)
