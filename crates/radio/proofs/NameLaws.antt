-- Laws of names, on plain values: the test in one pass, the identifiers that are wanted and those that are named, and the names that are written.
-- The idea: a bit above all bits seen is more than their sum, so one comparison tells that an identifier is above all those before it.
-- No contract cites this file. Assumes nothing.
use Prim.Native.Nat.{ℕ, zero, suc, ◌+◌, ◌*◌, ◌/◌, ◌^◌, ◌≤◌, ◌<◌}
use mathlib.Core.Path.{◌≡◌, refl, sym, ap, subst, ◌∙◌}
use mathlib.Core.Bool.{Bool, true, false, not, ◌&&◌, cond}
use mathlib.Core.List.{List, [], ◌∷◌, ◌++◌, map, append-nil, map-append}
use mathlib.Core.Logic.{◌⊎◌, inl, inr}
use native.Mathlib.Nat.{pow-le-pow_right, one-le-pow, div-eq_of_lt}
use native.Mathlib.Decide.{ℕ_discrete}
use native.Mathlib.Omega.{arith}
use lib.Bits.{or_lt}
use lib.Dec.{T, ltb, ltb→lt, lt→ltb, nltb→le, eqb, eqb→eq}
use lib.ListN.{length, get_or, drop}
use borrow.Author.Tests.{eq-eqb}
use Rattle.names.specs.Sets.{subset, set_union, has}
use Rattle.names.specs.code.Parts.{digit}
use Rattle.names.proofs.SetLaws.{test_ext, digit_lt, digit-union, digit-empty, digit-single-same, digit-single_other, digits_ext, subset_trans}
use Rattle.names.proofs.SetLaws.{subset_le, union_left, union_right, union_comm, union-none, union_assoc, union_left_comm, union-above}
use Rattle.names.proofs.SetLaws.{has_in, has_out, has_mono}
use Rattle.std.specs.List.{list_all, filter, fold}
use Rattle.predicates.specs.Lists.{In}
use Rattle.predicates.proofs.ListLaws.{both, both_l, both_r, true_T, split, all_out, all_in, keep_in, keep_out, keep_append, map_in, map_out}
use Rattle.predicates.proofs.ListLaws.{in_cases}
use Rattle.predicates.proofs.IndexLaws.{all_mono, at_in}
use Rattle.predicates.proofs.LoopLaws.{drop_next}
use Rattle.numbers.specs.Numbers.{tab}
use Rattle.numbers.proofs.NumberLaws.{length-tab, get_or-tab}
use Rattle.message.specs.Words.{payload_size, payload, masks}
use Rattle.message.proofs.MessageLaws.{Masks}
use Rattle.epochs.specs.Epochs.{identifier_of, name, name_limit, epoch_most, epochs_most}
use Rattle.radio.specs.Names.{named, wanted, rises, names_fit, names_of}
use Rattle.radio.specs.code.Walk.{follows, names_from}

-- ---- tests of a name, and its bit

abbrev small : ℕ → Bool
small w = ltb w name_limit

abbrev over : ℕ → ℕ → Bool
over w v = ltb (identifier_of w) (identifier_of v)

abbrev bit_of : ℕ → ℕ
bit_of w = 2 ^ identifier_of w

abbrev under : ℕ → ℕ → Bool
under seen v = ltb seen (bit_of v)

-- ---- bits

union-same : (s : ℕ) → set_union s s ≡ s
union-same s = digits_ext (set_union s s) s (λ n. omega (arith, digit-union s s n))

bit_le : {i j : ℕ} → i ≤ j → 2 ^ i ≤ 2 ^ j
bit_le h = pow-le-pow_right (omega arith) h

bit_next : (i j : ℕ) → i < j → 2 * 2 ^ i ≤ 2 ^ j
bit_next i j h = let p : 2 ^ suc i ≤ 2 ^ j = bit_le h in omega arith

bit_above : (n : ℕ) → 0 < 2 ^ n
bit_above n = one-le-pow n 2 (omega arith)

-- the bits seen, and one above them
seen_sum : (seen i : ℕ) → seen < 2 ^ i → set_union seen (2 ^ i) ≡ 2 ^ i + seen
seen_sum seen i h = union_comm seen (2 ^ i) ∙ union-above i seen h

-- a bit is above these where its identifier is above the last
seen_out : (seen i j : ℕ) → seen < 2 ^ i → set_union seen (2 ^ i) < 2 ^ j → i < j
seen_out seen i j h k = by (split (ltb i j))
  where
    by : T (ltb i j) ⊎ T (not (ltb i j)) → i < j
    by (inl t) = ltb→lt i j t
    by (inr t) = absurd (omega (arith, bit_le (nltb→le i j t), seen_sum seen i h))

seen_in : (seen i j : ℕ) → seen < 2 ^ i → i < j → set_union seen (2 ^ i) < 2 ^ j
seen_in seen i j h k = omega (arith, bit_next i j k, seen_sum seen i h)

-- ---- the test in one pass

-- the identifiers are above those seen
abbrev above : ℕ → List ℕ → Bool
above seen ws = list_all (under seen) ws

module _ (mask : ℕ) where
  walk_in : (seen : ℕ) (ws : List ℕ) → T (list_all small ws) → T (above seen ws) → T (rises ws) → set_union seen (named ws) ≡ mask
      → T (names_from mask seen ws)
  unfolding names_from rises named
  walk_in seen [] a b c e = true_T _ (eq-eqb seen mask (sym (union-none seen) ∙ e))
  walk_in seen (w ∷ ws) a b c e =
      let next = set_union seen (bit_of w) in
      let low = ltb→lt seen (bit_of w) (both_l (under seen w) _ b) in
      let rising = both_l (list_all (over w) ws) (rises ws) c in
      let later = all_mono (over w) (under next) ws
      (λ v t. lt→ltb next (bit_of v) (seen_in seen _ _ low (ltb→lt (identifier_of w) (identifier_of v) t))) rising in
      both (follows seen w) _ (both (small w) (under seen w) (both_l (small w) _ a) (both_l (under seen w) _ b))
      (walk_in next ws (both_r (small w) _ a) later (both_r (list_all (over w) ws) (rises ws) c) (union_assoc seen (bit_of w) (named ws) ∙ e))

  walk_out : (seen : ℕ) (ws : List ℕ) → T (names_from mask seen ws)
      → T (list_all small ws) × T (above seen ws) × T (rises ws) × (set_union seen (named ws) ≡ mask)
  unfolding names_from rises named
  walk_out seen [] t = (tt, tt, tt, union-none seen ∙ eqb→eq seen mask t)
  walk_out seen (w ∷ ws) t =
      let next = set_union seen (bit_of w) in
      let this = both_l (follows seen w) _ t in
      let here = both_r (small w) (under seen w) this in
      let low = ltb→lt seen (bit_of w) here in
      let rest = walk_out next ws (both_r (follows seen w) _ t) in
      let more = all_mono (under next) (under seen) ws
      (λ v p. lt→ltb seen (bit_of v) (omega (arith, ltb→lt next (bit_of v) p, seen_sum seen (identifier_of w) low))) rest.1 in
      let later = all_mono (under next) (over w) ws
      (λ v p. lt→ltb (identifier_of w) (identifier_of v) (seen_out seen _ _ low (ltb→lt next (bit_of v) p))) rest.1 in (
        both (small w) (list_all small ws) (both_l (small w) (under seen w) this) rest.0,
        both (under seen w) (above seen ws) here more,
        both (list_all (over w) ws) (rises ws) later rest.2,
        sym (union_assoc seen (bit_of w) (named ws)) ∙ rest.3,
      )

  pub names_from_lem : (ws : List ℕ) → names_from mask 0 ws ≡ names_fit mask ws
  unfolding names_fit
  names_from_lem ws =
      test_ext (names_from mask 0 ws) (names_fit mask ws)
      (λ h.
      let k = walk_out 0 ws h in
      let e = eq-eqb (named ws) mask (sym (union-none (named ws)) ∙ union_comm (named ws) 0 ∙ k.3) in
      both (list_all small ws) _ k.0 (both (rises ws) (eqb (named ws) mask) k.2 (true_T _ e)))
      (λ h.
      let low = both_l (list_all small ws) _ h in
      let rest = both_r (list_all small ws) _ h in
      let e = eqb→eq (named ws) mask (both_r (rises ws) _ rest) in
      walk_in 0 ws low (all_mono small (under 0) ws (λ v _. lt→ltb 0 (bit_of v) (bit_above (identifier_of v))) low)
      (both_l (rises ws) _ rest) (union_comm 0 (named ws) ∙ union-none (named ws) ∙ e))

  -- a turn of the loop over the names
  pub names_next : (ws : List ℕ) (i seen : ℕ) → i < length ws → names_from mask seen (drop i ws)
      ≡ (follows seen (get_or ws i 0) && names_from mask (set_union seen (bit_of (get_or ws i 0))) (drop (i + 1) ws))
  unfolding names_from
  names_next ws i seen h = rw (drop_next ws i h)

-- ---- the identifiers that are wanted

module _ (s : ℕ) where
  wanted-own : (ts : List ℕ) → set_union (2 ^ s) (wanted s ts) ≡ wanted s ts
  unfolding wanted
  wanted-own [] = union-same (2 ^ s)
  wanted-own (t ∷ ts) = union_left_comm (2 ^ s) t (wanted s ts) ∙ ap (λ (x : ℕ). set_union t x) (wanted-own ts)

  -- the terms are taken one by one
  wanted_from : (ts : List ℕ) (m : ℕ) → set_union m (2 ^ s) ≡ m → fold (λ m t. set_union m (payload t)) m ts ≡ set_union m (wanted s (masks ts))
  unfolding wanted masks
  wanted_from [] m p = sym p
  wanted_from (t ∷ ts) m p =
      let x = payload t in
      let more : set_union (set_union m x) (2 ^ s) ≡ set_union m x =
      union_assoc m x (2 ^ s) ∙ rw (union_comm x (2 ^ s), ← (union_assoc m (2 ^ s) x), p) in
      wanted_from ts (set_union m x) more ∙ union_assoc m x (wanted s (masks ts))

  pub wanted_fold : (ts : List ℕ) → fold (λ m t. set_union m (payload t)) (2 ^ s) ts ≡ wanted s (masks ts)
  wanted_fold ts = wanted_from ts (2 ^ s) (union-same (2 ^ s)) ∙ wanted-own (masks ts)

  -- the sender, and each identifier in a term
  pub wanted-sender : (ts : List ℕ) → T (has s (wanted s ts))
  wanted-sender ts =
      has_mono s (2 ^ s) (wanted s ts) (subst (λ (x : ℕ). T (subset (2 ^ s) x)) (wanted-own ts) (union_left (2 ^ s) (wanted s ts)))
      (has_in s (2 ^ s) (digit-single-same s))

  pub wanted_term : (ts : List ℕ) (t : ℕ) → In t ts → T (subset t (wanted s ts))
  unfolding wanted
  wanted_term [] t h = absurd h
  wanted_term (u ∷ ts) t (inl e) = subst (λ (x : ℕ). T (subset x (set_union u (wanted s ts)))) (sym e) (union_left u (wanted s ts))
  wanted_term (u ∷ ts) t (inr h) = subset_trans t (wanted s ts) (set_union u (wanted s ts)) (wanted_term ts t h) (union_right u (wanted s ts))

  pub wanted_lt : (ts : List ℕ) → s ≤ 28 → Masks ts → wanted s ts < payload_size
  unfolding wanted set_union
  wanted_lt [] h m = let p : 2 ^ s ≤ 2 ^ 28 = bit_le h in omega arith
  wanted_lt (t ∷ ts) h m = or_lt 29 t (wanted s ts) (m 0) (wanted_lt ts h (λ i. m (suc i)))

-- ---- the identifiers that are named

named_bit : (ws : List ℕ) (w : ℕ) → In w ws → T (subset (bit_of w) (named ws))
unfolding named
named_bit [] w h = absurd h
named_bit (v ∷ ws) w (inl e) = subst (λ (x : ℕ). T (subset (bit_of x) (set_union (bit_of v) (named ws)))) (sym e) (union_left (bit_of v) (named ws))
named_bit (v ∷ ws) w (inr h) = subset_trans (bit_of w) (named ws) _ (named_bit ws w h) (union_right (bit_of v) (named ws))

pub named_in : (ws : List ℕ) (w : ℕ) → In w ws → T (has (identifier_of w) (named ws))
named_in ws w h =
    let n = identifier_of w in
    has_mono n (bit_of w) (named ws) (named_bit ws w h) (has_in n (bit_of w) (digit-single-same n))

pub named_out : (ws : List ℕ) (n : ℕ) → T (has n (named ws)) → (w : ℕ) × In w ws × (identifier_of w ≡ n)
unfolding named
named_out [] n h = absurd (omega (arith, has_out n 0 h, digit-empty n))
named_out (v ∷ ws) n h = by (λ k. named_out ws n k) (ℕ_discrete (identifier_of v) n)
  where
    later : (w : ℕ) × In w ws × (identifier_of w ≡ n) → (w : ℕ) × In w (v ∷ ws) × (identifier_of w ≡ n)
    later k = (k.0, inr k.1, k.2)

    by : (T (has n (named ws)) → (w : ℕ) × In w ws × (identifier_of w ≡ n)) → Dec (identifier_of v ≡ n) → (w : ℕ) × In w (v ∷ ws) × (identifier_of w ≡ n)
    by f (yes e) = (v, inl refl, e)
    by f (no g) =
        let both = digit-union (bit_of v) (named ws) n in
        let other = digit-single_other (identifier_of v) n g in
        later (f (has_in n (named ws) (omega (arith, has_out n _ h, digit_lt (named ws) n))))

-- ---- names that fit

module _ (mask : ℕ) (names : List ℕ) (h : T (names_fit mask names)) where
  pub fit_below : T (list_all small names)
  unfolding names_fit
  fit_below = both_l (list_all small names) _ h

  pub fit_rises : T (rises names)
  unfolding names_fit
  fit_rises = both_l (rises names) _ (both_r (list_all small names) _ h)

  pub fit_named : named names ≡ mask
  unfolding names_fit
  fit_named = eqb→eq (named names) mask (both_r (rises names) _ (both_r (list_all small names) _ h))

  pub fit_identifier : mask < 2 ^ epochs_most → (w : ℕ) → In w names → identifier_of w < epochs_most
  fit_identifier k w i = by (split (ltb (identifier_of w) epochs_most))
    where
      le : bit_of w ≤ mask
      le = subst (λ (x : ℕ). bit_of w ≤ x) fit_named (subset_le (bit_of w) (named names) (named_bit names w i))

      by : T (ltb (identifier_of w) epochs_most) ⊎ T (not (ltb (identifier_of w) epochs_most)) → identifier_of w < epochs_most
      by (inl t) = ltb→lt (identifier_of w) epochs_most t
      by (inr t) = let p : 2 ^ epochs_most ≤ bit_of w = bit_le (nltb→le (identifier_of w) epochs_most t) in absurd (omega (arith, le))

-- rising names from one identifier on are at most as many as identifiers are left
rises-few : (low : ℕ) (ws : List ℕ) → low ≤ epochs_most → ((w : ℕ) → In w ws → (low ≤ identifier_of w) × (identifier_of w < epochs_most)) → T (rises ws)
    → length ws + low ≤ epochs_most
unfolding rises
rises-few low [] h f t = omega arith
rises-few low (w ∷ ws) h f t =
    let this = f w (inl refl) in
    let later = both_l (list_all (over w) ws) (rises ws) t in
    let rest =
    rises-few (suc (identifier_of w)) ws this.1
    (λ v i. (ltb→lt (identifier_of w) (identifier_of v) (all_out (over w) ws later v i), (f v (inr i)).1))
    (both_r (list_all (over w) ws) (rises ws) t) in
    omega arith

pub fit_few : (mask : ℕ) (names : List ℕ) → T (names_fit mask names) → mask < 2 ^ epochs_most → length names ≤ epochs_most
fit_few mask names h k =
    let few = rises-few 0 names (omega arith) (λ w i. (omega arith, fit_identifier mask names h k w i)) (fit_rises mask names h) in
    omega arith

-- ---- the names that are written

in_below : (n x : ℕ) → In x (tab n (λ i. i)) → x < n
unfolding tab
in_below zero x h = absurd h
in_below (suc n) x h = by (λ k. in_below n x k) (in_cases x (tab n (λ i. i)) (n ∷ []) h)
  where
    by : (In x (tab n (λ i. i)) → x < n) → In x (tab n (λ i. i)) ⊎ In x (n ∷ []) → x < suc n
    by f (inl k) = omega (arith, f k)
    by f (inr (inl e)) = omega arith
    by f (inr (inr e)) = elim e [ ]

below_in : (n x : ℕ) → x < n → In x (tab n (λ i. i))
below_in n x h =
    subst (λ (y : ℕ). In y (tab n (λ i. i))) (get_or-tab n x (λ i. i) 0 h) (at_in (tab n (λ i. i)) 0 x (omega (arith, length-tab n (λ i. i))))

rises_snoc : (ws : List ℕ) (x : ℕ) → T (rises ws) → ((w : ℕ) → In w ws → identifier_of w < identifier_of x) → T (rises (ws ++ (x ∷ [])))
unfolding rises
rises_snoc [] x t f = tt
rises_snoc (w ∷ ws) x t f =
    let later = all_out (over w) ws (both_l (list_all (over w) ws) (rises ws) t) in
    both (list_all (over w) (ws ++ (x ∷ []))) (rises (ws ++ (x ∷ [])))
    (all_in (over w) (ws ++ (x ∷ [])) (λ v i. by later v (in_cases v ws (x ∷ []) i)))
    (rises_snoc ws x (both_r (list_all (over w) ws) (rises ws) t) (λ v i. f v (inr i)))
  where
    by : ((v : ℕ) → In v ws → T (over w v)) → (v : ℕ) → In v ws ⊎ In v (x ∷ []) → T (over w v)
    by g v (inl i) = g v i
    by g v (inr (inl e)) = rw e (lt→ltb (identifier_of w) (identifier_of x) (f w (inl refl)))
    by g v (inr (inr e)) = elim e [ ]

module _ (ks : List ℕ) (mask : ℕ) (low : (n : ℕ) → get_or ks n 0 ≤ epoch_most) where
  -- the name of an identifier, and the identifier of a name
  abbrev name_of : ℕ → ℕ
  name_of n = name n (get_or ks n 0)

  name_identifier : (n : ℕ) → n < epochs_most → identifier_of (name_of n) ≡ n
  name_identifier n h = omega arith

  -- the identifiers below n, and their names
  abbrev wanted_below : ℕ → List ℕ
  wanted_below n = filter (λ i. has i mask) (tab n (λ i. i))

  abbrev upto : ℕ → List ℕ
  upto n = map name_of (wanted_below n)

  upto_out : (n w : ℕ) → In w (upto n) → (x : ℕ) × (x < n) × T (has x mask) × (w ≡ name_of x)
  upto_out n w h =
      let a = map_out name_of (wanted_below n) w h in
      let b = keep_out (λ i. has i mask) (tab n (λ i. i)) a.0 a.1 in
      (a.0, in_below n a.0 b.0, b.1, a.2)

  upto_rises : (n : ℕ) → n ≤ epochs_most → T (rises (upto n))
  unfolding tab rises
  upto_rises zero h = tt
  upto_rises (suc n) h =
      rw (keep_append (λ i. has i mask) (tab n (λ i. i)) (n ∷ []), map-append name_of (wanted_below n) (filter (λ i. has i mask) (n ∷ [])))
      (by (has n mask) (upto_rises n (omega arith)))
    where
      lower : (w : ℕ) → In w (upto n) → identifier_of w < identifier_of (name_of n)
      lower w i =
          let k = upto_out n w i in
          let same = ap (λ (x : ℕ). identifier_of x) k.3 ∙ name_identifier k.0 (omega (arith, k.1)) in
          omega (arith, k.1, same, name_identifier n (omega arith))

      by : (b : Bool) → T (rises (upto n)) → T (rises (upto n ++ map name_of (cond b (n ∷ []) [])))
      by true t = rises_snoc (upto n) (name_of n) t lower
      by false t = rw (append-nil (upto n)) t

  upto_below : T (list_all small (upto epochs_most))
  upto_below =
      all_in small (upto epochs_most) (λ w i.
      let k = upto_out epochs_most w i in
      lt→ltb w name_limit (omega (arith, k.1, k.3, low k.0)))

  abbrev all_named : ℕ
  all_named = named (upto epochs_most)

  upto_named : mask < 2 ^ epochs_most → all_named ≡ mask
  upto_named fits = digits_ext all_named mask (λ n. by n (ℕ_discrete (digit mask n) 1) (ℕ_discrete (digit all_named n) 1))
    where
      -- an identifier in the mask is one of the 29
      within : (n : ℕ) → digit mask n ≡ 1 → T (ltb n epochs_most) ⊎ T (not (ltb n epochs_most)) → n < epochs_most
      within n e (inl t) = ltb→lt n epochs_most t
      within n e (inr t) =
          let p : 2 ^ epochs_most ≤ 2 ^ n = bit_le (nltb→le n epochs_most t) in
          let z : mask / 2 ^ n ≡ 0 = div-eq_of_lt (omega arith) in
          absurd (omega arith)

      there : (n : ℕ) → digit mask n ≡ 1 → digit all_named n ≡ 1
      there n e =
          let h = within n e (split (ltb n epochs_most)) in
          let kept = keep_in (λ i. has i mask) (tab epochs_most (λ i. i)) n (below_in epochs_most n h) (has_in n mask e) in
          let i = map_in name_of (wanted_below epochs_most) n kept in
          has_out n all_named (subst (λ (x : ℕ). T (has x all_named)) (name_identifier n h) (named_in (upto epochs_most) (name_of n) i))

      back : (n : ℕ) → digit all_named n ≡ 1 → digit mask n ≡ 1
      back n e =
          let w = named_out (upto epochs_most) n (has_in n all_named e) in
          let k = upto_out epochs_most w.0 w.1 in
          let same : k.0 ≡ n = sym (name_identifier k.0 k.1) ∙ sym (ap (λ (x : ℕ). identifier_of x) k.3) ∙ w.2 in
          subst (λ (x : ℕ). digit mask x ≡ 1) same (has_out k.0 mask k.2)

      by : (n : ℕ) → Dec (digit mask n ≡ 1) → Dec (digit all_named n ≡ 1) → digit all_named n ≡ digit mask n
      by n (yes e) d = there n e ∙ sym e
      by n (no f) (yes e) = absurd (f (back n e))
      by n (no f) (no g) = omega (arith, digit_lt mask n, digit_lt all_named n)

  -- the names that are written of a mask fit it
  pub names_of_lem : mask < 2 ^ epochs_most → T (names_fit mask (names_of ks mask))
  unfolding names_fit names_of
  names_of_lem fits =
      both (list_all small (upto epochs_most)) _ upto_below
      (both (rises (upto epochs_most)) (eqb (named (upto epochs_most)) mask) (upto_rises epochs_most (omega arith))
      (true_T _ (eq-eqb (named (upto epochs_most)) mask (upto_named fits))))
