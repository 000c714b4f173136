-- Keys in the place of ends: what is answered over a state with keys for ends is the key of what is answered over the state.
-- The idea: each answer is made of ends by comparing them, and a function that rises on the ends of a state keeps what a comparison tells.
-- No contract cites this file. Assumes nothing.
use Prim.Native.Nat.{ℕ, ◌+◌, ◌^◌, ◌≤◌, ◌<◌, min, max}
use mathlib.Core.Path.{◌≡◌, refl, sym, ap, ap₂, ◌∙◌}
use mathlib.Core.Logic.{inl, inr}
use mathlib.Core.Bool.{Bool, true, false, not, cond}
use mathlib.Core.List.{List, [], ◌∷◌, ◌++◌, map}
use native.Mathlib.Decide.{dec_lt, dec_le}
use native.Mathlib.Omega.{arith}
use borrow.Author.Tests.{le-leb, lt-leb}
use lib.Dec.{T, leb}
use Rattle.std.specs.List.{list_all, filter}
use Rattle.predicates.specs.Lists.{In}
use Rattle.predicates.specs.Predicates.{holds}
use Rattle.predicates.proofs.ListLaws.{keep_out}
use Rattle.state.specs.Model.{Datum, Store, last_whole}
use Rattle.state.specs.Layout.{store_of, state_of}
use Rattle.state.specs.Form.{in_form}
use Rattle.claims.specs.declared.keys.Scale.{Scale}
use Rattle.claims.specs.code.Keys.{scale_of, start_of, step_of, down_by, up_by, key_of, map_ends, mapped, keyed, keyed_state}
use Rattle.claims.proofs.KeyLaws.{Keyed, scale_last, key_less, key_down, key_up, held-keyed}
use Rattle.asking.specs.declared.Answer.{Answer}
use Rattle.asking.specs.declared.Answer.TheVariants.{Contradicted, Open, Between}
use Rattle.asking.specs.Asking.{interval, cut, common, active, leaves, sets_within, either, left_by, exact, rounded, answer}
use Rattle.asking.specs.Fewest.{not_contradicted, works, fewest, Works, FewestOf}
use Rattle.asking.specs.code.Claims.{terms_of, everything}
use Rattle.asking.specs.Fewest.{Fewest, Over, Few}
use Rattle.asking.proofs.FewestLaws.{fewest_is, fewest_only, works_in, works_out}

-- the answer with f of its ends
abbrev pub mapped_answer : (ℕ → ℕ) → Answer → Answer
mapped_answer f Contradicted = Contradicted
mapped_answer f Open = Open
mapped_answer f (Between l r) = Between (f l) (f r)

-- a test of the predicates passes over the ends
keep-mapped : (f : ℕ → ℕ) (g : List ℕ → Bool) (ds : List Datum)
    → filter (λ (d : Datum). g d.terms) (map (map_ends f) ds) ≡ map (map_ends f) (filter (λ (d : Datum). g d.terms) ds)
keep-mapped f g [] = refl
keep-mapped f g (d ∷ ds) = go (g d.terms) _ _ (keep-mapped f g ds)
  where
    go : (b : Bool) (xs ys : List Datum) → xs ≡ map (map_ends f) ys → cond b (map_ends f d ∷ xs) xs ≡ map (map_ends f) (cond b (d ∷ ys) ys)
    go true xs ys e = ap (λ (es : List Datum). map_ends f d ∷ es) e
    go false xs ys e = e

-- ---- a function that rises on the ends P

module _ (f : ℕ → ℕ) (P : ℕ → Type 0) (rises : (x y : ℕ) → P x → x < y → f x < f y) where
  stays : (x y : ℕ) → P x → x ≤ y → f x ≤ f y
  stays x y p h = go (dec_lt x y)
    where
      go : Dec (x < y) → f x ≤ f y
      go (yes a) = omega (arith, rises x y p a)
      go (no a) = let e : x ≡ y = omega arith in rw e (omega arith)

  map-max : (x y : ℕ) → P x → P y → (max (f x) (f y) ≡ f (max x y)) × P (max x y)
  map-max x y p q = go (dec_le x y)
    where
      go : Dec (x ≤ y) → (max (f x) (f y) ≡ f (max x y)) × P (max x y)
      go (yes a) = let e : max x y ≡ y = omega arith in rw e (omega (arith, stays x y p a), q)
      go (no a) = let e : max x y ≡ x = omega arith in rw e (omega (arith, stays y x q (omega arith)), p)

  map-min : (x y : ℕ) → P x → P y → (min (f x) (f y) ≡ f (min x y)) × P (min x y)
  map-min x y p q = go (dec_le x y)
    where
      go : Dec (x ≤ y) → (min (f x) (f y) ≡ f (min x y)) × P (min x y)
      go (yes a) = let e : min x y ≡ x = omega arith in rw e (omega (arith, stays x y p a), p)
      go (no a) = let e : min x y ≡ y = omega arith in rw e (omega (arith, stays y x q (omega arith)), q)

  map_leb : (x y : ℕ) → P x → P y → leb (f x) (f y) ≡ leb x y
  map_leb x y p q = go (dec_le x y)
    where
      go : Dec (x ≤ y) → leb (f x) (f y) ≡ leb x y
      go (yes a) = le-leb (f x) (f y) (stays x y p a) ∙ sym (le-leb x y a)
      go (no a) = lt-leb (f x) (f y) (rises y x q (omega arith)) ∙ sym (lt-leb x y (omega arith))

  -- the ends of an answer are among P
  abbrev Among : Answer → Type 0
  Among Contradicted = Unit {0}
  Among Open = Unit {0}
  Among (Between l r) = P l × P r

  -- an answer over a state with f of its ends, and over the state
  abbrev Follows : Answer → Answer → Type 0
  Follows b a = (b ≡ mapped_answer f a) × Among a

  map-interval : (l r : ℕ) → P l → P r → Follows (interval (f l) (f r)) (interval l r)
  map-interval l r p q = rw (map_leb l r p q) (go (leb l r))
    where
      go : (b : Bool) → Follows (cond b (Between (f l) (f r)) Contradicted) (cond b (Between l r) Contradicted)
      go true = (refl, (p, q))
      go false = (refl, tt)

  map-cut : (d : Datum) → P d.left → P d.right → (b a : Answer) → Follows b a → Follows (cut (map_ends f d) b) (cut d a)
  unfolding cut
  map-cut d p q b Contradicted w = rw w.0 (refl, tt)
  map-cut d p q b Open w = rw w.0 (map-interval d.left d.right p q)
  map-cut d p q b (Between l r) w =
      let low = map-max l d.left w.1.0 p in
      let high = map-min r d.right w.1.1 q in
      rw w.0 (rw (low.0, high.0) (map-interval (max l d.left) (min r d.right) low.1 high.1))

  abbrev EndsAmong : List Datum → Type 0
  EndsAmong ds = (d : Datum) → In d ds → P d.left × P d.right

  map-common : (ds : List Datum) → EndsAmong ds → Follows (common (map (map_ends f) ds)) (common ds)
  unfolding common
  map-common [] h = (refl, tt)
  map-common (d ∷ ds) h =
      let e = h d (inl refl) in map-cut d e.0 e.1 (common (map (map_ends f) ds)) (common ds) (map-common ds (λ c m. h c (inr m)))

  map-either : (b c a d : Answer) → Follows b a → Follows c d → Follows (either b c) (either a d)
  unfolding either
  map-either b c Contradicted d v w = rw v.0 w
  map-either b c Open d v w = rw v.0 (refl, tt)
  map-either b c (Between l r) Contradicted v w = rw (v.0, w.0) (refl, v.1)
  map-either b c (Between l r) Open v w = rw (v.0, w.0) (refl, tt)
  map-either b c (Between l r) (Between m s) v w =
      let low = map-min l m v.1.0 w.1.0 in
      let high = map-max r s v.1.1 w.1.1 in
      rw (v.0, w.0) (ap₂ Between low.0 high.0, (low.1, high.1))

  module _ (k : Store) (held : EndsAmong k.held) where
    map-leaves : (s : ℕ) → Follows (leaves s (mapped f k)) (leaves s k)
    unfolding leaves mapped active
    map-leaves s =
        rw (keep-mapped f (λ p. not (holds s p)) k.held)
        (either_way (list_all (holds s) k.entries) _ _
        (map-common (active s k.held) (λ d m. held d (keep_out (λ (e : Datum). not (holds s e.terms)) k.held d m).0)))
      where
        either_way : (b : Bool) (x y : Answer) → Follows x y → Follows (cond b x Contradicted) (cond b y Contradicted)
        either_way true x y w = w
        either_way false x y w = (refl, tt)

    map-left : (ss : List ℕ) → Follows (left_by ss (mapped f k)) (left_by ss k)
    unfolding left_by
    map-left [] = (refl, tt)
    map-left (s ∷ ss) = map-either (leaves s (mapped f k)) (left_by ss (mapped f k)) (leaves s k) (left_by ss k) (map-leaves s) (map-left ss)

    map-works : (s : ℕ) → works (mapped f k) s ≡ works k s
    unfolding works
    map-works s = rw (map-leaves s).0 (same (leaves s k))
      where
        same : (a : Answer) → not_contradicted (mapped_answer f a) ≡ not_contradicted a
        same Contradicted = refl
        same Open = refl
        same (Between l r) = refl

-- ---- a state in form, and keys

-- between the whole microseconds that two keys tell
abbrev pub unkeyed : Scale → Answer → Answer
unkeyed scale Contradicted = Contradicted
unkeyed scale Open = Open
unkeyed scale (Between l r) = Between (down_by scale l) (up_by scale r)

module _ (s : List ℕ) (t : T (in_form s)) where
  abbrev key : ℕ → ℕ
  key = key_of s

  abbrev Stored : ℕ → Type 0
  Stored = Keyed s t

  rises : (x y : ℕ) → Stored x → x < y → key x < key y
  rises x y p h = key_less s t x y p.0 p.2 h

  stored : EndsAmong key Stored rises (store_of s).held
  stored = held-keyed s t

  exact-keyed : (limit : ℕ) → Follows key Stored rises (exact limit (keyed_state s)) (exact limit (state_of s))
  unfolding exact keyed_state keyed state_of
  exact-keyed limit = map-left key Stored rises (store_of s) stored (sets_within (state_of s).head.own limit)

  module _ (limit : ℕ) where
    pub answer-keyed : (scale : Scale) → scale ≡ scale_of s → (b : Answer) → b ≡ exact limit (keyed_state s) → unkeyed scale b ≡ answer limit (state_of s)
    unfolding answer
    answer-keyed scale c b e =
        rw c (ap (unkeyed (scale_of s)) (e ∙ (exact-keyed limit).0) ∙ back (exact limit (state_of s)) (exact-keyed limit).1)
      where
        back : (a : Answer) → Among key Stored rises a → unkeyed (scale_of s) (mapped_answer key a) ≡ rounded a
        back Contradicted w = refl
        back Open w = refl
        back (Between l r) w = ap₂ Between (key_down s t l w.0.2) (key_up s t r w.1.2)

    -- the right key can be read
    pub keyed-low : (scale : Scale) → scale ≡ scale_of s → (l r : ℕ) → Between l r ≡ exact limit (keyed_state s)
        → (start_of scale ≤ last_whole) × (r + step_of scale ≤ 2 ^ 64)
    keyed-low scale c l r e = (scale_last s scale c, rw c (go (exact limit (state_of s)) (exact-keyed limit).1 (e ∙ (exact-keyed limit).0)))
      where
        go : (a : Answer) → Among key Stored rises a → Between l r ≡ mapped_answer key a → r + step_of (scale_of s) ≤ 2 ^ 64
        go Contradicted w q = let z : ◌≡◌ {A = ℕ} 0 1 = cc in absurd (omega arith)
        go Open w q = let z : ◌≡◌ {A = ℕ} 0 1 = cc in absurd (omega arith)
        go (Between x y) w q = let h : r ≡ key y = cc in rw h w.1.1

  -- ---- the sets that work

  same-works : (u : ℕ) → works (keyed_state s).store u ≡ works (state_of s).store u
  unfolding keyed_state keyed state_of
  same-works u = map-works key Stored rises (store_of s) stored u

  pub works-keyed : (u : ℕ) → Works (state_of s) u → Works (keyed_state s) u
  unfolding keyed_state state_of
  works-keyed u w = works_in (keyed_state s) u w.0 (rw (same-works u) (works_out (state_of s) u w))

  pub keyed-works : (u : ℕ) → Works (keyed_state s) u → Works (state_of s) u
  unfolding keyed_state state_of
  keyed-works u w = works_in (state_of s) u w.0 (rw (same-works u) at (works_out (keyed_state s) u w))

  pub fewest-keyed : fewest (keyed_state s) ≡ fewest (state_of s)
  fewest-keyed =
      fewest_only (Works (state_of s)) (fewest (keyed_state s)) (fewest (state_of s)) (back (fewest (keyed_state s)) (fewest_is (keyed_state s))) (fewest_is (state_of s))
    where
      back : (a : Fewest) → FewestOf (Works (keyed_state s)) a → FewestOf (Works (state_of s)) a
      back Over h = λ u w. h u (works-keyed u w)
      back (Few n m) h = (keyed-works m h.0, h.1, λ u w. h.2 u (works-keyed u w))

  -- ---- what does not change

  pub keyed-everything : everything (keyed s) ≡ everything (store_of s)
  unfolding everything keyed mapped
  keyed-everything = ap (λ (ps : List (List ℕ)). (store_of s).entries ++ ps) (terms (store_of s).held)
    where
      terms : (ds : List Datum) → terms_of (map (map_ends key) ds) ≡ terms_of ds
      terms [] = refl
      terms (d ∷ ds) = ap (λ (ps : List (List ℕ)). d.terms ∷ ps) (terms ds)
