-- The sender's clock (document 02, W-201): test (20) of document 002 in whole numbers, and the three triples that are saved of a sender.
-- A triple is (a, b, w): the sender's clock reading (`there`), the own one beside it (`here`), and a half width (`half`). Assumes nothing: these are
-- definitions.
use Rattle.std.specs.Prelude.{ℕ, ◌+◌, ◌*◌, ◌^◌, ◌<◌, ◌≡◌, Bool, true, false, ◌&&◌, ◌||◌}
use Rattle.std.specs.Prelude.{not, cond, List, [], ◌∷◌, ◌++◌, T, leb, ltb, get_or, set, Option, None, Some}
use Rattle.std.specs.Int.{abs_diff}
use Rattle.predicates.specs.Lists.{In}
use Rattle.clocks.specs.declared.Triple.{Triple}
use Rattle.clocks.specs.declared.Readings.{Readings}

-- ---- what can be taken

-- "each is below 2^43"
abbrev pub triple_limit : ℕ
triple_limit = 2 ^ 43

-- "drift above 1,000" is refused, the own one (2) and a sender's (40)
abbrev pub drift_most : ℕ
drift_most = 1_000

abbrev pub Fits : Triple → Type 0
Fits t = (t.there < triple_limit) × (t.here < triple_limit) × (t.half < triple_limit)

-- "40 a, b or w at 2^43 or more, or a drift above 1,000"
abbrev pub fails : Triple → ℕ → Bool
fails t drift = leb triple_limit t.there || (leb triple_limit t.here || (leb triple_limit t.half || ltb drift_most drift))

-- what the host gives with a receipt, where it gives readings: a triple and the sender's drift
abbrev pub with_drift : Triple → ℕ → Option Readings
with_drift t drift = Some (record { triple = t; drift = drift })

-- the same of what the host gives with a receipt: no readings can't fail
unfoldable pub readings_fail : Option Readings → Bool
readings_fail None = false
readings_fail (Some r) = fails r.triple r.drift

-- the test for `Fits`
abbrev pub small : Triple → Bool
small t = ltb t.there triple_limit && (ltb t.here triple_limit && ltb t.half triple_limit)

-- ---- test (20)

-- | (b₂ − b₁) − (a₂ − a₁) | > (drifts) · | a₂ − a₁ | + w₁ + w₂, "times 1,000,000 to stay whole"; drifts are counted in millionths, and b₂ − b₁ is a
-- distance: "a b below a saved one counting by its distance"
unfoldable pub strays : ℕ → Triple → Triple → Bool
strays drifts old new =
    ltb (drifts * abs_diff old.there new.there + 1_000_000 * (old.half + new.half))
    (1_000_000 * abs_diff (abs_diff old.here new.here + old.there) new.there)

-- ---- what is saved

-- a − b + w of the new triple is larger
abbrev pub ahead : Triple → Triple → Bool
ahead old new = ltb (old.there + old.half + new.here) (new.there + new.half + old.here)

-- b − a + w of the new triple is larger
abbrev pub behind : Triple → Triple → Bool
behind old new = ltb (old.here + old.half + new.there) (new.here + new.half + old.there)

-- "the largest a − b + w .., the earlier on a tie"
unfoldable pub ahead_of : Triple → Triple → Triple
ahead_of old new = cond (ahead old new) new old

-- "and b − a + w, the earlier on a tie"
unfoldable pub behind_of : Triple → Triple → Triple
behind_of old new = cond (behind old new) new old

-- what is saved of a sender: nothing yet, or the previous triple and those of the largest a − b + w and b − a + w
pub data Saved : Type 0 where
  nothing : Saved
  three : Triple → Triple → Triple → Saved

-- a new triple is saved
unfoldable pub saving : Saved → Triple → Saved
saving nothing new = three new new new
saving (three previous a b) new = three new (ahead_of a new) (behind_of b new)

-- a new triple violates test (20) against one that is saved
unfoldable pub violates : ℕ → Saved → Triple → Bool
violates drifts nothing new = false
violates drifts (three previous a b) new = strays drifts previous new || (strays drifts a new || strays drifts b new)

-- each number of what is saved is "below 2^43, and no order among them is tested"
unfoldable pub saved_ok : Saved → Bool
saved_ok nothing = true
saved_ok (three previous a b) = small previous && (small a && small b)

-- ---- a receipt, with readings or without

-- the sender's readings violate the test, where `own` is the own drift
unfoldable pub violated_by : ℕ → Saved → Option Readings → Bool
violated_by own s None = false
violated_by own s (Some r) = violates (own + r.drift) s r.triple

-- what is saved of each name after a receipt from the sender
unfoldable pub watched : Option Readings → ℕ → List Saved → List Saved
watched None sender cs = cs
watched (Some r) sender cs = set cs sender (saving (get_or cs sender nothing) r.triple)

-- ---- the same of all triples that a sender has given, oldest first

-- what is saved after them
unfoldable pub saved_of : Saved → List Triple → Saved
saved_of s [] = s
saved_of s (t ∷ ts) = saved_of (saving s t) ts

-- t is the largest, "the earlier on a tie": larger than each before it, and none behind it is larger
pub record FirstLargest (larger : Triple → Triple → Bool) (ts : List Triple) (t : Triple) : Type 0 where
  pub front : List Triple
  pub rest : List Triple
  pub parts : ts ≡ front ++ (t ∷ rest)
  pub more : (u : Triple) → In u front → T (larger u t)
  pub most : (u : Triple) → In u rest → T (not (larger t u))

-- "three saved triples a sender: the previous one and those with the largest a − b + w and b − a + w, the earlier on a tie"
unfoldable pub SavedThree : List Triple → Saved → Type 0
SavedThree ts nothing = ⊥
SavedThree ts (three previous a b) = ((old : List Triple) × (ts ≡ old ++ (previous ∷ []))) × FirstLargest ahead ts a × FirstLargest behind ts b
