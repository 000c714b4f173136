-- Definitions that serve the code alone: no statement of document 01 cites this file.
-- The search for a set of failed names that makes predicates true (document 01, "Fewest failures", last sentences): "from an unexplained predicate to
-- its terms, from a term to the next unexplained predicate". What a search has to bring is said by sets (`Best`), not by its order.
-- Assumes nothing: these are definitions.
use Rattle.std.specs.Prelude.{ℕ, ◌-◌, ◌≤◌, ◌<◌, ◌≡◌, ◌⊎◌, Bool, not, cond, List, [], ◌∷◌, T, eqb, leb, length, get_or, take, drop}
use Rattle.std.specs.Int.Count.{ones}
use Rattle.numbers.specs.Numbers.{tab}
use Rattle.names.specs.Sets.{subset, set_union}
use Rattle.names.specs.code.Parts.{shared}
use Rattle.std.specs.List.{list_all, filter}
use Rattle.predicates.specs.Predicates.{holds}
use Rattle.predicates.specs.code.Marks.{singles}
use Rattle.search.specs.declared.rows.Row.{Row}

-- ---- what is looked for

-- u is s with names that are free, within the limit, and makes the predicates true
pub record Fits (limit s free : ℕ) (ps : List (List ℕ)) (u : ℕ) : Type 0 where
  pub above : T (subset s u)
  pub within : T (subset u (set_union s free))
  pub few : ones u ≤ limit
  pub holding : T (list_all (holds u) ps)

-- r comes of a search that had `best` before it: it is the least mask of those that fit and of `best`, or one of them below `enough`, at which the
-- search may stop
pub record Best (enough limit s free : ℕ) (ps : List (List ℕ)) (best r : ℕ) : Type 0 where
  pub from : (r ≡ best) ⊎ Fits limit s free ps r
  pub low : r ≤ best
  pub least : (u : ℕ) → Fits limit s free ps u → (r ≤ u) ⊎ (r < enough)

-- ---- on the way

-- a search that had `best` before it goes through the terms of a predicate, with the predicates `ps` behind it: what comes of the terms that are
-- left, with the names that are free now and the best that is found, comes of the whole
abbrev pub Trying : ℕ → ℕ → ℕ → ℕ → List (List ℕ) → ℕ → List ℕ → List (List ℕ) → ℕ → ℕ → Type 0
Trying enough limit s free whole best left ps free' found =
    (r : ℕ) → Best enough limit s free' (left ∷ ps) found r → Best enough limit s free whole best r

-- from the next predicate on that the set leaves false
unfoldable pub skipped : ℕ → List (List ℕ) → List (List ℕ)
skipped s [] = []
skipped s (p ∷ ps) = cond (holds s p) (skipped s ps) (p ∷ ps)

-- d with the names that alone, beside s, make the predicate true within the limit
unfoldable pub gather : ℕ → ℕ → ℕ → List ℕ → ℕ
gather d limit s [] = d
gather d limit s (t ∷ p) = cond (leb (ones (set_union s t)) limit) (set_union (set_union s t) (gather d limit s p)) (gather d limit s p)

-- s with them
abbrev pub alone : ℕ → ℕ → List ℕ → ℕ
alone limit s p = gather s limit s p

-- of the names in m those that alone do for every predicate that s leaves false
unfoldable pub narrowed : ℕ → ℕ → ℕ → List (List ℕ) → ℕ
narrowed limit s m [] = m
narrowed limit s m (p ∷ ps) = narrowed limit s (cond (holds s p) m (shared m (alone limit s p))) ps

-- ---- terms of one name, which most terms are: `singles` has them as one mask

-- the term is one name
abbrev pub is_single : ℕ → Bool
is_single t = eqb (ones t) 1

-- the other terms
unfoldable pub several : List ℕ → List ℕ
several p = filter (λ t. not (is_single t)) p

-- ---- predicates in rows

-- how many rows there are at most, and how many terms a row has at most
abbrev pub rows_most : ℕ
rows_most = 48

abbrev pub row_width : ℕ
row_width = 16

-- a row has the count of its terms, and these at the front of `terms`; those of several names are the last of them, with their count in `several`,
-- and the others stand once more as one mask in `singles`
abbrev pub Rows : Type 0
Rows = List Row

-- what stands behind the last row
abbrev pub no_row : Row
no_row = record { count = 0; several = 0; singles = 0; terms = [] }

-- the predicate of a row
abbrev pub terms_of : Row → List ℕ
terms_of r = take r.count r.terms

-- the last of its terms, as many as have several names
abbrev pub rests_of : Row → List ℕ
rests_of r = drop (r.count - r.several) (terms_of r)

-- the row has its parts: the mask of the terms of one name, and the other terms as the last
pub record PartedRow (r : Row) : Type 0 where
  pub few : r.count ≤ row_width
  pub fewer : r.several ≤ r.count
  pub long : r.count ≤ length r.terms
  pub one : r.singles ≡ singles (terms_of r)
  pub more : rests_of r ≡ several (terms_of r)

-- row k, its predicate, and the last of its terms
abbrev pub row_of : Rows → ℕ → Row
row_of t k = get_or t k no_row

abbrev pub row_terms : Rows → ℕ → List ℕ
row_terms t k = terms_of (row_of t k)

abbrev pub rest_terms : Rows → ℕ → List ℕ
rest_terms t k = rests_of (row_of t k)

-- the predicate of the row in place j of a list of rows, which is in the order of the search
unfoldable pub pred_at : List ℕ → Rows → ℕ → List ℕ
pred_at listed t j = row_terms t (get_or listed j 0)

unfoldable pub preds : ℕ → List ℕ → Rows → List (List ℕ)
preds n listed t = tab n (pred_at listed t)

-- the predicates of all that are listed
abbrev pub all_preds : List ℕ → Rows → List (List ℕ)
all_preds listed t = preds (length listed) listed t

-- row k is in the table with its parts
pub record Parted (t : Rows) (k : ℕ) : Type 0 where
  pub there : k < length t
  pub row : PartedRow (row_of t k)

-- the first n rows that are listed are in the table
pub record RowsFit (n : ℕ) (listed : List ℕ) (t : Rows) : Type 0 where
  pub listed-long : n ≤ length listed
  pub parted : (j : ℕ) → j < n → Parted t (get_or listed j 0)
