-- Definitions that serve the code alone: no statement of document 01 cites this file.
-- The ends at which an answer can begin: what it takes to explain an instant, over the claims in arrays, and the first end that is explained.
-- Assumes nothing: these are definitions.
use Rattle.std.specs.Prelude.{ℕ, ◌^◌, ◌-◌, ◌≤◌, ◌<◌, ◌≡◌, ◌⊎◌, Bool, ◌&&◌, not, List, map, Option, T, eqb, leb, length, get_or, take}
use Rattle.std.specs.List.{list_any, filter}
use Rattle.std.specs.Option.{unwrap_or}
use Rattle.predicates.specs.Predicates.{holds}
use Rattle.numbers.specs.Numbers.{put}
use Rattle.search.specs.declared.rows.Span.{Span}
use Rattle.search.specs.code.Search.{Rows, rows_most, Fits, row_terms, Parted, preds}
use Rattle.names.specs.Sets.{no_set}

-- no end
abbrev pub no_end : ℕ
no_end = 2 ^ 64 - 1

-- the left ends of claims, and the right ends
abbrev pub lefts_of : List Span → List ℕ
lefts_of ends = map (λ (s : Span). s.left) ends

abbrev pub rights_of : List Span → List ℕ
rights_of ends = map (λ (s : Span). s.right) ends

-- the instant x is not between the ends of row k
unfoldable pub outside : List ℕ → List ℕ → ℕ → ℕ → Bool
outside lefts rights x k = not (leb (get_or lefts k 0) x && leb x (get_or rights k 0))

-- the end, or no end
abbrev pub or_none : Option ℕ → ℕ
or_none end = unwrap_or end no_end

-- r is the least of the ends in places `from` to `to` that is no less than the floor, or no end
pub record Next (ends : List ℕ) (from to floor r : ℕ) : Type 0 where
  pub one : (r ≡ no_end) ⊎ ((k : ℕ) × (from ≤ k) × (k < to) × (r ≡ get_or ends k 0) × (floor ≤ r))
  pub least : (k : ℕ) → from ≤ k → k < to → floor ≤ get_or ends k 0 → r ≤ get_or ends k 0

-- r is the greatest of the ends in places `from` to `to` that lies from the floor to the roof, or the floor
pub record Last (ends : List ℕ) (from to floor roof r : ℕ) : Type 0 where
  pub one : (r ≡ floor) ⊎ ((k : ℕ) × (from ≤ k) × (k < to) × (r ≡ get_or ends k 0) × (r ≤ roof))
  pub over : floor ≤ r
  pub most : (k : ℕ) → from ≤ k → k < to → get_or ends k 0 ≤ roof → get_or ends k 0 ≤ r

-- the arrays have `rows` rows, of which the first n have empty intervals, and all rows are in the order of the search
pub record Ready (n rows : ℕ) (lefts rights : List ℕ) (t : Rows) (order : List ℕ) : Type 0 where
  pub entries_le : n ≤ rows
  pub most : rows ≤ rows_most
  pub lefts-long : rows ≤ length lefts
  pub rights-long : rows ≤ length rights
  pub below : (k : ℕ) → k < rows → get_or lefts k 0 < no_end
  pub empty : (k : ℕ) → k < n → get_or rights k 0 < get_or lefts k 0
  pub ordered : rows ≤ length order
  pub placed : (j : ℕ) → j < rows → get_or order j 0 < rows
  pub present : (k : ℕ) → k < rows → T (list_any (λ x. eqb k x) (take rows order))
  pub parted : (k : ℕ) → k < rows → Parted t k

-- the first i of the order looked at, those that pass stand at the front of the m that are listed
pub record Listing (f : ℕ → Bool) (order : List ℕ) (i : ℕ) (l₀ l : List ℕ) (m : ℕ) : Type 0 where
  pub counted : m ≡ length (filter f (take i order))
  pub few : m ≤ i
  pub same : length l ≡ length l₀
  pub stored : l ≡ put 0 (filter f (take i order)) l₀

-- the predicates to be made true for the instant x
unfoldable pub needs : ℕ → List ℕ → List ℕ → Rows → List ℕ → ℕ → List (List ℕ)
needs rows lefts rights t order x = map (row_terms t) (filter (outside lefts rights x) (take rows order))

-- x is a left end of the rows from n on
abbrev pub IsEnd : ℕ → ℕ → List ℕ → ℕ → Type 0
IsEnd n rows lefts x = (k : ℕ) × (n ≤ k) × (k < rows) × (x ≡ get_or lefts k 0)

-- no right end of the rows from n on lies between x and y, so that what y needs, every instant from x to y needs
pub record Unbroken (n rows : ℕ) (rights : List ℕ) (x y : ℕ) : Type 0 where
  pub rising : x ≤ y
  pub clear : (k : ℕ) → n ≤ k → k < rows → get_or rights k 0 < y → get_or rights k 0 < x

-- the end is the first of the left ends from row n on that a set within the limit explains, with that set; or no end is explained
pub record FirstEnd (n rows : ℕ) (lefts rights : List ℕ) (t : Rows) (order : List ℕ) (limit free end set : ℕ) : Type 0 where
  pub found : set < no_set → (k : ℕ) × (n ≤ k) × (k < rows) × (end ≡ get_or lefts k 0) × Fits limit 0 free (needs rows lefts rights t order end) set
  pub others : (k : ℕ) → n ≤ k → k < rows → (no_set ≤ set) ⊎ (get_or lefts k 0 < end)
      → (u : ℕ) → Fits limit 0 free (needs rows lefts rights t order (get_or lefts k 0)) u → ⊥

-- no left end below the floor is explained
abbrev pub Unexplained : ℕ → ℕ → List ℕ → List ℕ → Rows → List ℕ → ℕ → ℕ → ℕ → Type 0
Unexplained n rows lefts rights t order limit free floor =
    (k : ℕ) → n ≤ k → k < rows → get_or lefts k 0 < floor → (u : ℕ) → Fits limit 0 free (needs rows lefts rights t order (get_or lefts k 0)) u → ⊥

-- r is the greatest left end of the rows from n on whose predicates the set leaves false, or 0
pub record Latest (n rows : ℕ) (lefts : List ℕ) (t : Rows) (set r : ℕ) : Type 0 where
  pub one : (r ≡ 0) ⊎ ((k : ℕ) × (n ≤ k) × (k < rows) × (r ≡ get_or lefts k 0) × T (not (holds set (row_terms t k))))
  pub most : (k : ℕ) → n ≤ k → k < rows → (get_or lefts k 0 ≤ r) ⊎ T (holds set (row_terms t k))

-- the stretch from `from` to `end` is the first whose end a set within the limit explains, with that set; or no left end is explained
pub record FirstStretch (n rows : ℕ) (lefts rights : List ℕ) (t : Rows) (order : List ℕ) (limit free from end set : ℕ) : Type 0 where
  pub stretch : set < no_set → Unbroken n rows rights from end
  pub begins : set < no_set → IsEnd n rows lefts from
  pub reached : set < no_set → IsEnd n rows lefts end × Fits limit 0 free (needs rows lefts rights t order end) set
  pub earlier : set < no_set → Unexplained n rows lefts rights t order limit free from
  pub never : no_set ≤ set → Unexplained n rows lefts rights t order limit free no_end

-- the first `rows` of the order are the rows, all of them
pub record Complete (rows : ℕ) (order : List ℕ) : Type 0 where
  pub ordered : rows ≤ length order
  pub placed : (j : ℕ) → j < rows → get_or order j 0 < rows
  pub present : (k : ℕ) → k < rows → (j : ℕ) × (j < rows) × (k ≡ get_or order j 0)

-- r is the least of the sets within the limit that make all predicates true, or those that a left end from row n on needs; or no set
pub record LeastSet (n rows : ℕ) (lefts rights : List ℕ) (t : Rows) (order : List ℕ) (limit free r : ℕ) : Type 0 where
  pub from : (r ≡ no_set) ⊎ (Fits limit 0 free (preds rows order t) r
      ⊎ ((k : ℕ) × (n ≤ k) × (k < rows) × Fits limit 0 free (needs rows lefts rights t order (get_or lefts k 0)) r))
  pub low : r ≤ no_set
  pub all : (u : ℕ) → Fits limit 0 free (preds rows order t) u → r ≤ u
  pub each : (k : ℕ) → n ≤ k → k < rows → (u : ℕ) → Fits limit 0 free (needs rows lefts rights t order (get_or lefts k 0)) u → r ≤ u
