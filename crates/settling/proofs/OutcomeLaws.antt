-- How many data and entries a receipt leaves in the rows, and whether they are too many.
-- No contract cites this file. Assumes nothing.
use Prim.Native.Nat.{ℕ, zero, suc, ◌+◌, ◌*◌, ◌≤◌, ◌<◌}
use mathlib.Core.Path.{◌≡◌, refl, sym, ap, ap₂, ◌∙◌}
use mathlib.Core.Bool.{Bool, true, false, not, ◌||◌, cond}
use mathlib.Core.List.{List, [], ◌∷◌}
use native.Mathlib.Omega.{arith}
use native.Mathlib.Decide.{ℕ_discrete}
use borrow.Author.Tests.{eq-eqb, ne_eqb, ltb-false}
use lib.Dec.{eqb, ltb}
use lib.Seq.{take-suc}
use lib.ListN.{length, get_or, take, length-append}
use Rattle.numbers.specs.Numbers.{tab}
use Rattle.std.specs.List.{filter}
use Rattle.predicates.proofs.ListLaws.{keep_append}
use Rattle.state.specs.Layout.{data_most, entries_most, entry_terms}
use Rattle.state.specs.code.Tables.{Table, table, TableFits, row_of, has_terms, terms_of, datum_in, data_in, entries_in, store_in}
use Rattle.state.specs.declared.holding.Held.{Held}
use Rattle.state.proofs.RowLaws.{row-empty, row_full, table-room}
use Rattle.steps.specs.Steps.{too_many}
use Rattle.settling.specs.code.Rows.{live}

-- ---- how many rows have terms

-- the rows of data that have terms are as many as the data
pub rows-live : (c : List Held) → length (filter (λ r. has_terms (terms_of r)) c) ≡ length (data_in c)
unfolding data_in
rows-live [] = refl
rows-live (x ∷ c) = go (has_terms (terms_of x)) (rows-live c)
  where
    go : (b : Bool) → length (filter (λ r. has_terms (terms_of r)) c) ≡ length (data_in c)
        → length (cond b (x ∷ filter (λ r. has_terms (terms_of r)) c) (filter (λ r. has_terms (terms_of r)) c)) ≡ length (cond b (datum_in x ∷ data_in c) (data_in c))
    go true e = ap suc e
    go false e = e

-- as many as are kept
pub length-live : {A : Type 0} (g : A → Bool) (n : ℕ) (r : ℕ → A) (counts : List ℕ) → n ≤ length counts
    → ((i : ℕ) → i < n → g (r i) ≡ not (eqb (get_or counts i 0) 0)) → length (filter g (tab n r)) ≡ live (take n counts)
unfolding tab live
length-live g zero r counts l h = refl
length-live g (suc n) r counts l h =
    ap length (keep_append g (tab n r) (r n ∷ [])) ∙ length-append (filter g (tab n r)) (filter g (r n ∷ []))
    ∙ ap₂ ◌+◌ (length-live g n r counts (omega arith) (λ i p. h i (omega arith))) (last (g (r n)) (not (eqb (get_or counts n 0) 0)) (h n (omega arith)))
    ∙ sym (ap (λ l. length (filter (λ c. not (eqb c 0)) l)) (take-suc counts n 0 (omega arith)) ∙ ap length (keep_append (λ c. not (eqb c 0)) (take n counts) (get_or counts n 0 ∷ []))
    ∙ length-append (filter (λ c. not (eqb c 0)) (take n counts)) (filter (λ c. not (eqb c 0)) (get_or counts n 0 ∷ [])))
  where
    last : (a b : Bool) → a ≡ b → length (cond a (r n ∷ []) []) ≡ length (cond b (get_or counts n 0 ∷ []) [])
    last a true e = rw e
    last a false e = rw e

-- ---- the counts that are tested

-- a row has terms where its count is not zero
live-row : (w i : ℕ) (counts masks : List ℕ) → i * w + get_or counts i 0 ≤ length masks → has_terms (row_of w (table counts masks) i) ≡ not (eqb (get_or counts i 0) 0)
live-row w i counts masks h = go (ℕ_discrete (get_or counts i 0) 0)
  where
    go : Dec (get_or counts i 0 ≡ 0) → has_terms (row_of w (table counts masks) i) ≡ not (eqb (get_or counts i 0) 0)
    go (yes e) = row-empty w i counts masks e ∙ sym (rw (eq-eqb _ _ e))
    go (no f) = row_full w i counts masks f h ∙ sym (rw (ne_eqb _ _ f))

module _ (c : List Held) (n : ℕ) (t : Table) (known : TableFits entry_terms n t) where
  pub entries-live : length (entries_in n t) ≡ live (take n t.counts)
  unfolding entries_in
  entries-live =
      length-live has_terms n (row_of entry_terms t) t.counts known.counted
      (λ i k. live-row entry_terms i t.counts t.masks (table-room entry_terms n t.counts t.masks known i k))

  -- the test for 32, on the counts
  pub many_live : too_many (store_in c n t) ≡ (ltb data_most (length (data_in c)) || ltb entries_most (live (take n t.counts)))
  unfolding too_many store_in
  many_live = rw entries-live

-- counts that are not too many
pub few-counts : (a b : ℕ) → (ltb data_most a || ltb entries_most b) ≡ false → (a ≤ data_most) × (b ≤ entries_most)
few-counts a b e = go (ltb data_most a) (ltb entries_most b) refl refl e
  where
    go : (x y : Bool) → ltb data_most a ≡ x → ltb entries_most b ≡ y → x || y ≡ false → (a ≤ data_most) × (b ≤ entries_most)
    go true y p q e = let z : ◌≡◌ {A = ℕ} 0 1 = cc in absurd (omega arith)
    go false true p q e = let z : ◌≡◌ {A = ℕ} 0 1 = cc in absurd (omega arith)
    go false false p q e = (ltb-false data_most a p, ltb-false entries_most b q)
