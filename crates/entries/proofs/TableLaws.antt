-- Tables of predicates in flat arrays: what the loops over them find, give up and put last, as facts on the lists that they hold.
-- The idea: a row that is given up is passed over and no other row moves, so a table holds the list of the rows that have terms, and the mark of
-- a row stays right until the row is gone. No contract cites this file. Assumes nothing.
use Prim.Native.Nat.{ℕ, zero, suc, ◌+◌, ◌*◌, ◌^◌, ◌≤◌, ◌<◌}
use mathlib.Core.Path.{◌≡◌, refl, sym, ap, ap₂, subst, ◌∙◌}
use mathlib.Core.Bool.{Bool, true, false, ◌&&◌, ◌||◌, not, cond, and-false, or-false, or-true}
use mathlib.Core.List.{List, [], ◌∷◌, ◌++◌, append_assoc}
use native.Mathlib.Nat.{mul-le-mul_right, suc-mul}
use native.Mathlib.Numerals.{add-one}
use native.Mathlib.Omega.{arith}
use native.Mathlib.Decide.{ℕ_discrete, dec_lt}
use lib.ListN.{length, get_or, take, drop, set, length-append, length-drop, length-set, get_or-append}
use lib.Seq.{sets, sets-eq, length-sets, take_at, drop_at, take-append-le, drop-append-le, length-take-le, set_at, get_or-set_same, get_or-set_other, drop-cons, ext_get_or}
use lib.Dec.{T, not_T}
use Rattle.names.specs.Sets.{subset}
use Rattle.numbers.specs.Numbers.{tab}
use Rattle.numbers.proofs.NumberLaws.{length-tab, get_or-tab, tab_cong, tab_suc}
use Rattle.std.specs.List.{list_any, filter}
use Rattle.predicates.specs.Predicates.{holds, implies, normal}
use Rattle.predicates.specs.code.Marks.{mark_of, Apart}
use Rattle.entries.specs.Entries.{explained, learn}
use Rattle.state.specs.code.Tables.{table, TableFits, row_of, has_terms, entries_in}
use Rattle.entries.specs.code.Marks.{Marked, Left, any_below, given_up}
use Rattle.predicates.proofs.ListLaws.{T_false, cond_ind, any_in, keep_append, any_append}
use Rattle.predicates.proofs.IndexLaws.{at_in}
use Rattle.predicates.proofs.PredicateLaws.{implies-normal}
use Rattle.predicates.proofs.MarkLaws.{implies_not}
use Rattle.state.proofs.RowLaws.{row-empty, table_more}
use Rattle.state.proofs.StoreLaws.{front_rest}

-- ---- a loop that looks for a row

pub any_below_next : (n : ℕ) (f : ℕ → Bool) → any_below n f ≡ false → f n ≡ false → any_below (n + 1) f ≡ false
unfolding any_below
any_below_next n f e h = rw (add-one, e, h)

pub any_below-none : (n : ℕ) (f : ℕ → Bool) → ((i : ℕ) → i < n → f i ≡ false) → any_below n f ≡ false
unfolding any_below
any_below-none zero f h = refl
any_below-none (suc n) f h = rw (any_below-none n f (λ i p. h i (omega arith)), h n (omega arith))

pub any_below-here : (n i : ℕ) (f : ℕ → Bool) → i < n → f i ≡ true → any_below n f ≡ true
unfolding any_below
any_below-here zero i f h e = absurd (omega arith)
any_below-here (suc n) i f h e = go (λ p. any_below-here n i f p e) (ℕ_discrete i n)
  where
    go : (i < n → any_below n f ≡ true) → Dec (i ≡ n) → any_below n f || f n ≡ true
    go rest (yes p) = ap (λ (b : Bool). any_below n f || b) (ap f (sym p) ∙ e) ∙ or-true (any_below n f)
    go rest (no p) = ap (λ (b : Bool). b || f n) (rest (omega arith))

-- a test of the rows in use, row by row
pub any-kept : {A : Type 0} (g f : A → Bool) (n : ℕ) (r : ℕ → A) → list_any f (filter g (tab n r)) ≡ any_below n (λ i. g (r i) && f (r i))
unfolding tab any_below
any-kept g f zero r = refl
any-kept g f (suc n) r =
    ap (λ l. list_any f l) (keep_append g (tab n r) (r n ∷ [])) ∙ any_append f (filter g (tab n r)) (filter g (r n ∷ []))
    ∙ ap₂ (λ (a b : Bool). a || b) (any-kept g f n r) (last (g (r n)))
  where
    last : (b : Bool) → list_any f (cond b (r n ∷ []) []) ≡ b && f (r n)
    last true = or-false (f (r n))
    last false = refl

-- ---- a loop that gives rows up

module _ (test : ℕ → Bool) (counts : List ℕ) where
  pub given_up-none : given_up 0 test counts ≡ counts
  unfolding given_up tab
  given_up-none = refl

  -- a row that has not been reached is as it was
  given_up-behind : (m i : ℕ) → m ≤ i → get_or (given_up m test counts) i 0 ≡ get_or counts i 0
  unfolding given_up
  given_up-behind m = let f : ℕ → ℕ = λ k. cond (test k) 0 (get_or counts k 0) in front_rest (tab m f) m counts (tab m f ++ drop m counts) (length-tab m f) refl

  pub given_up_at : (i : ℕ) → get_or (given_up i test counts) i 0 ≡ get_or counts i 0
  given_up_at i = given_up-behind i i (omega arith)

  pub length-given_up : (i : ℕ) → i ≤ length counts → length (given_up i test counts) ≡ length counts
  unfolding given_up
  length-given_up i h =
      let f : ℕ → ℕ = λ k. cond (test k) 0 (get_or counts k 0) in
      omega (arith, length-append (tab i f) (drop i counts), length-tab i f, length-drop i counts)

  -- the next row stays, or is given up
  pub given_up_next : (i : ℕ) → i < length counts → given_up (i + 1) test counts ≡ cond (test i) (set (given_up i test counts) i 0) (given_up i test counts)
  unfolding given_up
  given_up_next i h = go (test i) refl
    where
      f : ℕ → ℕ
      f k = cond (test k) 0 (get_or counts k 0)

      opened : tab (i + 1) f ++ drop (i + 1) counts ≡ tab i f ++ (f i ∷ drop (i + 1) counts)
      opened = ap (λ (l : List ℕ). l ++ drop (i + 1) counts) (tab_suc i f) ∙ append_assoc (tab i f) (f i ∷ []) (drop (i + 1) counts)

      front : tab i f ++ drop i counts ≡ tab i f ++ (get_or counts i 0 ∷ drop (i + 1) counts)
      front = ap (λ (l : List ℕ). tab i f ++ l) (drop-cons counts i 0 h ∙ ap (λ (k : ℕ). get_or counts i 0 ∷ drop k counts) (sym (add-one i)))

      go : (b : Bool) → test i ≡ b → tab (i + 1) f ++ drop (i + 1) counts ≡ cond b (set (tab i f ++ drop i counts) i 0) (tab i f ++ drop i counts)
      go true e =
          opened ∙ ap (λ (x : ℕ). tab i f ++ (x ∷ drop (i + 1) counts)) (ap (λ (b : Bool). cond b 0 (get_or counts i 0)) e)
          ∙ sym (ap (λ (l : List ℕ). set l i 0) front ∙ set_at (tab i f) (get_or counts i 0) (drop (i + 1) counts) 0 i (length-tab i f))
      go false e = opened ∙ ap (λ (x : ℕ). tab i f ++ (x ∷ drop (i + 1) counts)) (ap (λ (b : Bool). cond b 0 (get_or counts i 0)) e) ∙ sym front

  -- the count of a row afterwards
  pub given_up-count : (n i : ℕ) → i < n → get_or (given_up n test counts) i 0 ≡ cond (test i) 0 (get_or counts i 0)
  unfolding given_up
  given_up-count n i h =
      let f : ℕ → ℕ = λ k. cond (test k) 0 (get_or counts k 0) in
      get_or-append (tab n f) (drop n counts) 0 i (omega (arith, length-tab n f)) ∙ get_or-tab n i f 0 h

  -- told row by row
  pub given_up_is : (n : ℕ) (c : List ℕ) → n ≤ length counts → length c ≡ length counts → ((i : ℕ) → i < n → get_or c i 0 ≡ cond (test i) 0 (get_or counts i 0))
      → ((i : ℕ) → n ≤ i → get_or c i 0 ≡ get_or counts i 0) → c ≡ given_up n test counts
  given_up_is n c h e front rest = ext_get_or 0 c (given_up n test counts) (e ∙ sym (length-given_up n h)) (λ i l. go i (dec_lt i n))
    where
      go : (i : ℕ) → Dec (i < n) → get_or c i 0 ≡ get_or (given_up n test counts) i 0
      go i (yes l) = front i l ∙ sym (given_up-count n i l)
      go i (no l) = rest i (omega arith) ∙ sym (given_up-behind n i (omega arith))

-- ---- rows that have been given up or are as they were

pub left-given_up : (n : ℕ) (test : ℕ → Bool) (counts c : List ℕ) → c ≡ given_up n test counts → Left n counts c
left-given_up n test counts c p i h f =
    let same : get_or c i 0 ≡ cond (test i) 0 (get_or counts i 0) = rw p (given_up-count test counts n i h) in
    cond_ind (λ (x : ℕ). get_or c i 0 ≡ x → get_or c i 0 ≡ get_or counts i 0) (test i) 0 (get_or counts i 0) (λ _ z. absurd (f z)) (λ _ z. z) same

pub left_trans : (n : ℕ) (a b c : List ℕ) → Left n a b → Left n b c → Left n a c
left_trans n a b c p q i l f = q i l f ∙ p i l (λ z. f (q i l f ∙ z))

-- ---- rows in use

-- an empty predicate in place of each that passes the test: those that pass are gone
pub keep_emptied : (t : List ℕ → Bool) (n : ℕ) (r : ℕ → List ℕ) → filter has_terms (tab n (λ i. cond (t (r i)) [] (r i))) ≡ filter (λ p. not (t p)) (filter has_terms (tab n r))
unfolding tab has_terms
keep_emptied t zero r = refl
keep_emptied t (suc n) r =
    keep_append has_terms (tab n (λ i. cond (t (r i)) [] (r i))) (cond (t (r n)) [] (r n) ∷ [])
    ∙ ap₂ (λ (a b : List (List ℕ)). a ++ b) (keep_emptied t n r) (last (r n) (t (r n)) refl)
    ∙ sym (ap (λ l. filter (λ p. not (t p)) l) (keep_append has_terms (tab n r) (r n ∷ [])) ∙ keep_append (λ p. not (t p)) (filter has_terms (tab n r)) (filter has_terms (r n ∷ [])))
  where
    last : (p : List ℕ) (b : Bool) → t p ≡ b → filter has_terms (cond b [] p ∷ []) ≡ filter (λ q. not (t q)) (filter has_terms (p ∷ []))
    last [] true e = refl
    last [] false e = refl
    last (u ∷ p) true e = rw e
    last (u ∷ p) false e = rw e

-- the row of a count that is zero or as it was
row-cond : (w : ℕ) (b : Bool) (counts c masks : List ℕ) (i : ℕ) → get_or c i 0 ≡ cond b 0 (get_or counts i 0) → row_of w (table c masks) i ≡ cond b [] (row_of w (table counts masks) i)
unfolding row_of
row-cond w true counts c masks i e = rw e
row-cond w false counts c masks i e = rw e

-- the rows given up are those that pass
pub rows-given_up : (w n : ℕ) (t : List ℕ → Bool) (counts masks : List ℕ) →
    filter has_terms (tab n (row_of w (table (given_up n (λ i. t (row_of w (table counts masks) i)) counts) masks))) ≡ filter (λ p. not (t p)) (filter has_terms (tab n (row_of w (table counts masks))))
rows-given_up w n t counts masks =
    ap (λ l. filter has_terms l)
    (tab_cong n (row_of w (table (given_up n (λ i. t (row_of w (table counts masks) i)) counts) masks)) (λ i. cond (t (row_of w (table counts masks) i)) [] (row_of w (table counts masks) i))
    (λ i h. row-cond w (t (row_of w (table counts masks) i)) counts (given_up n (λ k. t (row_of w (table counts masks) k)) counts) masks i (given_up-count (λ k. t (row_of w (table counts masks) k)) counts n i h)))
    ∙ keep_emptied t n (row_of w (table counts masks))

-- a row that is put behind the others
module _ (w n : ℕ) (counts masks e : List ℕ) (t : TableFits w n (table counts masks)) (k : n < length counts) (l : n * w + length e ≤ length masks) where
  pub rows_before : (i : ℕ) → i < n → row_of w (table (set counts n (length e)) (sets masks (n * w) e)) i ≡ row_of w (table counts masks) i
  unfolding row_of
  rows_before i h =
      let c = get_or counts i 0 in
      let same : get_or (set counts n (length e)) i 0 ≡ c = get_or-set_other counts n i (length e) 0 (λ p. omega arith) in
      let small = t.narrow i in
      let near : i * w + w ≤ n * w = omega (arith, mul-le-mul_right w h, suc-mul i w) in
      let parts : sets masks (n * w) e ≡ take (n * w) masks ++ (e ++ drop (n * w + length e) masks) =
      sets-eq e masks (n * w) l ∙ append_assoc (take (n * w) masks) e (drop (n * w + length e) masks) in
      let m : length (take (n * w) masks) ≡ n * w = length-take-le (n * w) masks (omega arith) in
      let front : take c (drop (i * w) (sets masks (n * w) e)) ≡ take c (drop (i * w) (take (n * w) masks)) =
      ap (λ (x : List ℕ). take c (drop (i * w) x)) parts
      ∙ ap (λ (x : List ℕ). take c x) (drop-append-le (i * w) (take (n * w) masks) (e ++ drop (n * w + length e) masks) (omega arith))
      ∙ take-append-le c (drop (i * w) (take (n * w) masks)) (e ++ drop (n * w + length e) masks) (omega (arith, length-drop (i * w) (take (n * w) masks))) in
      let back : take c (drop (i * w) masks) ≡ take c (drop (i * w) (take (n * w) masks)) =
      ap (λ (x : List ℕ). take c (drop (i * w) x)) (sym (lib.ListN.take-append-drop (n * w) masks))
      ∙ ap (λ (x : List ℕ). take c x) (drop-append-le (i * w) (take (n * w) masks) (drop (n * w) masks) (omega arith))
      ∙ take-append-le c (drop (i * w) (take (n * w) masks)) (drop (n * w) masks) (omega (arith, length-drop (i * w) (take (n * w) masks))) in
      rw same (front ∙ sym back)

  pub row_last : row_of w (table (set counts n (length e)) (sets masks (n * w) e)) n ≡ e
  unfolding row_of
  row_last =
      let same : get_or (set counts n (length e)) n 0 ≡ length e = get_or-set_same counts n (length e) 0 k in
      let m : length (take (n * w) masks) ≡ n * w = length-take-le (n * w) masks (omega arith) in
      let parts : sets masks (n * w) e ≡ take (n * w) masks ++ (e ++ drop (n * w + length e) masks) =
      sets-eq e masks (n * w) l ∙ append_assoc (take (n * w) masks) e (drop (n * w + length e) masks) in
      rw (same, parts, drop_at (take (n * w) masks) (e ++ drop (n * w + length e) masks) (n * w) m) (take_at e (drop (n * w + length e) masks) (length e) refl)

  pub rows_appended : tab (n + 1) (row_of w (table (set counts n (length e)) (sets masks (n * w) e))) ≡ tab n (row_of w (table counts masks)) ++ (e ∷ [])
  rows_appended =
      tab_suc n (row_of w (table (set counts n (length e)) (sets masks (n * w) e)))
      ∙ ap₂ (λ (a : List (List ℕ)) (b : List ℕ). a ++ (b ∷ [])) (tab_cong n _ (row_of w (table counts masks)) rows_before) row_last

-- ---- what the functions are handed and leave

-- a predicate that has terms implies none that has been given up
pub implies-none : (e : List ℕ) (w i : ℕ) (counts masks : List ℕ) → 0 < length e → get_or counts i 0 ≡ 0 → implies e (row_of w (table counts masks) i) ≡ false
unfolding row_of implies holds
implies-none [] w i counts masks h z = absurd (omega arith)
implies-none (t ∷ e) w i counts masks h z = rw z

-- a is the mark of row i, where it is still there
module _ (i : ℕ) (counts masks p : List ℕ) (a b : ℕ) (f : (get_or counts i 0 ≡ 0 → ⊥) → a ≡ mark_of (row_of 16 (table counts masks) i)) (g : b ≡ mark_of p) where
  pub row_apart : Apart a b → has_terms (row_of 16 (table counts masks) i) && implies (row_of 16 (table counts masks) i) p ≡ false
  row_apart h = go (ℕ_discrete (get_or counts i 0) 0)
    where
      go : Dec (get_or counts i 0 ≡ 0) → has_terms (row_of 16 (table counts masks) i) && implies (row_of 16 (table counts masks) i) p ≡ false
      go (yes z) = rw (row-empty 16 i counts masks z)
      go (no n) = rw (h (row_of 16 (table counts masks) i) p (f n) g) (and-false (has_terms (row_of 16 (table counts masks) i)))

  pub apart-row : 0 < length p → Apart b a → implies p (row_of 16 (table counts masks) i) ≡ false
  apart-row s h = go (ℕ_discrete (get_or counts i 0) 0)
    where
      go : Dec (get_or counts i 0 ≡ 0) → implies p (row_of 16 (table counts masks) i) ≡ false
      go (yes z) = implies-none p 16 i counts masks s z
      go (no n) = h p (row_of 16 (table counts masks) i) g (f n)

-- of marks among which none is within b each is apart from b
pub marks_apart : (marks : List ℕ) (b : ℕ) → ((i : ℕ) → get_or marks i 0 < 2 ^ 32) → list_any (λ m. subset m b) marks ≡ false → (i : ℕ) → i < length marks → Apart (get_or marks i 0) b
marks_apart marks b w e i h =
    let m = get_or marks i 0 in
    let none : T (subset m b) → ⊥ = λ t. subst (λ (x : Bool). T x) e (any_in (λ x. subset x b) marks m (at_in marks 0 i h) t) in
    λ q r x y. implies_not q r m b x y (w i) (T_false (subset m b) (not_T (subset m b) none))

-- no mark of the first n lets its row imply p
pub rows_apart : (n : ℕ) (counts masks marks p : List ℕ) (b : ℕ) → Marked n (table counts masks) marks → b ≡ mark_of p
    → ((i : ℕ) → i < n → Apart (get_or marks i 0) b) → (i : ℕ) → i < n → has_terms (row_of 16 (table counts masks) i) && implies (row_of 16 (table counts masks) i) p ≡ false
rows_apart n counts masks marks p b k g w i h = row_apart i counts masks p (get_or marks i 0) b (k.mark i h) g (w i h)

pub explained-rows : (n : ℕ) (counts masks p : List ℕ) →
    explained (entries_in n (table counts masks)) p ≡ any_below n (λ i. has_terms (row_of 16 (table counts masks) i) && implies (row_of 16 (table counts masks) i) p)
unfolding explained entries_in
explained-rows n counts masks p = any-kept has_terms (λ e. implies e p) n (row_of 16 (table counts masks))

-- to be explained is a matter of what is said, not of the form
pub explained-normal : (es : List (List ℕ)) (p : List ℕ) → explained es (normal p) ≡ explained es p
unfolding explained
explained-normal [] p = refl
explained-normal (e ∷ es) p = ap₂ (λ (a b : Bool). a || b) (implies-normal e p) (explained-normal es p)

pub table-given_up : (w n m : ℕ) (test : ℕ → Bool) (counts masks : List ℕ) → TableFits w n (table counts masks) → m ≤ n → TableFits w n (table (given_up m test counts) masks)
table-given_up w n m test counts masks t h =
    record { counted = omega (arith, t.counted, length-given_up test counts m (omega (arith, t.counted))); long = t.long; narrow = small }
  where
    bound : (b : Bool) (x : ℕ) → x ≤ w → cond b 0 x ≤ w
    bound true x p = omega arith
    bound false x p = p

    below : (i : ℕ) → Dec (i < m) → get_or (given_up m test counts) i 0 ≤ w
    below i (yes p) = subst (λ (x : ℕ). x ≤ w) (sym (given_up-count test counts m i p)) (bound (test i) (get_or counts i 0) (t.narrow i))
    below i (no p) = subst (λ (x : ℕ). x ≤ w) (sym (given_up-behind test counts m i (omega arith))) (t.narrow i)

    small : (i : ℕ) → get_or (given_up m test counts) i 0 ≤ w
    small i = below i (dec_lt i m)

pub table_appended : (w n : ℕ) (counts masks e : List ℕ) → TableFits w (n + 1) (table counts masks) → length e ≤ w → TableFits w (n + 1) (table (set counts n (length e)) (sets masks (n * w) e))
table_appended w n counts masks e t h =
    record { counted = omega (arith, t.counted, length-set counts n (length e)); long = omega (arith, t.long, length-sets masks (n * w) e); narrow = small }
  where
    at : (i : ℕ) → Dec (i ≡ n) → get_or (set counts n (length e)) i 0 ≤ w
    at i (yes p) = subst (λ (k : ℕ). get_or (set counts n (length e)) k 0 ≤ w) (sym p) (omega (arith, get_or-set_same counts n (length e) 0 (omega (arith, t.counted))))
    at i (no p) = omega (arith, get_or-set_other counts n i (length e) 0 p, t.narrow i)

    small : (i : ℕ) → get_or (set counts n (length e)) i 0 ≤ w
    small i = at i (ℕ_discrete i n)

-- a row depends on its own count alone
pub row_count : (w i : ℕ) (counts c masks : List ℕ) → get_or c i 0 ≡ get_or counts i 0 → row_of w (table c masks) i ≡ row_of w (table counts masks) i
unfolding row_of
row_count w i counts c masks e = rw e

-- a turn of the loop that gives rows up, with the test's result b
pub given_up-turn : (test : ℕ → Bool) (counts c d : List ℕ) (i : ℕ) (b : Bool) → i < length counts → c ≡ given_up i test counts → b ≡ test i
    → d ≡ cond b (set c i 0) c → d ≡ given_up (i + 1) test counts
given_up-turn test counts c d i b h p q r = r ∙ rw (q, p) (sym (given_up_next test counts i h))

-- ---- marks

-- the next row has its mark
pub marked_next : (i v : ℕ) (counts masks marks : List ℕ) → v ≡ mark_of (row_of 16 (table counts masks) i) → i < length marks → Marked i (table counts masks) marks
    → Marked (i + 1) (table counts masks) (set marks i v)
marked_next i v counts masks marks e h k = record { reach = omega (arith, length-set marks i v); mark = λ j l f. at j l f (ℕ_discrete j i) }
  where
    at : (j : ℕ) → j < i + 1 → (get_or counts j 0 ≡ 0 → ⊥) → Dec (j ≡ i) → get_or (set marks i v) j 0 ≡ mark_of (row_of 16 (table counts masks) j)
    at j l f (yes p) =
        subst (λ (x : ℕ). get_or (set marks i v) x 0 ≡ mark_of (row_of 16 (table counts masks) x)) (sym p) (get_or-set_same marks i v 0 h ∙ e)
    at j l f (no p) = get_or-set_other marks i j v 0 p ∙ k.mark j (omega arith) f

-- ---- a row that is given up

module _ (counts masks : List ℕ) (i : ℕ) (near : i < length counts) where
  pub table_gone : (w n : ℕ) → TableFits w n (table counts masks) → TableFits w n (table (set counts i 0) masks)
  table_gone w n t = record { counted = omega (arith, t.counted, length-set counts i 0); long = t.long; narrow = λ j. small j (ℕ_discrete j i) }
    where
      small : (j : ℕ) → Dec (j ≡ i) → get_or (set counts i 0) j 0 ≤ w
      small j (yes p) = subst (λ (k : ℕ). get_or (set counts i 0) k 0 ≤ w) (sym p) (omega (arith, get_or-set_same counts i 0 0 near))
      small j (no p) = omega (arith, get_or-set_other counts i j 0 0 p, t.narrow j)

  pub marked_gone : (n : ℕ) (marks : List ℕ) → Marked n (table counts masks) marks → Marked n (table (set counts i 0) masks) marks
  marked_gone n marks k = record { reach = k.reach; mark = λ j l f. go j l f (ℕ_discrete j i) }
    where
      go : (j : ℕ) → j < n → (get_or (set counts i 0) j 0 ≡ 0 → ⊥) → Dec (j ≡ i) → get_or marks j 0 ≡ mark_of (row_of 16 (table (set counts i 0) masks) j)
      go j l f (yes p) = absurd (f (ap (λ (x : ℕ). get_or (set counts i 0) x 0) p ∙ get_or-set_same counts i 0 0 near))
      go j l f (no p) =
          let same : get_or (set counts i 0) j 0 ≡ get_or counts j 0 = get_or-set_other counts i j 0 0 p in
          k.mark j l (λ z. f (same ∙ z)) ∙ ap mark_of (sym (row_count 16 j counts (set counts i 0) masks same))

-- ---- a predicate without terms

pub has_none : (p : List ℕ) → length p ≡ 0 → has_terms p ≡ false
unfolding has_terms
has_none [] h = refl
has_none (x ∷ p) h = absurd (omega arith)

pub implies_nothing : (e q : List ℕ) → 0 < length e → length q ≡ 0 → implies e q ≡ false
unfolding implies holds
implies_nothing [] q h z = absurd (omega arith)
implies_nothing (t ∷ e) [] h z = refl
implies_nothing (t ∷ e) (u ∷ q) h z = absurd (omega arith)

-- ---- a row that is put last, in steps: its count, its terms, its mark

module _ (n : ℕ) (counts masks e : List ℕ) (t : TableFits 16 n (table counts masks)) (near : n < length counts) (room : n * 16 + 16 ≤ length masks) (few : length e ≤ 16) where
  more : TableFits 16 (n + 1) (table counts masks)
  more = table_more 16 n (n + 1) counts masks t (omega arith) (omega (arith, room))

  pub table-put : TableFits 16 (n + 1) (table (set counts n (length e)) (sets masks (n * 16) e))
  table-put = table_appended 16 n counts masks e more few

  pub table-counted : TableFits 16 n (table (set counts n (length e)) masks)
  table-counted = record { counted = omega (arith, near, length-set counts n (length e)); long = t.long; narrow = table-put.narrow }

  module _ (marks : List ℕ) (k : Marked n (table counts masks) marks) where
    same : (i : ℕ) → i < n → get_or (set counts n (length e)) i 0 ≡ get_or counts i 0
    same i l = get_or-set_other counts n i (length e) 0 (λ x. omega arith)

    pub marked-counted : Marked n (table (set counts n (length e)) masks) marks
    marked-counted =
        record {
          reach = k.reach;
          mark = λ i l c. k.mark i l (λ z. c (same i l ∙ z)) ∙ ap mark_of (sym (row_count 16 i counts (set counts n (length e)) masks (same i l)));
        }

    pub marked-put : Marked n (table (set counts n (length e)) (sets masks (n * 16) e)) marks
    marked-put =
        record {
          reach = k.reach;
          mark = λ i l c. k.mark i l (λ z. c (same i l ∙ z)) ∙ ap mark_of (sym (rows_before 16 n counts masks e t near (omega (arith, room, few)) i l));
        }

    pub marked-last : (mark : ℕ) → mark ≡ mark_of e → n < length marks → Marked (n + 1) (table (set counts n (length e)) (sets masks (n * 16) e)) (set marks n mark)
    marked-last mark d h =
        marked_next n mark (set counts n (length e)) (sets masks (n * 16) e) marks
        (d ∙ ap mark_of (sym (row_last 16 n counts masks e t near (omega (arith, room, few))))) h marked-put

-- an entry is learnt: those that it implies are given up, and it is put last
pub learn-rows : (n : ℕ) (counts masks e a : List ℕ) → TableFits 16 n (table a masks) → n < length a → n * 16 + 16 ≤ length masks → length e ≤ 16
    → a ≡ given_up n (λ i. implies e (row_of 16 (table counts masks) i)) counts → 0 < length e → explained (entries_in n (table counts masks)) e ≡ false
    → entries_in (n + 1) (table (set a n (length e)) (sets masks (n * 16) e)) ≡ learn e (entries_in n (table counts masks))
unfolding learn entries_in has_terms
learn-rows n counts masks e a t near room few p h f =
    let kept : filter has_terms (tab n (row_of 16 (table a masks))) ≡ filter (λ x. not (implies e x)) (filter has_terms (tab n (row_of 16 (table counts masks)))) =
    rw p (rows-given_up 16 n (λ x. implies e x) counts masks) in
    rw f (
    ap (λ l. filter has_terms l) (rows_appended 16 n a masks e t near (omega (arith, room, few)))
    ∙ keep_append has_terms (tab n (row_of 16 (table a masks))) (e ∷ [])
    ∙ ap₂ (λ (x y : List (List ℕ)). x ++ y) kept (last e h)
    )
  where
    last : (e : List ℕ) → 0 < length e → filter has_terms (e ∷ []) ≡ e ∷ []
    last [] h = absurd (omega arith)
    last (x ∷ l) h = refl
