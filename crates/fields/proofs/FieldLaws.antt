-- Laws of `specs.Fields`: a turn of each loop that reads a line, on plain values. `-here` is a loop's early exit, `-next` a turn, `-done` its end.
-- The idea: each loop answers for the elements from its place on, so a turn takes one element off. No contract cites this file. Assumes nothing.
use Rattle.std.specs.Prelude.{None, Some}
use Prim.Native.Nat.{ℕ, suc, ◌+◌, ◌*◌, ◌-◌, ◌^◌, ◌≤◌, ◌<◌}
use mathlib.Core.Path.{◌≡◌, refl, ap, ◌∙◌}
use mathlib.Core.Bool.{Bool, true, false, ◌&&◌, cond, and-false}
use mathlib.Core.List.{List, [], ◌∷◌, map}
use native.Mathlib.Nat.{le_refl}
use native.Mathlib.Numerals.{add-one, one-add}
use native.Mathlib.Omega.{arith}
use borrow.Author.Tests.{lt-ltb, le-ltb, lt-leb, le-leb, eq-eqb, ne_eqb, eqb-true, eqb-false, leb-true, ltb-true, ltb-false}
use lib.Dec.{T, ltb, leb, eqb, eqb→eq}
use lib.ListN.{length, get_or, take, drop, set, drop_of_length-le, length-take, length-drop}
use lib.Seq.{drop-drop}
use Rattle.std.specs.List.{list_all, position, position_or_len}
use Rattle.std.proofs.lemmas.List.Recursion.{is_position_or_len}
use Rattle.predicates.proofs.ListLaws.{true_T, T_true, both_l, both_r, cond_ind}
use Rattle.predicates.proofs.LoopLaws.{drop_next}
use Rattle.numbers.specs.Numbers.{put}
use Rattle.fields.specs.Fields.{onto, fields, same_bytes, is_digit, value_from, value, is_number}
use Rattle.fields.specs.code.Scan.{later, space_at, numbers_in}

-- ---- space_at: the first space

pub space_first : (l : List ℕ) → space_at l ≡ position_or_len (λ b. eqb b 32) l
unfolding space_at
space_first l = is_position_or_len space_at (λ b. eqb b 32) refl (λ b bs. rw one-add) l

pub found : (t : Bool) (k n : ℕ) → cond t (Some k) None ≡ Some n → (t ≡ true) × (k ≡ n)
found true k n e = (refl, cc)
found false k n e = absurd (cc)

pub not-found : (t : Bool) (k : ℕ) → cond t (Some k) None ≡ None → t ≡ false
not-found true k e = absurd (cc)
not-found false k e = refl

space-most : (l : List ℕ) → space_at l ≤ length l
unfolding space_at
space-most [] = omega arith
space-most (b ∷ bs) = cond_ind (λ (n : ℕ). n ≤ suc (length bs)) (eqb b 32) _ _ (λ _. omega arith) (λ _. omega (arith, space-most bs))

module _ (l : List ℕ) where
  pub space_some : (n : ℕ) → position (λ b. eqb b 32) l ≡ Some n → (n ≡ space_at l) × (n < length l)
  space_some n e =
      let both = found (ltb (position_or_len (λ b. eqb b 32) l) (length l)) _ n e in
      let below = ltb-true _ _ both.0 in
      (omega (arith, space_first l, both.1), omega (arith, both.1))

  pub space-none : position (λ b. eqb b 32) l ≡ None → space_at l ≡ length l
  space-none e =
      let most = ltb-false _ _ (not-found (ltb (position_or_len (λ b. eqb b 32) l) (length l)) _ e) in
      omega (arith, space_first l, space-most l)

-- ---- fields: a line's fields are the one before the first space and those behind it

-- a field and what stands behind it
abbrev cut : ℕ → List ℕ → List (List ℕ)
cut n xs = take n xs ∷ cond (eqb n (length xs)) [] (fields (drop (suc n) xs))

eqb_suc : (a b : ℕ) (t : Bool) → eqb a b ≡ t → eqb (suc a) (suc b) ≡ t
eqb_suc a b true e = eq-eqb _ _ (ap suc (eqb-true a b e))
eqb_suc a b false e = ne_eqb _ _ (λ (f : suc a ≡ suc b). eqb-false a b e (omega arith))

cut_next : (b : ℕ) (bs : List ℕ) (n : ℕ) (t : Bool) → fields bs ≡ cut n bs →
    cond t ([] ∷ fields bs) (onto b (fields bs)) ≡ cut (cond t 0 (suc n)) (b ∷ bs)
unfolding onto
cut_next b bs n true h = rw (ne_eqb 0 (suc (length bs)) (λ (e : 0 ≡ suc (length bs)). omega arith))
cut_next b bs n false h = rw (h, eqb_suc n (length bs) _ refl)

fields_split : (xs : List ℕ) → fields xs ≡ cut (space_at xs) xs
unfolding fields space_at
fields_split [] = refl
fields_split (b ∷ bs) = cut_next b bs (space_at bs) (eqb b 32) (fields_split bs)

module _ (l : List ℕ) (at end : ℕ) (inside : at ≤ length l) (e : end ≡ at + space_at (drop at l)) where
  size : space_at (drop at l) ≡ end - at
  size = omega arith

  pub fields-last : end ≡ length l → fields (drop at l) ≡ take (end - at) (drop at l) ∷ []
  fields-last f =
      let whole : end - at ≡ length (drop at l) = omega (arith, length-drop at l) in
      let same = eq-eqb _ _ whole in
      fields_split (drop at l) ∙ rw (size, same)

  pub fields-more : (end ≡ length l → ⊥) → fields (drop at l) ≡ take (end - at) (drop at l) ∷ fields (drop (end + 1) l)
  fields-more f =
      let other : eqb (end - at) (length (drop at l)) ≡ false = ne_eqb _ _ (λ (g : end - at ≡ length (drop at l)). f (omega (arith, length-drop at l))) in
      let place : at + suc (end - at) ≡ end + 1 = omega arith in
      fields_split (drop at l) ∙ rw (size, other, drop-drop, place)

-- ---- a turn of the loop that reads the fields' numbers

module _ (l : List ℕ) (at end n : ℕ) (vs : List ℕ) (inside : at ≤ length l) (e : end ≡ at + space_at (drop at l)) where
  -- the field at hand
  abbrev field : List ℕ
  field = take (end - at) (drop at l)

  pub numbers_bad : is_number field ≡ false → (list_all is_number (fields (drop at l)) ≡ false) × (put n (numbers_in (fields (drop at l))) vs ≡ vs)
  unfolding numbers_in put
  numbers_bad h =
      let bad : is_number (take (space_at (drop at l)) (drop at l)) ≡ false = rw (size l at end inside e) h in
      (rw (fields_split (drop at l), bad), rw (fields_split (drop at l), bad))

  pub numbers-last : is_number field ≡ true → end ≡ length l →
      (list_all is_number (fields (drop at l)) ≡ true) × (length (fields (drop at l)) ≡ 1)
      × (put n (numbers_in (fields (drop at l))) vs ≡ set vs n (value field))
  unfolding numbers_in put
  numbers-last h f =
      let one = fields-last l at end inside e f in
      (rw (one, h), rw one, rw (one, h))

  pub numbers_more : is_number field ≡ true → (end ≡ length l → ⊥) →
      (list_all is_number (fields (drop at l)) ≡ list_all is_number (fields (drop (end + 1) l)))
      × (length (fields (drop at l)) ≡ suc (length (fields (drop (end + 1) l))))
      × (put n (numbers_in (fields (drop at l))) vs ≡ put (n + 1) (numbers_in (fields (drop (end + 1) l))) (set vs n (value field)))
  unfolding numbers_in put
  numbers_more h f =
      let more = fields-more l at end inside e f in
      (rw (more, h), rw more, rw (more, h, add-one n))

-- where all are numbers, all are read
pub numbers-all : (fs : List (List ℕ)) → T (list_all is_number fs) → numbers_in fs ≡ map value fs
unfolding numbers_in
numbers-all [] t = refl
numbers-all (f ∷ fs) t =
    let good = T_true (is_number f) (both_l (is_number f) (list_all is_number fs) t) in
    rw (good, numbers-all fs (both_r (is_number f) (list_all is_number fs) t))

-- ---- value: what digits write

-- digits behind a number never make it smaller
pub value_ge : (v : ℕ) (ds : List ℕ) → v ≤ value_from v ds
unfolding value_from
value_ge v [] = le_refl v
value_ge v (d ∷ ds) = omega (arith, value_ge (v * 10 + (d - 48)) ds)

pub value_next : (v : ℕ) (l : List ℕ) (i : ℕ) → i < length l → value_from v (drop i l) ≡ value_from (v * 10 + (get_or l i 0 - 48)) (drop (i + 1) l)
unfolding value_from
value_next v l i h = rw (drop_next l i h)

pub value-done : (v : ℕ) (l : List ℕ) (i : ℕ) → length l ≤ i → value_from v (drop i l) ≡ v
unfolding value_from
value-done v l i h = rw (drop_of_length-le l {i = i} h)

-- ---- is_number

module _ (f : List ℕ) where
  pub number-empty : length f ≡ 0 → is_number f ≡ false
  unfolding is_number
  number-empty e = rw e

  pub number_long : 20 < length f → is_number f ≡ false
  unfolding is_number
  number_long h = rw (lt-leb _ _ h, and-false)

  pub number_digits : list_all is_digit f ≡ false → is_number f ≡ false
  unfolding is_number
  number_digits e = rw (e, and-false)

  pub number_large : 2 ^ 64 ≤ value f → is_number f ≡ false
  unfolding is_number
  number_large h = rw (le-ltb _ _ h, and-false, and-false)

  pub number_good : 1 ≤ length f → length f ≤ 20 → list_all is_digit f ≡ true → value f < 2 ^ 64 → is_number f ≡ true
  unfolding is_number
  number_good e k d h = rw (le-leb _ _ e, le-leb _ _ k, d, lt-ltb _ _ h)

  -- a number has a digit
  pub number-some : is_number f ≡ true → 1 ≤ length f
  unfolding is_number
  number-some e =
      let sized : T (leb 1 (length f) && leb (length f) 20) =
      both_l (leb 1 (length f) && leb (length f) 20) (list_all is_digit f && ltb (value f) (2 ^ 64)) (true_T _ e) in
      leb-true _ _ (T_true _ (both_l (leb 1 (length f)) (leb (length f) 20) sized))

-- and so a part of a line that is a number
pub field_some : (k : ℕ) (xs : List ℕ) → is_number (take k xs) ≡ true → 1 ≤ k
field_some k xs e = omega (arith, number-some (take k xs) e, length-take k xs)

-- ---- same_bytes

-- a passed test is an equation
pub same_bytes_out : (a b : List ℕ) → T (same_bytes a b) → a ≡ b
unfolding same_bytes
same_bytes_out [] [] h = refl
same_bytes_out [] (y ∷ ys) h = absurd h
same_bytes_out (x ∷ xs) [] h = absurd h
same_bytes_out (x ∷ xs) (y ∷ ys) h = rw (eqb→eq x y (both_l (eqb x y) (same_bytes xs ys) h), same_bytes_out xs ys (both_r (eqb x y) (same_bytes xs ys) h))

-- ---- a line: its first field, and those behind it

-- the first field is what stands before the first space
pub first_field : (line : List ℕ) → fields line ≡ take (space_at line) line ∷ later (fields line)
unfolding later
first_field line = rw (fields_split line)

pub later-none : (line : List ℕ) → space_at line ≡ length line → later (fields line) ≡ []
unfolding later
later-none line e = rw (fields_split line, eq-eqb _ _ e)

pub later-some : (line : List ℕ) → (space_at line ≡ length line → ⊥) → later (fields line) ≡ fields (drop (space_at line + 1) line)
unfolding later
later-some line e = rw (fields_split line, ne_eqb _ _ e, add-one)
