-- What a taken reading of a live message tells of its words, and the way back: `Live` holds the facts, `read_out` and `read_in` join them to
-- `read_words`. The idea: the words of kind 0 behind the head end where another kind begins, and what follows is `Taken` of crate `message`, told
-- where the interval begins; names that fit bound the word count by themselves. No contract cites this file. Assumes nothing.
use Prim.Native.Nat.{ℕ, suc, ◌+◌, ◌-◌, ◌≤◌, ◌<◌}
use mathlib.Core.Path.{◌≡◌, refl, sym, subst, ◌∙◌}
use mathlib.Core.Bool.{Bool, true, false, cond, not, ◌||◌}
use mathlib.Core.List.{List, [], ◌∷◌, ◌++◌, append-nil}
use native.Mathlib.Omega.{arith}
use lib.Dec.{T, eqb, ltb}
use lib.ListN.{length, take, drop, length-drop}
use lib.Seq.{slice, length-slice}
use borrow.Author.Tests.{le-ltb, ltb-false, ne_eqb}
use Rattle.names.specs.Sets.{has}
use Rattle.names.proofs.SetLaws.{has_out, has_mono, digit-empty}
use Rattle.std.specs.Prelude.{Some, None, unwrap_or, position}
use Rattle.std.specs.List.{list_all, position_or_len}
use Rattle.std.proofs.lemmas.List.Recursion.{is_position_or_len}
use Rattle.std.proofs.lemmas.List.Sums.{prefix_len-le-length}
use Rattle.predicates.specs.Lists.{In}
use Rattle.predicates.proofs.ListLaws.{both_l, both_r, T_true, cond_ind}
use Rattle.message.specs.Words.{kind_of, of_kind, masks}
use Rattle.message.specs.Read.{is_ends, middle, kinds_fit, start, shape_refusal, term_words}
use Rattle.message.specs.Read.{Reading}
use Rattle.message.specs.Read.{Message, Refused}
use Rattle.message.proofs.WordLaws.{part_slice}
use Rattle.message.proofs.ReadLaws.{Taken, past, passed, passed_or, shape_out, taken_out, taken_shaped, contents_in, start_bounds}
use Rattle.message.proofs.ReadLaws.{drop-cut, kept, kept_same, kept-none, kept_past, kept-head, kept-span, terms-middle-from}
use Rattle.message.proofs.ReadLaws.{length-middle as length-middle-from}
use Rattle.message.proofs.ReadLaws.{Above, above-cond, above_or, above-contents}
use Rattle.message.proofs.MessageLaws.{masks_lt}
use Rattle.epochs.specs.Epochs.{name_limit, epochs_most}
use Rattle.radio.specs.Names.{named, wanted, rises, names_fit}
use Rattle.radio.specs.Read.{words_least, words_most, leading, epoch_count, opening, epoch_part, epoch_words_fit, read_words, epoch_words}
use Rattle.radio.proofs.NameLaws.{wanted-sender, wanted_term, wanted_lt, fit_below, fit_rises, fit_named, fit_few}

-- ---- words of kind 0 at the front

leading_le : (ws : List ℕ) → leading ws ≤ length ws
unfolding leading
leading_le [] = omega arith
leading_le (w ∷ ws) =
    cond_ind (λ (n : ℕ). n ≤ suc (length ws)) (eqb (kind_of w) 0) (suc (leading ws)) 0 (λ t. omega (arith, leading_le ws)) (λ t. omega arith)

leading-kind : (ws : List ℕ) → T (of_kind 0 (take (leading ws) ws))
unfolding leading of_kind
leading-kind [] = tt
leading-kind (w ∷ ws) = by (eqb (kind_of w) 0) refl (leading-kind ws)
  where
    by : (b : Bool) → eqb (kind_of w) 0 ≡ b → T (of_kind 0 (take (leading ws) ws)) → T (of_kind 0 (take (cond b (suc (leading ws)) 0) (w ∷ ws)))
    by true e t = rw e t
    by false e t = tt

pub leading-none : (w : ℕ) (ws : List ℕ) → (kind_of w ≡ 0 → ⊥) → leading (w ∷ ws) ≡ 0
unfolding leading
leading-none w ws f = rw (ne_eqb (kind_of w) 0 f)

pub leading-append : (vs ws : List ℕ) → T (of_kind 0 vs) → leading (vs ++ ws) ≡ length vs + leading ws
unfolding leading of_kind
leading-append [] ws t = omega arith
leading-append (v ∷ vs) ws t =
    rw (T_true (eqb (kind_of v) 0) (both_l (eqb (kind_of v) 0) _ t)) (omega (arith, leading-append vs ws (both_r (eqb (kind_of v) 0) _ t)))

-- whether a word is of another kind
abbrev other : ℕ → Bool
other w = not (eqb (kind_of w) 0)

leading_first : (ws : List ℕ) → leading ws ≡ position_or_len other ws
unfolding leading
leading_first ws = is_position_or_len leading other refl (λ w l. turned (eqb (kind_of w) 0) (leading l)) ws
  where
    turned : (b : Bool) (n : ℕ) → cond b (suc n) 0 ≡ cond (not b) 0 (1 + n)
    turned true n = omega arith
    turned false n = refl

-- the first word of another kind, or the end
pub leading_position : (ws : List ℕ) → unwrap_or (position other ws) (length ws) ≡ leading ws
leading_position ws = by (ltb (position_or_len other ws) (length ws)) refl ∙ sym (leading_first ws)
  where
    by : (b : Bool) → ltb (position_or_len other ws) (length ws) ≡ b
        → unwrap_or (cond b (Some (position_or_len other ws)) None) (length ws) ≡ position_or_len other ws
    by true e = refl
    by false e =
        let p : position_or_len other ws ≤ length ws = prefix_len-le-length (λ w. not (other w)) ws in
        omega (arith, ltb-false (position_or_len other ws) (length ws) e)

-- ---- the epoch words

pub opening_le : (ws : List ℕ) → 0 < length ws → opening ws ≤ length ws
unfolding epoch_count
opening_le ws h = omega (arith, leading_le (drop 1 ws), length-drop 1 ws)

part_take : (ws : List ℕ) → epoch_part ws ≡ take (epoch_count ws) (drop 1 ws)
unfolding epoch_part
part_take ws =
    let e : opening ws - 1 ≡ epoch_count ws = omega arith in
    sym (part_slice 1 (opening ws) ws) ∙ rw e

pub part_kind : (ws : List ℕ) → T (of_kind 0 (epoch_part ws))
unfolding epoch_count
part_kind ws = rw (part_take ws) (leading-kind (drop 1 ws))

pub length_part : (ws : List ℕ) → 0 < length ws → length (epoch_part ws) ≡ epoch_count ws
unfolding epoch_part
length_part ws h = length-slice 1 (opening ws) ws (opening_le ws h) ∙ omega arith

-- ---- a message that is taken

pub record Live (ends : Bool) (ws : List ℕ) (s l r n : ℕ) : Type 0 where
  -- what document 01 asks, behind the epoch words
  pub taken : Taken (opening ws) ends ws s l r n
  -- what 42 denies
  pub fit : T (names_fit (wanted s (masks (middle (opening ws) ends ws))) (epoch_part ws))

-- the terms of a message
abbrev terms : Bool → List ℕ → List ℕ
terms ends ws = masks (middle (opening ws) ends ws)

module _ {ends : Bool} {ws : List ℕ} {s l r n : ℕ} (t : Live ends ws s l r n) where
  pub length-middle : length (middle (opening ws) ends ws) ≡ n
  length-middle = length-middle-from t.taken

  some_words : 0 < length ws
  some_words = omega (arith, t.taken)

  -- at most one epoch word for each identifier
  pub part_few : length (epoch_part ws) ≤ epochs_most
  part_few =
      let here = t.taken in
      let ts = terms ends ws in
      fit_few (wanted s ts) (epoch_part ws) t.fit (wanted_lt s ts here.sender_le (masks_lt (middle (opening ws) ends ws)))

  -- the sender has its epoch word
  part_some : 0 < length (epoch_part ws)
  unfolding named
  part_some = by (epoch_part ws) (fit_named (wanted s (terms ends ws)) (epoch_part ws) t.fit)
    where
      by : (names : List ℕ) → named names ≡ wanted s (terms ends ws) → 0 < length names
      by [] e = absurd (omega (arith, has_out s 0 (subst (λ (x : ℕ). T (has s x)) (sym e) (wanted-sender s (terms ends ws))), digit-empty s))
      by (w ∷ ws) e = omega arith

  -- so the word count is one that 10 allows
  pub length-live : (words_least ≤ length ws) × (length ws ≤ words_most)
  length-live =
      let here = t.taken in
      let count = length_part ws some_words in
      omega (arith, start_bounds (opening ws) ends, part_few, part_some)

  pub read_in : read_words ws ≡ Message s l r n
  unfolding read_words epoch_words_fit
  read_in =
      let here = t.taken in
      let size = length-live in
      let fit : epoch_words_fit ws ≡ true = rw (← here.sender, here.form) (T_true _ t.fit) in
      rw (le-ltb (length ws) words_least size.0, le-ltb words_most (length ws) size.1, taken_shaped here, fit) (contents_in here)

  -- the epoch words are those right behind the head, the term words those between the interval and the last word
  pub epochs_part : epoch_words (Message s l r n) ws ≡ epoch_part ws
  unfolding epoch_words epoch_part kinds_fit middle
  epochs_part =
      let here = t.taken in
      let at = opening ws in
      let kinds = here.kinds in
      let between : T (of_kind 6 (middle at ends ws)) = search (both_l, both_r) depth 9 in
      let last = kept-none 0 7 (drop (length ws - 1) ws) refl (search (both_l, both_r) depth 9) in
      let rest : kept 0 (drop at ws) ≡ [] =
      kept-span 0 at ends ws (λ j a b. ne_eqb j 0 (λ e. omega arith)) (search both_l depth 9)
      ∙ kept_past 0 6 (start at ends) (length ws - 1) ws refl (omega arith) between ∙ last in
      kept-head 0 ws refl (omega arith)
      ∙ rw (drop-cut 1 at ws (omega arith), kept_same 0 (slice 1 at ws) (drop at ws) (part_kind ws), rest, append-nil)

  pub terms-middle : term_words (Message s l r n) ws ≡ middle (opening ws) ends ws
  unfolding epoch_part
  terms-middle = terms-middle-from t.taken (omega arith) (kept-none 6 0 (epoch_part ws) refl (part_kind ws))

  -- ---- what its epoch words are

  pub epochs-few : length (epoch_words (Message s l r n) ws) ≤ epochs_most
  epochs-few = rw epochs_part part_few

  pub epochs-below : T (list_all (λ w. ltb w name_limit) (epoch_words (Message s l r n) ws))
  epochs-below = rw epochs_part (fit_below (wanted s (terms ends ws)) (epoch_part ws) t.fit)

  pub epochs_rise : T (rises (epoch_words (Message s l r n) ws))
  epochs_rise = rw epochs_part (fit_rises (wanted s (terms ends ws)) (epoch_part ws) t.fit)

  -- they name the sender and the identifiers in the terms, and no other
  pub epochs-named : named (epoch_words (Message s l r n) ws) ≡ wanted s (masks (term_words (Message s l r n) ws))
  epochs-named = rw (epochs_part, terms-middle) (fit_named (wanted s (terms ends ws)) (epoch_part ws) t.fit)

  pub sender-named : T (has s (named (epoch_words (Message s l r n) ws)))
  sender-named = rw epochs-named (wanted-sender s (masks (term_words (Message s l r n) ws)))

  pub term_named : (u : ℕ) → In u (masks (term_words (Message s l r n) ws)) → (i : ℕ) → T (has i u)
      → T (has i (named (epoch_words (Message s l r n) ws)))
  term_named u h i k =
      let us = masks (term_words (Message s l r n) ws) in
      rw epochs-named (has_mono i u (wanted s us) (wanted_term s us u h) k)

pub read_out : {s l r n : ℕ} (ws : List ℕ) → read_words ws ≡ Message s l r n → Live (is_ends (opening ws) ws) ws s l r n
unfolding read_words epoch_words_fit
read_out ws e =
    let shape = passed_or (shape_refusal (opening ws) ws) _ (past (ltb (length ws) words_least || ltb words_most (length ws)) 10 _ e) in
    let fit = passed (epoch_words_fit ws) 42 _ shape.1 in
    let here = taken_out (opening ws) ws (shape_out (opening ws) ws shape.0) fit.1 in
    record { taken = here; fit = rw here.sender fit.0 }

-- where the term words and the epoch words of a message stand
pub parts_read : {s l r n : ℕ} (ws : List ℕ) → Message s l r n ≡ read_words ws
    → (term_words (read_words ws) ws ≡ middle (opening ws) (is_ends (opening ws) ws) ws) × (epoch_words (read_words ws) ws ≡ slice 1 (opening ws) ws)
unfolding epoch_part
parts_read ws e = let live = read_out ws (sym e) in (rw (← e) (terms-middle live), rw (← e) (epochs_part live))

-- ---- a refusal has a number above 0

pub refused-above : (ws : List ℕ) (number : ℕ) → read_words ws ≡ Refused number → 0 < number
unfolding Above read_words
refused-above ws number e =
    subst (λ (r : Reading). Above r) e
    (above-cond (ltb (length ws) words_least || ltb words_most (length ws)) 10 _ (omega arith)
    (above_or (shape_refusal (opening ws) ws) _ (above-cond (not (epoch_words_fit ws)) 42 _ (omega arith) (above-contents (opening ws) ws))))
