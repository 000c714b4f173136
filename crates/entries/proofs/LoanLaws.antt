-- Entries in lent arrays: what is put last, and what a call leaves. No contract cites this file. Assumes nothing.
use Prim.Native.Nat.{ℕ, ◌+◌, ◌*◌, ◌-◌, ◌≤◌, ◌<◌}
use mathlib.Core.Path.{◌≡◌, refl, ap, ◌∙◌}
use mathlib.Core.Bool.{false}
use mathlib.Core.List.{List, ◌++◌}
use native.Mathlib.Omega.{arith}
use lib.ListN.{length, set}
use lib.Seq.{sets}
use Rattle.predicates.specs.Predicates.{implies}
use Rattle.predicates.specs.code.Marks.{mark_of}
use Rattle.state.specs.code.Tables.{table, table_from, TableFits, entry_masks, entries_in}
use Rattle.state.proofs.RowLaws.{table_less}
use Rattle.entries.specs.declared.tables.Entries.{Entries}
use Rattle.entries.specs.Entries.{explained, learn}
use Rattle.entries.specs.code.Marks.{Marked, given_up}
use Rattle.entries.specs.code.Rows.{row_in, known, Room, Kept}
use Rattle.entries.proofs.TableLaws.{table-put, table-counted, marked-counted, marked-put, marked-last, learn-rows}
use Rattle.entries.proofs.StandingLaws.{more_room, sets_array}

pub kept_refl : (a : Entries) → Kept a a
kept_refl a = (refl, refl, omega arith, (λ i l f. refl), refl, refl, refl, refl, refl, refl)

pub kept_trans : (a b c : Entries) → Kept a b → Kept b c → Kept a c
kept_trans a b c h k = (
  k.0 ∙ h.0,
  k.1 ∙ h.1,
  omega (arith, h.2, k.2),
  (λ i l f. let g = k.3 i (omega (arith, l, h.2)) f in g ∙ h.3 i l (λ z. f (g ∙ z))),
  k.4 ∙ h.4,
  k.5 ∙ h.5,
  k.6 ∙ h.6,
  k.7 ∙ h.7,
  k.8 ∙ h.8,
  k.9 ∙ h.9,
)

-- room for a row more, where no more came than there was room for
pub room_left : (k i : ℕ) (a b : Entries) → Room k a → Kept a b → b.n ≤ a.n + i → i < k → Room 1 b
room_left k i a b r h m l =
    record {
      beyond = omega (arith, r.beyond, h.1, h.2);
      counted = omega (arith, r.counted, m, l, h.4);
      long = omega (arith, r.long, m, l, h.1, h.5);
      reach = omega (arith, r.reach, m, l, h.6);
    }

-- the loan has kept its room, where no row came
pub room_kept : (k : ℕ) (a b : Entries) → Room k a → Kept a b → b.n ≡ a.n → Room k b
room_kept k a b r h e =
    record {
      beyond = omega (arith, r.beyond, h.1, h.2);
      counted = omega (arith, r.counted, e, h.4);
      long = omega (arith, r.long, e, h.1, h.5);
      reach = omega (arith, r.reach, e, h.6);
    }

module _ (f : Entries) (e : List ℕ) (r : Room 1 f) (few : length e ≤ 16) where
  abbrev front : List ℕ
  front = entry_masks f.first f.state.now

  near : f.n < length f.counts.now
  near = omega (arith, r.counted)

  room : f.n * 16 + 16 ≤ length (front ++ f.masks.now)
  room = more_room f.first f.state.now f.masks.now f.n r.long

  -- there is room in the array itself
  pub array_place : (f.n - f.first) * 16 + 16 ≤ length f.masks.now
  array_place = omega (arith, r.long, r.beyond)

  -- its count is put
  pub fits_counted : TableFits 16 f.n (table_from f.first f.state.now (set f.counts.now f.n (length e)) f.masks.now)
  fits_counted = table-counted f.n f.counts.now (front ++ f.masks.now) e f.fits near room few

  pub marks_counted : Marked f.n (table_from f.first f.state.now (set f.counts.now f.n (length e)) f.masks.now) f.marks.now
  marks_counted = marked-counted f.n f.counts.now (front ++ f.masks.now) e f.fits near room few f.marks.now f.marked

  -- its terms are put
  module _ (m : List ℕ) (q : m ≡ sets f.masks.now ((f.n - f.first) * 16) e) where
    put : front ++ m ≡ sets (front ++ f.masks.now) (f.n * 16) e
    put = ap (λ (l : List ℕ). front ++ l) q ∙ sets_array f.first f.state.now f.masks.now f.n e r.beyond

    pub fits_put : TableFits 16 (f.n + 1) (table_from f.first f.state.now (set f.counts.now f.n (length e)) m)
    fits_put = rw put (table-put f.n f.counts.now (front ++ f.masks.now) e f.fits near room few)

    pub fits_less : TableFits 16 f.n (table_from f.first f.state.now (set f.counts.now f.n (length e)) m)
    fits_less = table_less 16 (f.n + 1) f.n (set f.counts.now f.n (length e)) (front ++ m) fits_put (omega arith)

    pub marks_put : Marked f.n (table_from f.first f.state.now (set f.counts.now f.n (length e)) m) f.marks.now
    marks_put = rw put (marked-put f.n f.counts.now (front ++ f.masks.now) e f.fits near room few f.marks.now f.marked)

    -- its mark is put
    pub marks_last : (mark : ℕ) → mark ≡ mark_of e → Marked (f.n + 1) (table_from f.first f.state.now (set f.counts.now f.n (length e)) m) (set f.marks.now f.n mark)
    marks_last mark d = rw put (marked-last f.n f.counts.now (front ++ f.masks.now) e f.fits near room few f.marks.now f.marked mark d (omega (arith, r.reach)))

    -- what was given up before is what e implies
    pub known_put : (a : Entries) → f.state ≡ a.state → f.first ≡ a.first → f.n ≡ a.n → f.masks.now ≡ a.masks.now
        → f.counts.now ≡ given_up a.n (λ i. implies e (row_in a i)) a.counts.now → 0 < length e → explained (known a) e ≡ false
        → entries_in (f.n + 1) (table_from f.first f.state.now (set f.counts.now f.n (length e)) m) ≡ learn e (known a)
    known_put a s i n k g some none =
        let whole : front ++ f.masks.now ≡ entry_masks a.first a.state.now ++ a.masks.now = rw (s, i, k) refl in
        let same : learn e (entries_in f.n (table a.counts.now (front ++ f.masks.now))) ≡ learn e (known a) = rw (whole, n) refl in
        rw put (learn-rows f.n a.counts.now (front ++ f.masks.now) e f.counts.now f.fits near room few (rw (whole, n) g) some (rw (whole, n) none) ∙ same)
