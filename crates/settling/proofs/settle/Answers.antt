-- `settling::settle` meets its contract: the entries are counted and marked where they stand (`entries_standing`), and the four steps follow,
-- one after the other; where the entries explain the new datum, the receipt ends at step 2. What the rows then hold is the
-- store of the definition (`settled_by`).
use Prim.Native.Nat.{ℕ, ◌≤◌, ◌<◌}
use mathlib.Core.Path.{◌≡◌, refl, sym, ap, ◌∙◌}
use mathlib.Core.List.{List, ◌++◌, map}
use native.Mathlib.Omega.{arith}
use lib.ListN.{length, take, drop, length-append, length-drop}
use Rattle.std.specs.Prelude.{All}
use Rattle.std.proofs.lemmas.List.{length-take-le}
use Rattle.numbers.specs.Numbers.{num}
use Rattle.state.specs.Model.{Datum, Store}
use Rattle.state.specs.Layout.{entry_place, store_of}
use Rattle.state.specs.code.Tables.{table_from, TableFits, HeldFits, EntriesStand, entries_in, entry_masks, terms_of, datum_of, data_in, store_in}
use Rattle.entries.specs.declared.tables.Entries.{Entries}
use Rattle.entries.specs.Entries.{explained}
use Rattle.entries.specs.code.Rows.{known}
use Rattle.state.proofs.RowLaws.{table_less}
use Rattle.state.proofs.StateLaws.{entry_count_le}
use Rattle.state.proofs.StoreLaws.{column_front, length-entry_masks, table_standing, entries_standing}
use Rattle.entries.proofs.StandingLaws.{marks_standing}
use Rattle.steps.specs.Steps.{learnt, unexplained, held_after, settled}
use Rattle.steps.specs.code.Rows.{given_up_if}
use Rattle.settling.specs.code.Rows.{DataLeft, with_term}
use Rattle.settling.proofs.LeftLaws.{fits-gone, left-gone, left-trans, left-behind, taken-front}
use Rattle.settling.proofs.SettleLaws.{data_unexplained, held-explained, held-placed, settled_by}
use borrow.Author.Rules.{rules}
use Rattle.settling.proofs.settle.Goals as goal
use Rattle.settling.proofs.settle.Goals.{After-drop_explained, After-learn, Start}

-- in form, at most 32 entries
few : (a : Start) → a.args.rows.known ≤ 32
few a = omega (arith, a.requires.state_size_in_bounds.2, entry_count_le a.args.s.now a.requires.state_size_in_bounds.1)

pub invariant_of-entries : goal.invariant_of-entries
invariant_of-entries c =
    let form = c.requires.state_size_in_bounds in
    let marked = c.mark_rows.ensures in
    let k = few (goal.at.invariant_of-entries c).Start in
    record {
      own = (form.0, k);
      fits = table_standing _ _ form.1 form.2 _ _ _ marked.counts_after _ (omega arith) (table_less 16 _ _ _ _ c.requires.table_fits (omega arith));
      marked = marks_standing _ _ form.1 form.2 _ _ _ _ _ marked.counts_after marked.marks_after (omega (arith, k));
    }

pub learn-requires-clause-room : goal.learn-requires-clause-room
learn-requires-clause-room c =
    let a = c.args in
    let lent : length (take a.rows.held a.held.now) ≡ a.rows.held = length-take-le a.rows.held a.held.now (omega (arith, c.requires.fit.1)) in
    record {
      beyond = omega arith;
      counted = omega (arith, lent, c.requires.table_fits.counted, c.mark_rows.auto.counts);
      long = omega (arith, lent, c.requires.table_fits.long, length-append (entry_masks a.rows.known a.s.now) a.masks.now, length-entry_masks a.rows.known a.s.now);
      reach = omega (arith, lent, c.requires.p_nonzero.2, c.mark_rows.auto.marks);
    }

-- the rows that are lent, and what step 2 leaves of them
lent : (c : After-drop_explained) → length c.drop_explained.new.held ≡ c.args.rows.held
lent c = c.drop_explained.auto.held ∙ length-take-le c.args.rows.held c.args.held.now (omega (arith, c.requires.fit.1))

front : (c : After-drop_explained) → take c.args.rows.held (c.drop_explained.new.held ++ drop c.args.rows.held c.args.held.now) ≡ c.drop_explained.new.held
front c = taken-front c.drop_explained.new.held (drop c.args.rows.held c.args.held.now) c.args.rows.held (lent c)

-- what was lent to step 2 are the entries that were learnt
told : (c : After-drop_explained)
    → c.drop_explained.new.held ≡ map (λ r. given_up_if (explained (known c.learn.new.entries) (terms_of r)) r) (take c.args.rows.held c.args.held.now)
told c =
    c.drop_explained.ensures
    ∙ ap (λ es. map (λ r. given_up_if (explained es (terms_of r)) r) (take c.args.rows.held c.args.held.now)) c.standing.ensures.all

fits : (c : After-drop_explained) → All HeldFits c.drop_explained.new.held
fits c = rw (told c) (fits-gone (λ r. explained (known c.learn.new.entries) (terms_of r)) (take c.args.rows.held c.args.held.now) c.requires.fit.0)

left : (c : After-drop_explained) → DataLeft (take c.args.rows.held c.args.held.now) c.drop_explained.new.held
left c = rw (told c) (left-gone (λ r. explained (known c.learn.new.entries) (terms_of r)) (take c.args.rows.held c.args.held.now))

left-data : (c : After-drop_explained) → data_in c.drop_explained.new.held ≡ unexplained (known c.learn.new.entries) (data_in (take c.args.rows.held c.args.held.now))
left-data c = rw (told c) (data_unexplained (known c.learn.new.entries) (take c.args.rows.held c.args.held.now))

-- what the arrays hold when the loan has ended
table-fits : (s : List ℕ) (first : ℕ) (e : Entries) (counts masks : List ℕ) → e.state.now ≡ s → e.first ≡ first → counts ≡ e.counts.now → masks ≡ e.masks.now
    → TableFits 16 e.n (table_from first s counts masks)
table-fits s first e counts masks p q x y = rw (← p, ← q, x, y) e.fits

kept : (s : List ℕ) (first : ℕ) (e : Entries) (counts masks : List ℕ) → e.state.now ≡ s → e.first ≡ first → counts ≡ e.counts.now → masks ≡ e.masks.now
    → entries_in e.n (table_from first s counts masks) ≡ known e
kept s first e counts masks p q x y = rw (← p, ← q, x, y) refl

-- no entry is another than it was
stand : (c : After-learn) (counts : List ℕ) → counts ≡ c.learn.new.entries.counts.now → EntriesStand c.args.s.now counts
stand c counts x i l f =
    let s = c.args.s.now in
    let near : i < c.args.rows.known = omega (arith, c.requires.state_size_in_bounds.2) in
    (rw x (c.learn.ensures.kept.0.3 i near (rw x at f)))
    ∙ column_front (λ k. num (entry_place k) 4 s) c.args.rows.known i _ _ c.mark_rows.ensures.counts_after near

-- what the steps have learnt from the entries that were there
entries : (c : After-learn) → let a = c.args in
    known c.learn.new.entries
    ≡ learnt (datum_of a.new a.p.now) (data_in (take a.rows.held a.held.now)) (with_term a.blame (store_of a.s.now).entries)
entries c =
    let there = entries_standing _ _ c.requires.state_size_in_bounds.1 c.requires.state_size_in_bounds.2 _ _ c.args.masks.now c.mark_rows.ensures.counts_after in
    rw (c.requires.all_held, there) at c.learn.ensures.entries_after

-- the store, told by what the entries are
through : (n : Datum) (k : Store) (ds : List Datum) (fs es : List (List ℕ)) → fs ≡ es → es ≡ learnt n k.held k.entries → ds ≡ held_after n k.held es
    → ◌≡◌ {A = Store} (record { held = ds; entries = fs }) (settled n k)
through n k ds fs es p q r = ap (λ (x : List (List ℕ)). record { held = ds; entries = x }) p ∙ settled_by n k ds es q r

pub returns-then-explained-clause-fact : goal.returns-then-explained-clause-fact
returns-then-explained-clause-fact c =
    let a = (goal.at.returns-then-explained-clause-fact c).After-drop_explained in
    (rw (front a) (fits a), left-behind _ _ (drop c.args.rows.held c.args.held.now) c.drop_explained.auto.held (left a))

pub place-requires-clause-fit : goal.place-requires-clause-fit
place-requires-clause-fit c =
    let a = (goal.at.place-requires-clause-fit c).After-drop_explained in
    (rw (front a) (fits a), omega (arith, length-append c.drop_explained.new.held (drop c.args.rows.held c.args.held.now), lent a, length-drop c.args.rows.held c.args.held.now, c.requires.fit.1))

pub returns-clause-fact : goal.returns-clause-fact
returns-clause-fact c =
    let a = (goal.at.returns-clause-fact c).After-drop_explained in
    let placed = c.place.ensures.fact in
    (placed.1, left-trans _ c.drop_explained.new.held _ c.drop_explained.auto.held (left a) (rw (front a) at placed.2))

pub returns-then-explained-clause-table_fits_2 : goal.returns-then-explained-clause-table_fits_2
returns-then-explained-clause-table_fits_2 c =
    let lent = c.learn.ensures.kept.0 in
    (table-fits _ _ c.learn.new.entries _ _ (ap (λ s. s.now) lent.0) lent.1 (search rules) (search rules), stand (goal.at.returns-then-explained-clause-table_fits_2 c).After-learn _ (search rules))

pub returns-then-explained-clause-store_after : goal.returns-then-explained-clause-store_after
unfolding store_in
returns-then-explained-clause-store_after c =
    let a = (goal.at.returns-then-explained-clause-store_after c).After-drop_explained in
    let lent = c.learn.ensures.kept.0 in
    through (datum_of c.args.new c.args.p.now) _ _ _ (known c.learn.new.entries)
    (kept _ _ c.learn.new.entries _ _ (ap (λ s. s.now) lent.0) lent.1 (search rules) (search rules)) (entries (goal.at.returns-then-explained-clause-store_after c).After-learn)
    (rw (front a) (left-data a ∙ held-explained _ _ _ (sym c.explained.ensures ∙ c.if-explained.true)))

pub returns-clause-table_fits_2 : goal.returns-clause-table_fits_2
returns-clause-table_fits_2 c =
    let lent = c.learn.ensures.kept.0 in
    (table-fits _ _ c.learn.new.entries _ _ (ap (λ s. s.now) lent.0) lent.1 (search rules) (search rules), stand (goal.at.returns-clause-table_fits_2 c).After-learn _ (search rules))

pub returns-clause-store_after : goal.returns-clause-store_after
unfolding store_in
returns-clause-store_after c =
    let a = (goal.at.returns-clause-store_after c).After-drop_explained in
    let lent = c.learn.ensures.kept.0 in
    through (datum_of c.args.new c.args.p.now) _ _ _ (known c.learn.new.entries)
    (kept _ _ c.learn.new.entries _ _ (ap (λ s. s.now) lent.0) lent.1 (search rules) (search rules)) (entries (goal.at.returns-clause-store_after c).After-learn)
    ((rw (front a, left-data a) at c.place.ensures.data_after) ∙ held-placed _ _ _ (sym c.explained.ensures ∙ c.if-explained.false))
