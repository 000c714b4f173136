-- `state::store::put_held` meets its contract: turn i writes datum i behind those before it, leaves it where it stands in its place already, or passes
-- it over where it has been given up; then come zeros in the places left over (`data_put`), and the count.
use Prim.Native.Nat.{ℕ, ◌≤◌, ◌<◌}
use mathlib.Core.Path.{◌≡◌, refl, sym, ap, ap₂, ◌∙◌}
use mathlib.Core.Bool.{Bool, true, false, ◌||◌}
use mathlib.Core.List.{List}
use native.Mathlib.Omega.{arith}
use borrow.Author.Tests.{ltb-false, leb-false}
use borrow.Author.Rules.{rules}
use lib.Dec.{leb, ltb}
use lib.ListN.{length}
use Rattle.std.proofs.Math.Seq.{take_all}
use Rattle.numbers.specs.Numbers.{bytes, put}
use Rattle.state.specs.Layout.{held_at, datum_bytes}
use Rattle.state.specs.code.Tables.{data_in}
use Rattle.state.proofs.PutLaws.{data_put}
use Rattle.state.proofs.RowLaws.{live-counts}
use Rattle.state.proofs.StoreLaws.{written_none, data_room, data_skip, data_next, datum_stays, length-terms}
use Rattle.state.proofs.store.put_held.Goals as goal
use Rattle.state.proofs.store.put_held.Goals.{then-is_live, else-is_live, then-r-i, else-r-i}

-- neither a row that has moved nor one that is new
neither : (r i standing : ℕ) → (ltb r i || leb standing i) ≡ false → (i ≤ r) × (i < standing)
neither r i standing e = go (ltb r i) (leb standing i) refl refl e
  where
    go : (a b : Bool) → ltb r i ≡ a → leb standing i ≡ b → a || b ≡ false → (i ≤ r) × (i < standing)
    go false false p q e = (ltb-false r i p, leb-false standing i q)
    go false true p q e = cc
    go true b p q e = cc

pub loop-i-init : goal.loop-i-init
unfolding data_in
loop-i-init c = (search rules, written_none datum_bytes 60 24 _)

pub put_datum-requires : goal.put_datum-requires
put_datum-requires c =
    let fits = c.requires.fit.0 c.loop-i.i _ c.loop-i-test.true in (
      data_room _ c.loop-i.i _ c.loop-i-test.true _ _ _ c.loop-i.invariant.1 (sym c.is_live.ensures ∙ c.if-is_live.true) _ c.requires.few,
      omega (arith, ap length c.terms.ensures, length-terms _ fits),
      omega arith,
      fits.split,
    )

pub loop-i-preserved : goal.loop-i-preserved
loop-i-preserved c =
    let turn = c.loop-i-test.true in
    let w = c.loop-i.invariant.1 in
    elim c.if-is_live.branch [
      | then-is_live live ↦ (
        omega arith,
        let fits = c.requires.fit.0 c.loop-i.i _ turn in
            let some = sym c.is_live.ensures ∙ live.if-is_live.true in
            let few = length-terms _ fits in
            rw (live.s-is, live.r-is)
            (elim live.if-r-i.branch [
              | then-r-i v ↦ rw v.s-is (data_next _ c.loop-i.i _ turn _ _ _ w some _ few (rw v.terms.ensures at v.put_datum.ensures))
              | else-r-i v ↦ let still = neither c.loop-i.r c.loop-i.i _ v.if-r-i.false in
                  rw v.s-is (datum_stays _ c.loop-i.i _ turn _ _ _ w some few still.0 c.loop-i.invariant.0
                  (c.requires.in_place c.loop-i.i _ still.1 turn (live-counts _ _ some)))
            ]),
      )
      | else-is_live gone ↦ (omega arith, rw (gone.s-is, gone.r-is) (data_skip _ c.loop-i.i _ turn _ _ _ w (sym c.is_live.ensures ∙ gone.if-is_live.false)))
    ]

pub returns : goal.returns
returns c =
    let p = c.requires in
    let all = rw (take_all c.loop-i.i c.args.held.now c.loop-i-test.false) at c.loop-i.invariant.1 in
    c.put32.ensures
    ∙ ap₂ (λ (n : ℕ) (l : List ℕ). put held_at (bytes 4 n) l) all.counted
    (data_put _ _ _ _ _ _ all.counted all.sized p.few p.used_le_data_most.0 p.used_le_data_most.2 p.used_le_data_most.1 all.stored c.clear.ensures)
