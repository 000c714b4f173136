-- `settling::place` meets its contract: step 3, then rule 14 both ways; a datum that is stored is put last (`data-put`).
use Prim.Native.Nat.{◌<◌}
use mathlib.Core.Path.{◌≡◌, sym, ap, ◌∙◌}
use mathlib.Core.Bool.{not}
use mathlib.Core.List.{List, [], ◌∷◌, ◌++◌}
use native.Mathlib.Omega.{arith}
use lib.ListN.{length, take, drop, length-append, length-drop}
use Rattle.std.specs.List.{filter}
use Rattle.std.specs.Prelude.{All}
use Rattle.std.proofs.lemmas.List.{length-take-le}
use Rattle.std.proofs.lemmas.List.Elements.{All-push}
use Rattle.state.specs.Model.{Datum}
use Rattle.state.specs.code.Tables.{HeldFits, terms_of, datum_of, datum_in, data_in}
use Rattle.steps.specs.Steps.{same, betters}
use Rattle.steps.proofs.HeldLaws.{gone-data}
use Rattle.settling.specs.code.Rows.{DataLeft}
use Rattle.settling.proofs.LeftLaws.{fits-gone, fits-first, left-gone, left-first, left-trans, left-behind, left-put, taken-front, taken-put, data-put}
use Rattle.settling.proofs.SettleLaws.{stored-kept, stored-new}
use Rattle.settling.proofs.place.Goals as goal
use Rattle.settling.proofs.place.Goals.{After-meet-ends, After-drop_bettered}

-- the rows that are lent, and what step 3 leaves of them
lent : (c : After-meet-ends) → length (take c.args.h c.args.held.now) ≡ c.args.h
lent c = length-take-le c.args.h c.args.held.now (omega (arith, c.requires.fit.1))

met-fits : (c : After-meet-ends) → All HeldFits c.meet-ends.new.held
met-fits c = rw c.meet-ends.ensures.held_after (fits-first (λ r. same (terms_of r) c.args.p.now) (take c.args.h c.args.held.now) c.requires.fit.0)

met-left : (c : After-meet-ends) → DataLeft (take c.args.h c.args.held.now) c.meet-ends.new.held
met-left c = rw c.meet-ends.ensures.held_after (left-first (λ r. same (terms_of r) c.args.p.now) (take c.args.h c.args.held.now))

pub bettered-requires : goal.bettered-requires
bettered-requires c = (met-fits (goal.at.bettered-requires c).After-meet-ends, c.meet-ends.ensures.fact.1)

pub drop_bettered-requires : goal.drop_bettered-requires
drop_bettered-requires c = (met-fits (goal.at.drop_bettered-requires c).After-meet-ends, c.meet-ends.ensures.fact.1)

pub returns-then-bettered : goal.returns-then-bettered
returns-then-bettered c =
    let a = (goal.at.returns-then-bettered c).After-meet-ends in
    let met = c.meet-ends.ensures in
    let front = taken-front c.meet-ends.new.held (drop c.args.h c.args.held.now) c.args.h (c.meet-ends.auto.held ∙ lent a) in
    record {
      fact = (omega arith, rw front (met-fits a), left-behind _ _ (drop c.args.h c.args.held.now) c.meet-ends.auto.held (met-left a));
      data_after = rw front (rw (← met.fact.0, ← met.data_after) (stored-kept _ _ (sym c.bettered.ensures ∙ c.if-bettered.true)));
    }

-- what rule 14 leaves of them
worse-left : (c : After-drop_bettered) → DataLeft (take c.args.h c.args.held.now) c.meet-ends.new.held → DataLeft (take c.args.h c.args.held.now) c.drop_bettered.new.held
worse-left c l =
    left-trans _ c.meet-ends.new.held _ c.meet-ends.auto.held l
    (rw c.drop_bettered.ensures (left-gone (λ r. betters (datum_of c.meet-ends.result c.args.p.now) (datum_in r)) c.meet-ends.new.held))

worse-data : (c : After-drop_bettered) → data_in c.drop_bettered.new.held ≡ filter (λ d. not (betters (datum_of c.meet-ends.result c.args.p.now) d)) (data_in c.meet-ends.new.held)
worse-data c = rw c.drop_bettered.ensures (gone-data (betters (datum_of c.meet-ends.result c.args.p.now)) c.meet-ends.new.held)

pub returns : goal.returns
returns c =
    let a = (goal.at.returns c).After-drop_bettered in
    let m = (goal.at.returns c).After-meet-ends in
    let n = datum_of c.meet-ends.result c.args.p.now in
    let met = c.meet-ends.ensures in
    let b = c.drop_bettered.new.held in
    let rest = drop c.args.h c.args.held.now in
    let long : length b ≡ c.args.h = c.drop_bettered.auto.held ∙ c.meet-ends.auto.held ∙ lent m in
    let room : c.args.h < length (b ++ rest) = omega (arith, length-append b rest, length-drop c.args.h c.args.held.now, c.requires.fit.1) in
    let all = taken-put b rest c.args.h long c.new.result room in
    let fits : All HeldFits b = rw c.drop_bettered.ensures (fits-gone (λ r. betters n (datum_in r)) c.meet-ends.new.held (met-fits m)) in
    let last : HeldFits c.new.result = record { narrow = omega (arith, c.new.ensures.2, c.requires.p_nonzero.1); split = rw c.new.ensures.1 met.fact.1 } in
    record {
      fact = (
        omega arith,
        rw all (All-push HeldFits b c.new.result fits last),
        left-put _ _ c.args.h c.new.result (omega (arith, lent m)) (left-behind _ b rest (c.drop_bettered.auto.held ∙ c.meet-ends.auto.held) (worse-left a (met-left m))),
      );
      data_after = rw all (data-put b c.new.result c.meet-ends.result c.args.p.now c.new.ensures.0 c.requires.p_nonzero.0
          ∙ ap (λ (l : List Datum). l ++ (n ∷ [])) (worse-data a)
          ∙ rw (← met.fact.0, ← met.data_after) (stored-new n (data_in c.meet-ends.new.held) (sym c.bettered.ensures ∙ c.if-bettered.false)));
    }
