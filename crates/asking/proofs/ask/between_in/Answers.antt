-- `asking::ask::between_in` meets its contract: both searches over the ends find what the answer is made of (`AskSteps`).
use mathlib.Core.Path.{◌≡◌, ap, ◌∙◌}
use native.Mathlib.Omega.{arith}
use lib.ListN.{length}
use Rattle.names.specs.code.Parts.{others}
use Rattle.search.specs.declared.stretches.Table.{Table}
use Rattle.search.proofs.StretchLaws.{first_some}
use Rattle.asking.proofs.AskSteps.{rows-count, rows_fit, ends_low, ends_ready, mirror_ready, mirror_found, between_none, between-room, between-low, between_is, free_lt}
use Rattle.asking.proofs.ask.between_in.Goals as goal

pub get_ends-scale-requires : goal.get_ends-scale-requires
get_ends-scale-requires c =
    let count = rows-count _ c.args.s.sound _ _ _ _ c.requires.fact.0 c.requires.fact.1 in
    (c.requires.room.0, omega (arith, c.requires.room.1))

pub invariant_of-table : goal.invariant_of-table
invariant_of-table c =
    let fact = c.requires.fact in
    record { ready = ends_ready _ c.args.s.sound _ _ _ _ fact.0 fact.1 _ (rw c.requires.room.1 at c.get_ends-scale.ensures.ends_after) }

pub first_end-requires : goal.first_end-requires
first_end-requires c =
    let fact = c.requires.fact in
    (rows_fit _ c.args.s.sound _ _ _ _ fact.0 fact.1, free_lt _ _ c.others-free.ensures)

pub returns-in-None : goal.returns-in-None
returns-in-None c =
    let form = c.args.s.sound in
    let fact = c.requires.fact in
    let ends = rw c.requires.room.1 at c.get_ends-scale.ensures.ends_after in
    let free-is = c.others-free.ensures ∙ ap others c.own.ensures.value in
    between_none _ form _ _ _ _ fact.0 fact.1 _ ends _ _ free-is c.requires.fact_2 _ _ (rw c.in-None.is at c.first_end.ensures.fact) (omega arith)

pub mirror-requires : goal.mirror-requires
mirror-requires c =
    let form = c.args.s.sound in
    let fact = c.requires.fact in
    let ends = rw c.requires.room.1 at c.get_ends-scale.ensures.ends_after in
    let long : length c.get_ends-scale.new.ends ≡ length c.args.rows.now = c.get_ends-scale.auto.ends ∙ c.requires.room.1 in
    λ i h. ends_low _ form _ _ _ _ fact.0 fact.1 _ ends i (omega arith)

pub invariant_of-table-2 : goal.invariant_of-table-2
invariant_of-table-2 c =
    let fact = c.requires.fact in
    let same = c.requires.room.1 in
    let long : length c.get_ends-scale.new.ends ≡ length c.args.rows.now = c.get_ends-scale.auto.ends ∙ same in
    record {
      ready = mirror_ready _ c.args.s.sound _ _ _ _ fact.0 fact.1 _ (rw same at c.get_ends-scale.ensures.ends_after) _
          (rw long at c.mirror.ensures);
    }

pub first_end-requires-2 : goal.first_end-requires-2
first_end-requires-2 c =
    let fact = c.requires.fact in
    (omega (arith, c.first_end.ensures.listed_len_unchanged, rows_fit _ c.args.s.sound _ _ _ _ fact.0 fact.1), free_lt _ _ c.others-free.ensures)

pub unwrap-right-requires : goal.unwrap-right-requires
unwrap-right-requires c =
    let form = c.args.s.sound in
    let fact = c.requires.fact in
    let same = c.requires.room.1 in
    let long : length c.get_ends-scale.new.ends ≡ length c.args.rows.now = c.get_ends-scale.auto.ends ∙ same in
    let ends = rw same at c.get_ends-scale.ensures.ends_after in
    let seen = rw long at c.mirror.ensures in
    let free-is = c.others-free.ensures ∙ ap others c.own.ensures.value in
    let first = rw c.in-Some.is at c.first_end.ensures.fact in
    let turned : Table = record { rows = c.args.rows; ends = record { ref_ptr = (0, 0); now = c.mirror.new.ends }; order = c.args.order; entries = c.args.n; ready = mirror_ready _ form _ _ _ _ fact.0 fact.1 _ ends _ seen } in
    first_some turned _ _ _ c.first_end-2.ensures.fact (λ end set last.
    mirror_found _ form _ _ _ _ fact.0 fact.1 _ ends _ seen _ _ free-is c.requires.fact_2 _ _ end set first.1 first.0 last)

pub overflow_sub-right : goal.overflow_sub-right
overflow_sub-right c =
    let form = c.args.s.sound in
    let fact = c.requires.fact in
    let same = c.requires.room.1 in
    let long : length c.get_ends-scale.new.ends ≡ length c.args.rows.now = c.get_ends-scale.auto.ends ∙ same in
    let ends = rw same at c.get_ends-scale.ensures.ends_after in
    let seen = rw long at c.mirror.ensures in
    let free-is = c.others-free.ensures ∙ ap others c.own.ensures.value in
    let first = rw c.in-Some.is at c.first_end.ensures.fact in
    let last = rw c.unwrap-right.ensures at c.first_end-2.ensures.fact in
    between-room _ form _ _ _ _ fact.0 fact.1 _ ends _ seen _ _ free-is c.requires.fact_2 _ _ _ _ first.1 first.0 last.1

pub rounded-requires : goal.rounded-requires
rounded-requires c =
    let form = c.args.s.sound in
    let fact = c.requires.fact in
    let same = c.requires.room.1 in
    let long : length c.get_ends-scale.new.ends ≡ length c.args.rows.now = c.get_ends-scale.auto.ends ∙ same in
    let ends = rw same at c.get_ends-scale.ensures.ends_after in
    let seen = rw long at c.mirror.ensures in
    let free-is = c.others-free.ensures ∙ ap others c.own.ensures.value in
    let first = rw c.in-Some.is at c.first_end.ensures.fact in
    let last = rw c.unwrap-right.ensures at c.first_end-2.ensures.fact in
    between-low _ form _ _ _ _ fact.0 fact.1 _ ends _ seen _ _ free-is c.requires.fact_2 _ _ _ _ first.1 first.0 last.1 _ c.get_ends-scale.ensures.value

pub returns : goal.returns
returns c =
    let form = c.args.s.sound in
    let fact = c.requires.fact in
    let same = c.requires.room.1 in
    let long : length c.get_ends-scale.new.ends ≡ length c.args.rows.now = c.get_ends-scale.auto.ends ∙ same in
    let ends = rw same at c.get_ends-scale.ensures.ends_after in
    let seen = rw long at c.mirror.ensures in
    let free-is = c.others-free.ensures ∙ ap others c.own.ensures.value in
    let first = rw c.in-Some.is at c.first_end.ensures.fact in
    let last = rw c.unwrap-right.ensures at c.first_end-2.ensures.fact in
    c.rounded.ensures
    ∙ between_is _ form _ _ _ _ fact.0 fact.1 _ ends _ seen _ _ free-is c.requires.fact_2 _ _ _ _ first.1 first.0 last.1 _ c.get_ends-scale.ensures.value
