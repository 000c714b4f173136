-- `engine::ageing::age` meets its contract: the tests stand in the definition's order; then the data and the reading are stored, which makes
-- the whole aged state (`age-put`).
use Prim.Native.Nat.{◌-◌, ◌≤◌, ◌<◌}
use mathlib.Core.Path.{◌≡◌, refl, sym, ap, ◌∙◌}
use mathlib.Core.Bool.{cond}
use native.Mathlib.Omega.{arith}
use borrow.Author.Tests.{lt-ltb, lt-leb}
use Rattle.numbers.specs.Numbers.{put, Bytes}
use Rattle.state.specs.Model.{Store, reading_limit}
use Rattle.clocks.specs.Clocks.{drift_most}
use Rattle.state.specs.Layout.{data_at, joined, datum_bytes, head_of, store_of, state_of}
use Rattle.engine.specs.Refusals.{age_refusal}
use Rattle.state.specs.Refusal.{after}
use Rattle.engine.proofs.AgeLaws.{age-tests, aged_code}
use Rattle.engine.proofs.WidenLaws.{age-put}
use borrow.Author.Rules.{rules}
use Rattle.engine.proofs.ageing.age.Goals as goal
use Rattle.engine.proofs.ageing.age.Goals.{After-drift-drift, After-stays_below}

pub returns-then-reading-last-clause-value : goal.returns-then-reading-last-clause-value
unfolding age_refusal state_of head_of
returns-then-reading-last-clause-value c =
    rw (lt-leb reading_limit c.args.reading c.if-reading-ge-READING_LIMIT.false, ← c.reading-last.ensures.value, lt-ltb c.args.reading _ c.if-reading-last.true)

-- what passed, and the drift
advance_fits : (c : After-drift-drift) → (c.args.reading - c.reading-last.result < reading_limit) × (c.drift-drift.result ≤ drift_most)
advance_fits c =
    (omega arith, c.drift-drift.ensures.in_range c.requires.1)

pub greatest_advance-hi-requires : goal.greatest_advance-hi-requires
greatest_advance-hi-requires c = advance_fits (goal.at.greatest_advance-hi-requires c).After-drift-drift

-- the refusal, when only the test of the right ends is left
tested : (c : After-stays_below) → age_refusal (state_of c.args.state.now) c.args.reading ≡ cond c.stays_below.result 0 30
tested c =
    age-tests c.args.state.now c.args.reading _ _ c.reading-last.ensures.value c.drift-drift.ensures.value
    c.requires.1 _ _ c.greatest_advance-hi.ensures.0 c.if-reading-ge-READING_LIMIT.false c.if-reading-last.false c.stays_below.ensures

pub returns-then-not-stays_below : goal.returns-then-not-stays_below
unfolding after
returns-then-not-stays_below c =
    record {
      value = sym (tested (goal.at.returns-then-not-stays_below c).After-stays_below ∙ ap (λ b. cond b 0 30) c.if-not-stays_below.true);
      state_after = refl;
    }

pub least_advance-requires : goal.least_advance-requires
least_advance-requires c = advance_fits (goal.at.least_advance-requires c).After-drift-drift

pub returns : goal.returns
unfolding after Bytes
returns c =
    let s = c.args.state.now in
    let same = aged_code s c.args.reading _ _ c.reading-last.ensures.value c.drift-drift.ensures.value _ _ (store_of s)
    c.least_advance.ensures.0 c.greatest_advance-hi.ensures.0 in record {
      value = sym (tested (goal.at.returns c).After-stays_below ∙ ap (λ b. cond b 0 30) c.if-not-stays_below.false);
      state_after = age-put s c.requires.1 (search rules) c.requires.0 c.args.reading c.widen.new.s _
          (c.widen.ensures ∙ ap (λ (k : Store). put data_at (joined datum_bytes k.held) s) same) c.put64.ensures;
    }
