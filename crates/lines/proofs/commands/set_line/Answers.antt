-- `lines::commands::set_line` meets its contract: four fields, of which two are words, set the state up; other fields are a bad line.
-- Assumes nothing.
use Rattle.std.proofs.Common.{◌≡◌, ◌<◌, ◌≤◌, ℕ, List, length, get_or, true, false, eqb, refl, arith}
use borrow.Author.Tests.{eq-eqb, ne_eqb, lt-ltb, le-ltb}
use Rattle.fields.specs.Fields.{is_word}
use Rattle.lines.specs.Lines.{set_line, bad_line}
use Rattle.lines.proofs.LineLaws.{prints_bad}
use Rattle.lines.proofs.commands.set_line.Goals as goal

pub returns-in_default : goal.returns-in_default
unfolding set_line bad_line
returns-in_default c =
    let few = ne_eqb _ _ (λ (e : length c.args.values.now ≡ 4). omega arith) in
    (rw few, rw few, (rw few, refl))

pub returns-in_default-2 : goal.returns-in_default-2
unfolding set_line bad_line
returns-in_default-2 c =
    let many = ne_eqb _ _ (λ (e : length c.args.values.now ≡ 4). omega arith) in
    (rw many, rw many, (rw many, refl))

-- four fields
four : (ns : List ℕ) → 4 ≤ length ns → length ns < 5 → eqb (length ns) 4 ≡ true
four ns h k = eq-eqb _ _ (omega arith)

pub returns-in_err-own : goal.returns-in_err-own
unfolding set_line bad_line
returns-in_err-own c =
    let ns = c.args.values.now in
    let fields = four ns c.in-len4.len_at_least c.in-len4.len_below in
    let wide : is_word (get_or ns 0 0) ≡ false = le-ltb _ _ (omega (arith, c.in_err-own.ensures)) in
    (rw (fields, wide), rw (fields, wide), rw (fields, wide) (prints_bad (bad_line c.args.begun.now c.args.state.now) _ _ c.from_residual.ensures.0 refl))

pub returns-in_err-drift : goal.returns-in_err-drift
unfolding set_line bad_line
returns-in_err-drift c =
    let ns = c.args.values.now in
    let fields = four ns c.in-len4.len_at_least c.in-len4.len_below in
    let own : is_word (get_or ns 0 0) ≡ true = lt-ltb _ _ c.in_ok-own.ensures.0 in
    let wide : is_word (get_or ns 1 0) ≡ false = le-ltb _ _ (omega (arith, c.in_err-drift.ensures)) in
    (rw (fields, own, wide), rw (fields, own, wide), rw (fields, own, wide) (prints_bad (bad_line c.args.begun.now c.args.state.now) _ _ c.from_residual-in_err-drift.ensures.0 refl))

pub returns : goal.returns
unfolding set_line bad_line
returns c =
    let ns = c.args.values.now in
    let fields = four ns c.in-len4.len_at_least c.in-len4.len_below in
    let own : is_word (get_or ns 0 0) ≡ true = lt-ltb _ _ c.in_ok-own.ensures.0 in
    let drift : is_word (get_or ns 1 0) ≡ true = lt-ltb _ _ c.in_ok-drift.ensures.0 in
    let number = rw (c.in_ok-own.ensures.1, c.in_ok-drift.ensures.1) at c.monitor_set_up-number.ensures.value in
    let state = rw (c.in_ok-own.ensures.1, c.in_ok-drift.ensures.1) at c.monitor_set_up-number.ensures.state_after in
    let printed = c.put_number.ensures in (
      rw (fields, own, drift, ← number),
      rw (fields, own, drift) state,
      (rw (fields, own, drift, ← number) printed.value, rw (fields, own, drift, ← number) printed.out_after),
    )
