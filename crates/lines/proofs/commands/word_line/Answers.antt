-- `lines::commands::word_line` meets its contract: `set` at any time, another command after a taken `set` only. The mathematics is `word-some` and
-- `word-none` of `proofs.LineLaws`. Assumes nothing.
use Rattle.std.proofs.Common.{◌≡◌, Some, true, refl, sym, ap, ◌∙◌}
use Rattle.lines.specs.Lines.{bad_line}
use Rattle.lines.specs.declared.commands.Command.TheVariants.{Set, Age, Get, Ask, Fewest}
use Rattle.lines.specs.code.Commands.{needs_set}
use Rattle.lines.proofs.LineLaws.{ask-state, fewest-state, prints_bad, word-none, word-some, command-begun}
use Rattle.lines.proofs.commands.word_line.Goals as goal
use Rattle.lines.proofs.commands.word_line.Goals.{else-needs_set-via-then-needs_set+else-not-begun, else-needs_set-via-else-needs_set}

pub returns-in_err-command : goal.returns-in_err-command
unfolding bad_line
returns-in_err-command c =
    let none = word-none _ c.args.values.now c.args.begun.now c.args.state.now (sym c.in_err-command.ensures) in
    (rw none, rw none, rw none (prints_bad (bad_line c.args.begun.now c.args.state.now) _ _ c.from_residual.ensures.0 refl))

pub returns-then-not-begun : goal.returns-then-not-begun
unfolding bad_line
returns-then-not-begun c =
    let word = word-some _ c.args.values.now c.args.begun.now c.args.state.now _ (sym c.in_ok-command.ensures) in
    let needs = sym c.needs_set.ensures ∙ c.if-needs_set.true in
    let before = c.if-not-begun.true in
    (rw (word, needs, before), rw (word, needs, before), (rw (word, needs, before), refl))

pub returns-in-Set : goal.returns-in-Set
returns-in-Set c =
    let word = word-some _ c.args.values.now c.args.begun.now c.args.state.now Set (sym c.in_ok-command.ensures ∙ ap Some c.in-Set.is) in
    rw word c.set_line.ensures

pub returns-in-Age : goal.returns-in-Age
returns-in-Age c =
    let ns = c.args.values.now in
    let s = c.args.state.now in
    let needs : c.needs_set.result ≡ true = c.needs_set.ensures ∙ ap needs_set c.in-Age.is in
    let begun : c.args.begun.now ≡ true =
    elim c.else-needs_set.branch [ else-needs_set-via-then-needs_set+else-not-begun w ↦ w.if-not-begun.false | else-needs_set-via-else-needs_set w ↦ (cc (needs, w.if-needs_set.false)) ] in
    let word = rw begun at (word-some _ ns c.args.begun.now s Age (sym c.in_ok-command.ensures ∙ ap Some c.in-Age.is)) in
    let told = c.age_line.ensures in
    (rw (begun, word) (sym (command-begun Age ns s)), rw (begun, word) told.0, rw (begun, word) told.1)

pub returns-in-Get : goal.returns-in-Get
returns-in-Get c =
    let ns = c.args.values.now in
    let s = c.args.state.now in
    let needs : c.needs_set.result ≡ true = c.needs_set.ensures ∙ ap needs_set c.in-Get.is in
    let begun : c.args.begun.now ≡ true =
    elim c.else-needs_set.branch [ else-needs_set-via-then-needs_set+else-not-begun w ↦ w.if-not-begun.false | else-needs_set-via-else-needs_set w ↦ (cc (needs, w.if-needs_set.false)) ] in
    let word = rw begun at (word-some _ ns c.args.begun.now s Get (sym c.in_ok-command.ensures ∙ ap Some c.in-Get.is)) in
    let told = c.get_line.ensures in
    (rw (begun, word) (sym (command-begun Get ns s)), rw (begun, word) told.0, rw (begun, word) told.1)

pub returns-in-Ask : goal.returns-in-Ask
returns-in-Ask c =
    let ns = c.args.values.now in
    let s = c.args.state.now in
    let needs : c.needs_set.result ≡ true = c.needs_set.ensures ∙ ap needs_set c.in-Ask.is in
    let begun : c.args.begun.now ≡ true =
    elim c.else-needs_set.branch [ else-needs_set-via-then-needs_set+else-not-begun w ↦ w.if-not-begun.false | else-needs_set-via-else-needs_set w ↦ (cc (needs, w.if-needs_set.false)) ] in
    let word = rw begun at (word-some _ ns c.args.begun.now s Ask (sym c.in_ok-command.ensures ∙ ap Some c.in-Ask.is)) in
    let told = c.ask_line.ensures in
    (rw (begun, word) (sym (command-begun Ask ns s)), rw (begun, word) (sym (ask-state ns s)), rw (begun, word) told)

pub returns-in-Fewest : goal.returns-in-Fewest
returns-in-Fewest c =
    let ns = c.args.values.now in
    let s = c.args.state.now in
    let needs : c.needs_set.result ≡ true = c.needs_set.ensures ∙ ap needs_set c.in-Fewest.is in
    let begun : c.args.begun.now ≡ true =
    elim c.else-needs_set.branch [ else-needs_set-via-then-needs_set+else-not-begun w ↦ w.if-not-begun.false | else-needs_set-via-else-needs_set w ↦ (cc (needs, w.if-needs_set.false)) ] in
    let word = rw begun at (word-some _ ns c.args.begun.now s Fewest (sym c.in_ok-command.ensures ∙ ap Some c.in-Fewest.is)) in
    let told = c.fewest_line.ensures in
    (rw (begun, word) (sym (command-begun Fewest ns s)), rw (begun, word) (sym (fewest-state ns s)), rw (begun, word) told)
