-- `lines::commands::Command::try_from` meets its contract: the words are tested one after the other. The mathematics is `tested` of `proofs.LineLaws`.
-- Assumes nothing.
use Rattle.std.proofs.Common.{◌≡◌, true, false, ◌∙◌}
use Rattle.fields.specs.Fields.{same_bytes}
use Rattle.lines.specs.Lines.{set_command, age_command, get_command, ask_command, fewest_command}
use Rattle.lines.specs.code.Commands.{command_of}
use Rattle.lines.proofs.LineLaws.{tested}
use Rattle.lines.proofs.commands.CommandTryFromRefSliceU8.try_from.Goals as goal

pub returns-then-eq : goal.returns-then-eq
unfolding command_of
returns-then-eq c =
    let set : same_bytes c.args.word.now set_command ≡ true = tested _ _ _ _ c.as_slice.ensures c.eq.ensures ∙ c.if-eq.true in
    rw (set)

pub returns-then-eq-2 : goal.returns-then-eq-2
unfolding command_of
returns-then-eq-2 c =
    let set : same_bytes c.args.word.now set_command ≡ false = tested _ _ _ _ c.as_slice.ensures c.eq.ensures ∙ c.if-eq.false in
    let age : same_bytes c.args.word.now age_command ≡ true = tested _ _ _ _ c.as_slice-else-eq.ensures c.eq-else-eq.ensures ∙ c.if-eq-2.true in
    rw (set, age)

pub returns-then-eq-3 : goal.returns-then-eq-3
unfolding command_of
returns-then-eq-3 c =
    let set : same_bytes c.args.word.now set_command ≡ false = tested _ _ _ _ c.as_slice.ensures c.eq.ensures ∙ c.if-eq.false in
    let age : same_bytes c.args.word.now age_command ≡ false = tested _ _ _ _ c.as_slice-else-eq.ensures c.eq-else-eq.ensures ∙ c.if-eq-2.false in
    let get : same_bytes c.args.word.now get_command ≡ true = tested _ _ _ _ c.as_slice-else-eq-2.ensures c.eq-else-eq-2.ensures ∙ c.if-eq-3.true in
    rw (set, age, get)

pub returns-then-eq-4 : goal.returns-then-eq-4
unfolding command_of
returns-then-eq-4 c =
    let set : same_bytes c.args.word.now set_command ≡ false = tested _ _ _ _ c.as_slice.ensures c.eq.ensures ∙ c.if-eq.false in
    let age : same_bytes c.args.word.now age_command ≡ false = tested _ _ _ _ c.as_slice-else-eq.ensures c.eq-else-eq.ensures ∙ c.if-eq-2.false in
    let get : same_bytes c.args.word.now get_command ≡ false = tested _ _ _ _ c.as_slice-else-eq-2.ensures c.eq-else-eq-2.ensures ∙ c.if-eq-3.false in
    let ask : same_bytes c.args.word.now ask_command ≡ true = tested _ _ _ _ c.as_slice-else-eq-3.ensures c.eq-else-eq-3.ensures ∙ c.if-eq-4.true in
    rw (set, age, get, ask)

pub returns-then-eq-5 : goal.returns-then-eq-5
unfolding command_of
returns-then-eq-5 c =
    let set : same_bytes c.args.word.now set_command ≡ false = tested _ _ _ _ c.as_slice.ensures c.eq.ensures ∙ c.if-eq.false in
    let age : same_bytes c.args.word.now age_command ≡ false = tested _ _ _ _ c.as_slice-else-eq.ensures c.eq-else-eq.ensures ∙ c.if-eq-2.false in
    let get : same_bytes c.args.word.now get_command ≡ false = tested _ _ _ _ c.as_slice-else-eq-2.ensures c.eq-else-eq-2.ensures ∙ c.if-eq-3.false in
    let ask : same_bytes c.args.word.now ask_command ≡ false = tested _ _ _ _ c.as_slice-else-eq-3.ensures c.eq-else-eq-3.ensures ∙ c.if-eq-4.false in
    let fewest : same_bytes c.args.word.now fewest_command ≡ true = tested _ _ _ _ c.as_slice-else-eq-4.ensures c.eq-else-eq-4.ensures ∙ c.if-eq-5.true in
    rw (set, age, get, ask, fewest)

pub returns-else-eq-5 : goal.returns-else-eq-5
unfolding command_of
returns-else-eq-5 c =
    let set : same_bytes c.args.word.now set_command ≡ false = tested _ _ _ _ c.as_slice.ensures c.eq.ensures ∙ c.if-eq.false in
    let age : same_bytes c.args.word.now age_command ≡ false = tested _ _ _ _ c.as_slice-else-eq.ensures c.eq-else-eq.ensures ∙ c.if-eq-2.false in
    let get : same_bytes c.args.word.now get_command ≡ false = tested _ _ _ _ c.as_slice-else-eq-2.ensures c.eq-else-eq-2.ensures ∙ c.if-eq-3.false in
    let ask : same_bytes c.args.word.now ask_command ≡ false = tested _ _ _ _ c.as_slice-else-eq-3.ensures c.eq-else-eq-3.ensures ∙ c.if-eq-4.false in
    let fewest : same_bytes c.args.word.now fewest_command ≡ false = tested _ _ _ _ c.as_slice-else-eq-4.ensures c.eq-else-eq-4.ensures ∙ c.if-eq-5.false in
    rw (set, age, get, ask, fewest)
