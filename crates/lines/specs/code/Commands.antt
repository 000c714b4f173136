-- Definitions that serve the code alone: no statement of document 01 cites this file.
-- The commands as the code names them. Assumes nothing: these are definitions.
use Rattle.std.specs.Prelude.{ℕ, ◌≡◌, Bool, true, false, Option, None, Some, Result, cond, List}
use Rattle.std.specs.Result.{result_ok}
use Rattle.std.specs.Borrow.{Bor}
use Rattle.fields.specs.Fields.{same_bytes}
use Rattle.lines.specs.Lines.{LineResult, set_line, age_line, get_line, ask_line, fewest_line}
use Rattle.lines.specs.Lines.{set_command, age_command, get_command, ask_command, fewest_command}
use Rattle.lines.specs.declared.BadLine.{BadLine}
use Rattle.lines.specs.declared.commands.Command.{Command}
use Rattle.lines.specs.declared.commands.Command.TheVariants.{Set, Age, Get, Ask, Fewest}

-- the command that a word names
unfoldable pub command_of : List ℕ → Option Command
command_of word =
    cond (same_bytes word set_command) (Some Set)
    (cond (same_bytes word age_command) (Some Age)
    (cond (same_bytes word get_command) (Some Get)
    (cond (same_bytes word ask_command) (Some Ask)
    (cond (same_bytes word fewest_command) (Some Fewest) None))))

-- whether a `set` has to be taken before
abbrev pub needs_set : Command → Bool
needs_set Set = false
needs_set Age = true
needs_set Get = true
needs_set Ask = true
needs_set Fewest = true

-- what a command leaves where it may be carried out
abbrev pub carried_out : Command → List ℕ → Bool → List ℕ → LineResult
carried_out Set ns begun s = set_line ns begun s
carried_out Age ns begun s = age_line ns s
carried_out Get ns begun s = get_line ns s
carried_out Ask ns begun s = ask_line ns s
carried_out Fewest ns begun s = fewest_line ns s

-- a word, and the command that it names, or an error
abbrev pub Names : Bor (List ℕ) → Result Command BadLine → Type 0
Names word r = result_ok r ≡ command_of word.now
