-- Tables: lines that are good or bad by their fields, and the lines that answers print, those of document 01's listing among them. Each row is an
-- equation with a text that is written out. The answers themselves are a table of `runs`. Assumes nothing: these are definitions.
use Rattle.std.specs.Prelude.{ℕ, ◌-◌, ◌^◌, ◌≡◌, Bool, true, false, List, [], ◌∷◌, ◌++◌}
use Prim.Native.Char.{code}
use Prim.Native.String.{String, len, char_at}
use Rattle.predicates.specs.Lists.{In}
use Rattle.numbers.specs.Numbers.{tab}
use Rattle.asking.specs.declared.Answer.TheVariants.{Contradicted, Open, Between}
use Rattle.asking.specs.Fewest.{Over, Few}
use Rattle.lines.specs.Text.{bad_text, number_text, answer_text, fewest_text}
use Rattle.lines.specs.Lines.{line_result}

-- ---- a case

-- a text as its bytes
unfoldable pub ascii : String → List ℕ
ascii s = tab (len s) (λ i. code (char_at s i))

-- a line, and the line that it must print
pub record LineCase : Type 0 where
  pub line : String
  pub prints : String

abbrev pub line_case : String → String → LineCase
line_case line prints = record { line = line; prints = prints }

-- what a line prints, with its line feed
abbrev pub printed_line : String → List ℕ
printed_line text = ascii text ++ (10 ∷ [])

-- the line prints what it must, and leaves all as it was, so that the next line begins where it did
abbrev pub LineComes : LineCase → Bool → List ℕ → Type 0
LineComes l begun s = line_result (ascii l.line) begun s ≡ record { begun = begun; state = s; text = printed_line l.prints }

-- ---- good and bad lines

-- before a taken `set`; the buffer is too short, so a good `set` line is refused with 24
unfoldable pub early_lines : List LineCase
early_lines =
    line_case "set 5 100 0 0" "refused 24"
    ∷ line_case "ask 0" "bad line"
    ∷ line_case "fewest" "bad line"
    ∷ []

-- after one: on a buffer that is too short every good line is refused with 24
unfoldable pub later_lines : List LineCase
later_lines =
    line_case "set 05 00000000000000000100 18446744073709551615 18446744073709551615" "refused 24"
    ∷ line_case "set 4294967295 4294967295 0 0" "refused 24"
    ∷ line_case "set 4294967296 0 0 0" "bad line"
    ∷ line_case "set 0 4294967296 0 0" "bad line"
    ∷ line_case "set 0 0 18446744073709551616 0" "bad line"
    ∷ line_case "set 0 0 0 18446744073709551616" "bad line"
    ∷ line_case "set 5 100 0" "bad line"
    ∷ line_case "set 5 100 0 0 0" "bad line"
    ∷ line_case "age 2000000" "refused 24"
    ∷ line_case "age 000000000000000000001" "bad line"
    ∷ line_case "get 0 0" "refused 24"
    ∷ line_case "get 0 0 4294967295" "refused 24"
    ∷ line_case "get 0 0 4294967296" "bad line"
    ∷ line_case "get 0" "bad line"
    ∷ line_case "ask 0" "refused 24"
    ∷ line_case "ask  0" "bad line"
    ∷ line_case "ask 0 " "bad line"
    ∷ line_case " ask 0" "bad line"
    ∷ line_case "ask 0\r" "bad line"
    ∷ line_case "ask +0" "bad line"
    ∷ line_case "ask" "bad line"
    ∷ line_case "fewest" "refused 24"
    ∷ line_case "fewest 0" "bad line"
    ∷ line_case "fewer" "bad line"
    ∷ line_case "" "bad line"
    ∷ []

-- each line prints its text, before a taken `set` and after one
unfoldable pub EachLine : Type 0
EachLine = ((l : LineCase) → In l early_lines → LineComes l false []) × ((l : LineCase) → In l later_lines → LineComes l true [])

-- ---- the lines that are printed

-- bytes that are printed, and the line that they must be
pub record Printed : Type 0 where
  pub text : List ℕ
  pub line : String

abbrev pub printed : List ℕ → String → Printed
printed text line = record { text = text; line = line }

abbrev pub PrintedComes : Printed → Type 0
PrintedComes p = p.text ≡ printed_line p.line

-- those of document 01's listing, its first two answers as document 02 (W-202) has them, and the longest numbers
unfoldable pub answers : List Printed
answers =
    printed (number_text 0) "ok"
    ∷ printed (answer_text (Between 1_000_000 1_000_251)) "between 1000000 1000251"
    ∷ printed (answer_text (Between 2_999_800 3_000_451)) "between 2999800 3000451"
    ∷ printed (answer_text Contradicted) "contradicted"
    ∷ printed (answer_text (Between 2_999_800 3_001_000)) "between 2999800 3001000"
    ∷ printed (answer_text Open) "open"
    ∷ printed (fewest_text (Few 1 2)) "fewest 1 2"
    ∷ printed (fewest_text (Few 0 0)) "fewest 0 0"
    ∷ printed (fewest_text Over) "fewest over 4"
    ∷ printed (number_text 32) "refused 32"
    ∷ printed (answer_text (Between 0 (2 ^ 58 - 1))) "between 0 288230376151711743"
    ∷ printed (answer_text (Between 9 (2 ^ 64 - 1))) "between 9 18446744073709551615"
    ∷ printed bad_text "bad line"
    ∷ []

-- each text is the line that it must be
unfoldable pub EachPrinted : Type 0
EachPrinted = (p : Printed) → In p answers → PrintedComes p
