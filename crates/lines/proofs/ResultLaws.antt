-- No line that the listing prints is longer than 64 bytes: the law by which a caller of `lines::answer` knows that its output has room.
-- The idea: each result is a choice between texts that are short. No contract cites this file. Assumes nothing.
use Prim.Native.Nat.{ℕ, ◌≤◌}
use mathlib.Core.Bool.{Bool, ◌&&◌}
use mathlib.Core.List.{List, [], ◌∷◌, map}
use native.Mathlib.Omega.{arith}
use lib.Dec.{ltb, leb, eqb}
use lib.ListN.{length, get_or, drop}
use Rattle.std.specs.List.{list_all}
use Rattle.predicates.proofs.ListLaws.{cond_ind}
use Rattle.fields.specs.Fields.{fields, value, is_number, is_word, same_bytes}
use Rattle.lines.specs.Lines.{set_command, age_command, get_command, ask_command, fewest_command}
use Rattle.lines.specs.code.Sizes.{answer_most}
use Rattle.lines.specs.Lines.{line_most, LineResult, bad_line, set_line, age_line, get_line, answered_text, ask_text, ask_line, fewest_answer, fewest_line}
use Rattle.lines.specs.Lines.{later_line, word_line, fields_line, line_result}
use Rattle.lines.proofs.TextLaws.{number-length, answer-length, fewest-length}

-- the text of a result is short
abbrev Short : LineResult → Type 0
Short r = length r.text ≤ answer_most

bad_short : (begun : Bool) (s : List ℕ) → Short (bad_line begun s)
unfolding bad_line
bad_short begun s = omega arith

answered_short : (number : ℕ) (text : List ℕ) → length text ≤ answer_most → length (answered_text number text) ≤ answer_most
unfolding answered_text
answered_short number text h = cond_ind (λ (l : List ℕ). length l ≤ answer_most) (eqb number 0) _ _ (λ _. h) (λ _. number-length number)

set_short : (ns : List ℕ) (begun : Bool) (s : List ℕ) → Short (set_line ns begun s)
unfolding set_line
set_short ns begun s = cond_ind Short (eqb (length ns) 4 && (is_word (get_or ns 0 0) && is_word (get_or ns 1 0))) _ _ (λ _. number-length _) (λ _. bad_short begun s)

later_short : (word ns s : List ℕ) → Short (later_line word ns s)
unfolding later_line age_line get_line ask_line ask_text fewest_line fewest_answer
later_short word ns s =
    cond_ind Short (same_bytes word age_command) _ _ (λ _. cond_ind Short (eqb (length ns) 1) _ _ (λ _. number-length _) (λ _. bad_short _ s))
    (λ _. cond_ind Short (same_bytes word get_command) _ _
    (λ _. cond_ind Short (leb 2 (length ns) && list_all is_word (drop 2 ns)) _ _ (λ _. number-length _) (λ _. bad_short _ s))
    (λ _. cond_ind Short (same_bytes word ask_command) _ _
    (λ _. cond_ind Short (eqb (length ns) 1) _ _ (λ _. answered_short _ _ (answer-length _)) (λ _. bad_short _ s))
    (λ _. cond_ind Short (same_bytes word fewest_command) _ _
    (λ _. cond_ind Short (eqb (length ns) 0) _ _ (λ _. answered_short _ _ (fewest-length _)) (λ _. bad_short _ s))
    (λ _. bad_short _ s))))

fields_short : (fs : List (List ℕ)) (begun : Bool) (s : List ℕ) → Short (fields_line fs begun s)
unfolding fields_line word_line
fields_short [] begun s = bad_short begun s
fields_short (word ∷ fs) begun s =
    cond_ind Short (list_all is_number fs) _ _
    (λ _. cond_ind Short (same_bytes word set_command) _ _ (λ _. set_short (map value fs) begun s)
    (λ _. cond_ind Short begun _ _ (λ _. later_short word (map value fs) s) (λ _. bad_short begun s)))
    (λ _. bad_short begun s)

pub line_short : (line : List ℕ) (begun : Bool) (s : List ℕ) → length (line_result line begun s).text ≤ answer_most
unfolding line_result
line_short line begun s = cond_ind Short (ltb line_most (length line)) _ _ (λ _. bad_short begun s) (λ _. fields_short (fields line) begun s)
