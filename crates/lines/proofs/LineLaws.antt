-- Laws of `specs.Lines`: the message of a `get` line, what a line leaves as it was, and a line by its fields.
-- No contract cites this file. Assumes nothing.
use Prim.Native.Nat.{ℕ, ◌*◌, ◌-◌, ◌≤◌, ◌<◌}
use mathlib.Core.Path.{◌≡◌, refl, sym, ap, ◌∙◌}
use mathlib.Core.Bool.{Bool, true, false, ◌&&◌, not, cond}
use mathlib.Core.List.{List, [], ◌∷◌, map}
use Rattle.std.specs.Prelude.{None, Some, Result, Ok, Err}
use Rattle.std.specs.Result.{is_err}
use Rattle.std.specs.Cmp.Lexicographic.{pointwise}
use native.Mathlib.Omega.{arith}
use borrow.Author.Tests.{lt-ltb, le-ltb}
use lib.Dec.{leb, eqb}
use lib.ListN.{length, get_or, take, drop, length-drop}
use lib.Seq.{take_all}
use Rattle.std.specs.List.{list_all}
use Rattle.predicates.proofs.ListLaws.{cond_ind}
use Rattle.numbers.specs.Numbers.{put, bytes_of}
use Rattle.numbers.proofs.NumberLaws.{length-bytes_of, take_put}
use Rattle.fields.specs.Fields.{fields, value, is_number, is_word, same_bytes}
use Rattle.fields.specs.code.Scan.{later, space_at}
use Rattle.fields.proofs.FieldLaws.{first_field}
use Rattle.lines.specs.Lines.{line_most, LineResult, bad_line, set_line, age_line, get_line, ask_line, fewest_line, later_line, word_line, fields_line, line_result}
use Rattle.lines.specs.Lines.{set_command, age_command, get_command, ask_command, fewest_command}
use Rattle.lines.specs.declared.commands.Command.{Command}
use Rattle.lines.specs.declared.commands.Command.TheVariants.{Set, Age, Get, Ask, Fewest}
use Rattle.lines.specs.Text.{bad_text}
use Rattle.lines.specs.declared.BadLine.{BadLine}
use Rattle.lines.specs.code.Outcomes.{Prints}
use Rattle.lines.specs.code.Commands.{command_of, needs_set, carried_out}

-- ---- the message of a `get` line

-- the part of the fields behind the two delays
pub behind_two : (ns : List ℕ) → take (length ns - 2) (drop 2 ns) ≡ drop 2 ns
behind_two ns = take_all (length ns - 2) (drop 2 ns) (omega (arith, length-drop 2 ns))

-- the bytes of words at the front of a buffer
pub message_at_front : (ws m₀ m : List ℕ) → length ws * 4 ≤ length m₀ → m ≡ put 0 (bytes_of ws) m₀ → take (length ws * 4) m ≡ bytes_of ws
message_at_front ws m₀ m h e = rw e (take_put _ (bytes_of ws) m₀ (length-bytes_of ws) h)

-- ---- what stays

pub ask-state : (ns s : List ℕ) → (ask_line ns s).state ≡ s
unfolding ask_line bad_line
ask-state ns s = cond_ind (λ (r : LineResult). r.state ≡ s) (eqb (length ns) 1) _ _ (λ _. refl) (λ _. refl)

pub fewest-state : (ns s : List ℕ) → (fewest_line ns s).state ≡ s
unfolding fewest_line bad_line
fewest-state ns s = cond_ind (λ (r : LineResult). r.state ≡ s) (eqb (length ns) 0) _ _ (λ _. refl) (λ _. refl)

-- after a taken `set` every line leaves it taken
later-begun : (ns s : List ℕ) → ((age_line ns s).begun ≡ true) × ((get_line ns s).begun ≡ true) × ((ask_line ns s).begun ≡ true) × ((fewest_line ns s).begun ≡ true)
unfolding age_line get_line ask_line fewest_line bad_line
later-begun ns s =
    let P : LineResult → Type 0 = (λ r. r.begun ≡ true) in (
      cond_ind P (eqb (length ns) 1) _ _ (λ _. refl) (λ _. refl),
      cond_ind P (leb 2 (length ns) && list_all is_word (drop 2 ns)) _ _ (λ _. refl) (λ _. refl),
      cond_ind P (eqb (length ns) 1) _ _ (λ _. refl) (λ _. refl),
      cond_ind P (eqb (length ns) 0) _ _ (λ _. refl) (λ _. refl),
    )

-- ---- a bad line

pub prints_bad : (answer : LineResult) (r : Result ℕ BadLine) (out : List ℕ) → is_err r ≡ true → answer.text ≡ bad_text → Prints answer r out out
prints_bad answer (Ok size) out h e = absurd (cc)
prints_bad answer (Err b) out h e = (e, refl)

-- ---- the command words

pub pointwise_same : (a b : List ℕ) → pointwise eqb a b ≡ same_bytes a b
unfolding same_bytes
pointwise_same [] [] = refl
pointwise_same [] (y ∷ ys) = refl
pointwise_same (x ∷ xs) [] = refl
pointwise_same (x ∷ xs) (y ∷ ys) = ap (λ t. eqb x y && t) (pointwise_same xs ys)

-- what `==` says of a word
pub tested : (word text xs : List ℕ) (r : Bool) → xs ≡ text → r ≡ pointwise eqb word xs → same_bytes word text ≡ r
tested word text xs r e f = sym (f ∙ rw e (pointwise_same word text))

-- a word that names no command is a bad line, before a taken `set` too
no-command : (a g k f : Bool) (set begun : Bool) (ns s : List ℕ) (x : LineResult) →
    cond set (Some Set) (cond a (Some Age) (cond g (Some Get) (cond k (Some Ask) (cond f (Some Fewest) None)))) ≡ None →
    cond set x (cond begun (cond a (age_line ns s) (cond g (get_line ns s) (cond k (ask_line ns s) (cond f (fewest_line ns s) (bad_line true s))))) (bad_line begun s))
    ≡ bad_line begun s
no-command a g k f true begun ns s x e = absurd (cc)
no-command true g k f false begun ns s x e = absurd (cc)
no-command false true k f false begun ns s x e = absurd (cc)
no-command false false true f false begun ns s x e = absurd (cc)
no-command false false false true false begun ns s x e = absurd (cc)
no-command false false false false false true ns s x e = refl
no-command false false false false false false ns s x e = refl

pub word-none : (word ns : List ℕ) (begun : Bool) (s : List ℕ) → command_of word ≡ None → word_line word ns begun s ≡ bad_line begun s
unfolding word_line later_line command_of
word-none word ns begun s e =
    no-command (same_bytes word age_command) (same_bytes word get_command) (same_bytes word ask_command) (same_bytes word fewest_command)
    (same_bytes word set_command) begun ns s (set_line ns begun s) e

-- one that names a command is carried out where that may be
a-command : (a g k f : Bool) (set begun : Bool) (ns s : List ℕ) (c : Command) →
    cond set (Some Set) (cond a (Some Age) (cond g (Some Get) (cond k (Some Ask) (cond f (Some Fewest) None)))) ≡ Some c →
    cond set (set_line ns begun s)
    (cond begun (cond a (age_line ns s) (cond g (get_line ns s) (cond k (ask_line ns s) (cond f (fewest_line ns s) (bad_line true s))))) (bad_line begun s))
    ≡ cond (needs_set c && not begun) (bad_line begun s) (carried_out c ns begun s)
a-command a g k f true begun ns s c e = let is : c ≡ Set = cc in rw is
a-command true g k f false true ns s c e = let is : c ≡ Age = cc in rw is
a-command true g k f false false ns s c e = let is : c ≡ Age = cc in rw is
a-command false true k f false true ns s c e = let is : c ≡ Get = cc in rw is
a-command false true k f false false ns s c e = let is : c ≡ Get = cc in rw is
a-command false false true f false true ns s c e = let is : c ≡ Ask = cc in rw is
a-command false false true f false false ns s c e = let is : c ≡ Ask = cc in rw is
a-command false false false true false true ns s c e = let is : c ≡ Fewest = cc in rw is
a-command false false false true false false ns s c e = let is : c ≡ Fewest = cc in rw is
a-command false false false false false begun ns s c e = absurd (cc)

pub word-some : (word ns : List ℕ) (begun : Bool) (s : List ℕ) (c : Command) → command_of word ≡ Some c →
    word_line word ns begun s ≡ cond (needs_set c && not begun) (bad_line begun s) (carried_out c ns begun s)
unfolding word_line later_line command_of
word-some word ns begun s c e =
    a-command (same_bytes word age_command) (same_bytes word get_command) (same_bytes word ask_command) (same_bytes word fewest_command)
    (same_bytes word set_command) begun ns s c e

-- after a taken `set` a command leaves it taken
pub command-begun : (c : Command) (ns s : List ℕ) → (carried_out c ns true s).begun ≡ true
unfolding set_line bad_line
command-begun Set ns s = cond_ind (λ (r : LineResult). r.begun ≡ true) (eqb (length ns) 4 && (is_word (get_or ns 0 0) && is_word (get_or ns 1 0))) _ _ (λ _. refl) (λ _. refl)
command-begun Age ns s = (later-begun ns s).0
command-begun Get ns s = (later-begun ns s).1
command-begun Ask ns s = (later-begun ns s).2
command-begun Fewest ns s = (later-begun ns s).3

-- ---- a line: its length, and its fields

pub line-long : (line s : List ℕ) (begun : Bool) → line_most < length line → line_result line begun s ≡ bad_line begun s
unfolding line_result
line-long line s begun h = rw (lt-ltb _ _ h)

pub line-fields : (line s : List ℕ) (begun : Bool) → length line ≤ line_most →
    line_result line begun s
    ≡ cond (list_all is_number (later (fields line))) (word_line (take (space_at line) line) (map value (later (fields line))) begun s) (bad_line begun s)
unfolding line_result fields_line
line-fields line s begun h = rw (le-ltb _ _ h) (ap (λ fs. fields_line fs begun s) (first_field line))
