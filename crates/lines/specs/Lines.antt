-- A line of the listing (document 01, "A listing, complete"): what it leaves and prints. A line is its bytes without the line feed.
-- Assumes nothing: these are definitions.
use Rattle.std.specs.Prelude.{ℕ, Bool, true, ◌&&◌, ◌||◌, cond, List, [], ◌∷◌, map, ltb, leb, eqb, length, get_or, drop, replicate}
use Rattle.std.specs.List.{list_all}
use Rattle.numbers.specs.Numbers.{bytes_of}
use Rattle.fields.specs.Fields.{fields, value, is_number, is_word, same_bytes}
use Rattle.engine.specs.Calls.{setup}
use Rattle.monitor.specs.Calls.{set_up_number, set_up_state, age_number, age_state}
use Rattle.monitor.specs.Receive.{receipt_of, receive_number, receive_state}
use Rattle.monitor.specs.Ask.{answer_size, fewest_size, ask_number, ask_output, fewest_number, fewest_output, answer_in, fewest_in}
use Rattle.lines.specs.Text.{bad_text, number_text, answer_text, fewest_text}

-- ---- how long a line is

-- "A line above 200 bytes"; by document 02, W-204, "a listing line 600 bytes"
abbrev pub line_most : ℕ
line_most = 600

-- ---- what a line leaves

-- whether a `set` was taken by now, the state, and the line that is printed
pub record LineResult : Type 0 where
  pub begun : Bool
  pub state : List ℕ
  pub text : List ℕ

-- "otherwise, or before a taken `set`, `bad line`": nothing changes
unfoldable pub bad_line : Bool → List ℕ → LineResult
bad_line begun s = record { begun = begun; state = s; text = bad_text }

-- ---- the commands, over their fields' numbers

-- "`set` own drift reading", and by document 02, W-204, "Setting up and `set` take the own epoch last"; "A further taken `set` starts afresh"
unfoldable pub set_line : List ℕ → Bool → List ℕ → LineResult
set_line ns begun s =
    let u = setup (get_or ns 0 0) (get_or ns 1 0) (get_or ns 2 0) (get_or ns 3 0) in
    cond (eqb (length ns) 4 && (is_word (get_or ns 0 0) && is_word (get_or ns 1 0)))
    (record {
      begun = begun || eqb (set_up_number s u) 0;
      state = set_up_state s u;
      text = number_text (set_up_number s u);
    })
    (bad_line begun s)

-- "`age` reading"
unfoldable pub age_line : List ℕ → List ℕ → LineResult
age_line ns s =
    cond (eqb (length ns) 1)
    (record { begun = true; state = age_state s (get_or ns 0 0); text = number_text (age_number s (get_or ns 0 0)) })
    (bad_line true s)

-- "`get` least greatest words"; "`get` may have no words (10)"
unfoldable pub get_line : List ℕ → List ℕ → LineResult
get_line ns s =
    cond (leb 2 (length ns) && list_all is_word (drop 2 ns))
    (record {
      begun = true;
      state = receive_state s (receipt_of (get_or ns 0 0) (get_or ns 1 0) (bytes_of (drop 2 ns)));
      text = number_text (receive_number s (receipt_of (get_or ns 0 0) (get_or ns 1 0) (bytes_of (drop 2 ns))));
    })
    (bad_line true s)

-- the line for a question: its answer where the number is 0
unfoldable pub answered_text : ℕ → List ℕ → List ℕ
answered_text number text = cond (eqb number 0) text (number_text number)

-- "`ask` limit"
unfoldable pub ask_text : ℕ → List ℕ → List ℕ
ask_text limit s =
    answered_text (ask_number s limit (replicate answer_size 0)) (answer_text (answer_in (ask_output s limit (replicate answer_size 0))))

unfoldable pub ask_line : List ℕ → List ℕ → LineResult
ask_line ns s = cond (eqb (length ns) 1) (record { begun = true; state = s; text = ask_text (get_or ns 0 0) s }) (bad_line true s)

-- "`fewest`"
unfoldable pub fewest_answer : List ℕ → List ℕ
fewest_answer s = answered_text (fewest_number s (replicate fewest_size 0)) (fewest_text (fewest_in (fewest_output s (replicate fewest_size 0))))

unfoldable pub fewest_line : List ℕ → List ℕ → LineResult
fewest_line ns s = cond (eqb (length ns) 0) (record { begun = true; state = s; text = fewest_answer s }) (bad_line true s)

-- ---- the command words

-- `set`
abbrev pub set_command : List ℕ
set_command = 115 ∷ 101 ∷ 116 ∷ []

-- `age`
abbrev pub age_command : List ℕ
age_command = 97 ∷ 103 ∷ 101 ∷ []

-- `get`
abbrev pub get_command : List ℕ
get_command = 103 ∷ 101 ∷ 116 ∷ []

-- `ask`
abbrev pub ask_command : List ℕ
ask_command = 97 ∷ 115 ∷ 107 ∷ []

-- `fewest`
abbrev pub fewest_command : List ℕ
fewest_command = 102 ∷ 101 ∷ 119 ∷ 101 ∷ 115 ∷ 116 ∷ []

-- a command that needs a taken `set` before it
unfoldable pub later_line : List ℕ → List ℕ → List ℕ → LineResult
later_line word ns s =
    cond (same_bytes word age_command) (age_line ns s)
    (cond (same_bytes word get_command) (get_line ns s)
    (cond (same_bytes word ask_command) (ask_line ns s)
    (cond (same_bytes word fewest_command) (fewest_line ns s)
    (bad_line true s))))

unfoldable pub word_line : List ℕ → List ℕ → Bool → List ℕ → LineResult
word_line word ns begun s =
    cond (same_bytes word set_command) (set_line ns begun s) (cond begun (later_line word ns s) (bad_line begun s))

-- ---- a line

-- the first field is the command word, and the others are numbers
unfoldable pub fields_line : List (List ℕ) → Bool → List ℕ → LineResult
fields_line [] begun s = bad_line begun s
fields_line (word ∷ fs) begun s = cond (list_all is_number fs) (word_line word (map value fs) begun s) (bad_line begun s)

-- "A line above 200 bytes or empty is a `bad line`", above 600 now: an empty line's one field is no command word
unfoldable pub line_result : List ℕ → Bool → List ℕ → LineResult
line_result line begun s = cond (ltb line_most (length line)) (bad_line begun s) (fields_line (fields line) begun s)
