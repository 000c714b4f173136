-- What the listing prints, as bytes (document 01, "A listing, complete"): the answer lines, each with its line feed.
-- Assumes nothing: these are definitions.
use Rattle.std.specs.Prelude.{ℕ, cond, List, [], ◌∷◌, eqb}
use Rattle.fields.specs.Decimal.{with_one, with_two}
use Rattle.asking.specs.declared.Answer.{Answer}
use Rattle.asking.specs.declared.Answer.TheVariants.{Contradicted, Open, Between}
use Rattle.asking.specs.Fewest.{Fewest, Over, Few}

-- ---- the words, with the space or the line feed behind them

-- `ok`
abbrev pub ok_text : List ℕ
ok_text = 111 ∷ 107 ∷ 10 ∷ []

-- `refused `
abbrev pub refused_word : List ℕ
refused_word = 114 ∷ 101 ∷ 102 ∷ 117 ∷ 115 ∷ 101 ∷ 100 ∷ 32 ∷ []

-- `between `
abbrev pub between_word : List ℕ
between_word = 98 ∷ 101 ∷ 116 ∷ 119 ∷ 101 ∷ 101 ∷ 110 ∷ 32 ∷ []

-- `open`
abbrev pub open_text : List ℕ
open_text = 111 ∷ 112 ∷ 101 ∷ 110 ∷ 10 ∷ []

-- `contradicted`
abbrev pub contradicted_text : List ℕ
contradicted_text = 99 ∷ 111 ∷ 110 ∷ 116 ∷ 114 ∷ 97 ∷ 100 ∷ 105 ∷ 99 ∷ 116 ∷ 101 ∷ 100 ∷ 10 ∷ []

-- `fewest `
abbrev pub fewest_word : List ℕ
fewest_word = 102 ∷ 101 ∷ 119 ∷ 101 ∷ 115 ∷ 116 ∷ 32 ∷ []

-- `fewest over 4`
abbrev pub over_text : List ℕ
over_text = 102 ∷ 101 ∷ 119 ∷ 101 ∷ 115 ∷ 116 ∷ 32 ∷ 111 ∷ 118 ∷ 101 ∷ 114 ∷ 32 ∷ 52 ∷ 10 ∷ []

-- `bad line`
abbrev pub bad_text : List ℕ
bad_text = 98 ∷ 97 ∷ 100 ∷ 32 ∷ 108 ∷ 105 ∷ 110 ∷ 101 ∷ 10 ∷ []

-- ---- the answer lines

-- "`ok`, `refused` number"
unfoldable pub number_text : ℕ → List ℕ
number_text number = cond (eqb number 0) ok_text (with_one refused_word number)

-- "`between` left right, `open`, `contradicted`"
unfoldable pub answer_text : Answer → List ℕ
answer_text Contradicted = contradicted_text
answer_text Open = open_text
answer_text (Between left right) = with_two between_word left right

-- "`fewest` count mask, `fewest over 4`"
unfoldable pub fewest_text : Fewest → List ℕ
fewest_text Over = over_text
fewest_text (Few count mask) = with_two fewest_word count mask
