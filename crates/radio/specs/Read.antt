-- Reading a live message (document 02, W-204): document 01's message with epoch words right behind the head. The first refusal of 10, 12, 11, 13,
-- 14, 42, 15 to 17; all but 10 and 42 are those of crate `message`, with the interval behind the epoch words. Assumes nothing: these are
-- definitions.
use Rattle.std.specs.Prelude.{ℕ, suc, ◌+◌, ◌*◌, Bool, cond, not, ◌||◌, List, [], ◌∷◌, length, get_or, drop, ltb, eqb}
use Rattle.std.proofs.Math.Seq.{slice}
use Rattle.std.specs.List.{filter}
use Rattle.message.specs.Words.{kind_of, masks}
use Rattle.message.specs.Read.{sender_of, is_ends, middle, shape_refusal, contents, refused_or}
use Rattle.message.specs.Read.{Reading}
use Rattle.message.specs.Read.{Message, Refused}
use Rattle.radio.specs.Names.{wanted, names_fit}

-- "Number 10 now allows 6 to 43 words": the fewest, the most, and the most in bytes
abbrev pub words_least : ℕ
words_least = 6

abbrev pub words_most : ℕ
words_most = 43

abbrev pub bytes_most : ℕ
bytes_most = words_most * 4

-- ---- the epoch words

-- how many words of kind 0 are at the front
unfoldable pub leading : List ℕ → ℕ
leading [] = 0
leading (w ∷ ws) = cond (eqb (kind_of w) 0) (suc (leading ws)) 0

-- "The epoch words are all kind 0 words next to the head"
unfoldable pub epoch_count : List ℕ → ℕ
epoch_count ws = leading (drop 1 ws)

-- the place of the word behind them, which opens the interval
abbrev pub opening : List ℕ → ℕ
opening ws = 1 + epoch_count ws

unfoldable pub epoch_part : List ℕ → List ℕ
epoch_part ws = slice 1 (opening ws) ws

-- the other way round from 42: the epoch words fit the sender and the terms
unfoldable pub epoch_words_fit : List ℕ → Bool
epoch_words_fit ws = names_fit (wanted (sender_of (get_or ws 0 0)) (masks (middle (opening ws) (is_ends (opening ws) ws) ws))) (epoch_part ws)

-- ---- the reading

-- 10; then 12, 11, 13, 14; then "42 [..] after 14"; then 15 to 17
unfoldable pub read_words : List ℕ → Reading
read_words ws =
    cond (ltb (length ws) words_least || ltb words_most (length ws)) (Refused 10)
    (refused_or (shape_refusal (opening ws) ws)
    (cond (not (epoch_words_fit ws)) (Refused 42) (contents (opening ws) ws)))

-- the epoch words, handed back as the term words are: the words of kind 0 of a message that is taken
unfoldable pub epoch_words : Reading → List ℕ → List ℕ
epoch_words (Refused number) ws = []
epoch_words (Message sender left right count) ws = filter (λ w. eqb (kind_of w) 0) ws
