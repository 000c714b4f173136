-- The calls on messages alone, over bytes (document 01, "State bytes", last sentences, and "Who can cause which refusal"): for each call the
-- number that it returns and the lent output afterwards. Assumes nothing: these are definitions.
use Rattle.std.specs.Prelude.{ℕ, ◌%◌, cond, List, [], ◌++◌, length, ltb, eqb}
use Rattle.numbers.specs.Numbers.{bytes, words_of, bytes_of}
use Rattle.radio.specs.Read.{read_words}
use Rattle.radio.specs.Write.{rewritten_as}
use Rattle.state.specs.Refusal.{after}
use Rattle.message.specs.Read.{Reading}
use Rattle.message.specs.Read.{Message, Refused}

-- "four bytes make a word, little-endian, and a byte length that is not a multiple of 4 is number 10"
unfoldable pub read_bytes : List ℕ → Reading
read_bytes message = cond (eqb (length message % 4) 0) (read_words (words_of message)) (Refused 10)

-- the number of a call that reads a message and has `written` for its output: "Where an output is lent, 24 for it comes last"
unfoldable pub answered : Reading → List ℕ → List ℕ → ℕ
answered (Refused number) written out = number
answered (Message sender left right count) written out = cond (ltb (length out) (length written)) 24 0

-- ---- reading: "reading 32 (sender, left, right, term count), 8 bytes a number"

unfoldable pub reading_bytes : Reading → List ℕ
reading_bytes (Refused number) = []
reading_bytes (Message sender left right count) = bytes 8 sender ++ (bytes 8 left ++ (bytes 8 right ++ bytes 8 count))

unfoldable pub read_number : List ℕ → List ℕ → ℕ
read_number message out = answered (read_bytes message) (reading_bytes (read_bytes message)) out

unfoldable pub read_output : List ℕ → List ℕ → List ℕ
read_output message out = after (read_number message out) (reading_bytes (read_bytes message)) out

-- ---- rewriting: "takes a message and writes it in ends form with the sender, interval and terms it has"

unfoldable pub rewritten_bytes : List ℕ → List ℕ
rewritten_bytes message = bytes_of (rewritten_as (read_bytes message) (words_of message))

unfoldable pub rewrite_number : List ℕ → List ℕ → ℕ
rewrite_number message out = answered (read_bytes message) (rewritten_bytes message) out

unfoldable pub rewrite_output : List ℕ → List ℕ → List ℕ
rewrite_output message out = after (rewrite_number message out) (rewritten_bytes message) out
