-- Definitions that serve the code alone: no statement of document 01 cites this file.
-- The words that a call takes of a message's bytes. Assumes nothing: these are definitions.
use Rattle.std.specs.Prelude.{ℕ, ◌%◌, cond, List, [], length, ltb, eqb}
use Rattle.numbers.specs.Numbers.{words_of}
use Rattle.message.specs.declared.Message.{Message}
use Rattle.message.specs.Words.{masks}
use Rattle.message.specs.Write.{message_words}
use Rattle.radio.specs.Read.{bytes_most}

-- the words in the bytes; none where the bytes are too many or leave a rest, and reading none is number 10 too
unfoldable pub words_in : List ℕ → List ℕ
words_in message = cond (eqb (length message % 4) 0) (cond (ltb bytes_most (length message)) [] (words_of message)) []

-- the words of a message in ends form
abbrev pub words_of_message : Message → List ℕ
words_of_message m = message_words m.sender m.names.now m.left m.right (masks m.terms.now)
