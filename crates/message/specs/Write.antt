-- Writing a message in ends form, and rewriting one (document 01, "The radio message"). Assumes nothing: these are definitions.
use Rattle.std.specs.Prelude.{ℕ, ◌+◌, ◌*◌, ◌/◌, ◌%◌, List, [], ◌∷◌, ◌++◌, map, length}
use Rattle.message.specs.Words.{payload_size, word, masks, check}
use Rattle.message.specs.Read.{read_plain, term_words}
use Rattle.message.specs.Read.{Reading}
use Rattle.message.specs.Read.{Message, Refused}

-- "two words of kind 2 (left end, high 29 bits then low) and two of kind 3 (right end)"
unfoldable pub end_words : ℕ → ℕ → List ℕ
end_words left right = word 2 (left / payload_size) ∷ word 2 (left % payload_size) ∷ word 3 (right / payload_size) ∷ word 3 (right % payload_size) ∷ []

-- the head, the words `more` right behind it, and the ends
unfoldable pub front : ℕ → List ℕ → ℕ → ℕ → ℕ → List ℕ
front sender more left right count = word 1 (sender + 32 * count) ∷ (more ++ end_words left right)

-- all words but the last: the front, and "the terms, kind 6"
unfoldable pub body : ℕ → List ℕ → ℕ → ℕ → List ℕ → List ℕ
body sender more left right terms = front sender more left right (length terms) ++ map (λ t. word 6 t) terms

-- the message in ends form, closed by "kind 7: the sum of all earlier words, wrapping, modulo 2^29"
unfoldable pub message_words : ℕ → List ℕ → ℕ → ℕ → List ℕ → List ℕ
message_words sender more left right terms =
    body sender more left right terms ++ (word 7 (check (body sender more left right terms)) ∷ [])

-- "takes a message and writes it in ends form with the sender, interval and terms it has"; nothing of a refused one.
-- No words stand between the head and the interval.
unfoldable pub rewritten_plain_as : Reading → List ℕ → List ℕ
rewritten_plain_as (Refused number) ws = []
rewritten_plain_as (Message sender left right count) ws = message_words sender [] left right (masks (term_words (Message sender left right count) ws))

unfoldable pub rewritten_plain : List ℕ → List ℕ
rewritten_plain ws = rewritten_plain_as (read_plain ws) ws
