-- The words of a radio message (document 01, "The radio message"): 32 bits, "the top 3 are its kind and the low 29 its payload".
-- Assumes nothing: these are definitions.
use Rattle.std.specs.Prelude.{ℕ, ◌+◌, ◌*◌, ◌/◌, ◌%◌, ◌^◌, Bool, List, [], ◌∷◌, map, nat_eq}
use Rattle.std.specs.List.{list_all}

-- "the low 29 its payload": payloads are below this, and a word's kind counts in it
abbrev pub payload_size : ℕ
payload_size = 2 ^ 29

-- "Stored ends lie from 0 to 2^58 − 1": the first end that two payloads cannot hold
abbrev pub ends_limit : ℕ
ends_limit = 2 ^ 58

-- "term count (0 to 8)"
abbrev pub terms_most : ℕ
terms_most = 8

-- "Ends form has 6 to 14 words, centre form 5 to 13": the fewest, the most, and the most in bytes
abbrev pub plain_words_least : ℕ
plain_words_least = 5

abbrev pub plain_words_most : ℕ
plain_words_most = 14

abbrev pub plain_bytes_most : ℕ
plain_bytes_most = plain_words_most * 4

-- ---- a word

-- "its kind"
abbrev pub kind_of : ℕ → ℕ
kind_of w = w / payload_size

-- "its payload"
abbrev pub payload : ℕ → ℕ
payload w = w % payload_size

-- the word of a kind with a payload
abbrev pub word : ℕ → ℕ → ℕ
word kind x = kind * payload_size + x

-- ---- words

-- each word is of this kind
unfoldable pub of_kind : ℕ → List ℕ → Bool
of_kind kind ws = list_all (λ w. nat_eq (kind_of w) kind) ws

-- the terms that term words carry
unfoldable pub masks : List ℕ → List ℕ
masks ws = map (λ w. payload w) ws

unfoldable pub word_sum : List ℕ → ℕ
word_sum [] = 0
word_sum (w ∷ ws) = w + word_sum ws

-- "the sum of all earlier words, wrapping, modulo 2^29"
unfoldable pub check : List ℕ → ℕ
check ws = word_sum ws % payload_size
