-- Worked cases of the live message (document 02, W-204), each proved by computation in proofs/WorkedMessages. Assumes nothing: these are definitions.
use Rattle.std.specs.Prelude.{ℕ, ◌+◌, ◌*◌, ◌%◌, List, [], ◌∷◌, ◌++◌, replicate}
use Rattle.message.specs.Words.{payload_size, word, check}
use Rattle.message.specs.Write.{end_words}
use Rattle.message.specs.Read.{Reading}
use Rattle.message.specs.Read.{Message, Refused}
use Rattle.epochs.specs.Epochs.{name}

-- words closed by a check word that is right, and by one that is not
abbrev pub closed : List ℕ → List ℕ
closed ws = ws ++ (word 7 (check ws) ∷ [])

abbrev pub ajar : List ℕ → List ℕ
ajar ws = ws ++ (word 7 ((check ws + 1) % payload_size) ∷ [])

-- a head, and an interval in centre form
abbrev pub head : ℕ → ℕ → ℕ
head sender count = word 1 (sender + 32 * count)

abbrev pub around : ℕ → ℕ → List ℕ
around centre half = word 4 0 ∷ word 4 centre ∷ word 5 half ∷ []

-- words, and what is read of them
pub record Row : Type 0 where
  pub words : List ℕ
  pub reading : Reading

abbrev pub row : List ℕ → Reading → Row
row words reading = record { words = words; reading = reading }

abbrev pub rows : List Row
rows =
    -- the shortest message, and one with a term in ends form, epochs 1, 0 and 15
    row (closed (head 3 0 ∷ name 3 0 ∷ around 9 4)) (Message 3 5 13 0)
    ∷ row (closed (head 0 1 ∷ name 0 1 ∷ name 1 0 ∷ name 2 15 ∷ (end_words 7 8 ++ (word 6 6 ∷ [])))) (Message 0 7 8 1)
    -- a missing epoch word, of a term or of the sender, is 42 before a wrong check word is 15
    ∷ row (ajar (head 3 1 ∷ name 3 0 ∷ (around 9 4 ++ (word 6 2 ∷ [])))) (Refused 42)
    ∷ row (ajar (head 3 0 ∷ end_words 7 8)) (Refused 42)
    ∷ row (ajar (head 3 1 ∷ name 1 0 ∷ name 3 0 ∷ (around 9 4 ++ (word 6 2 ∷ [])))) (Refused 15)
    -- "a wrong kind behind it beats it (14)"; "kind 0 in a term's place 14"
    ∷ row (closed (head 3 1 ∷ name 3 0 ∷ word 4 0 ∷ word 4 9 ∷ word 4 4 ∷ word 6 2 ∷ [])) (Refused 14)
    ∷ row (closed (head 3 1 ∷ name 1 0 ∷ name 3 0 ∷ (around 9 4 ++ (word 0 2 ∷ [])))) (Refused 14)
    -- "only kind 0 words behind the head is 11, also at 43 words; 44 words 10"; and 5 words
    ∷ row (head 3 0 ∷ replicate 5 0) (Refused 11)
    ∷ row (head 3 0 ∷ replicate 42 0) (Refused 11)
    ∷ row (head 3 0 ∷ replicate 43 0) (Refused 10)
    ∷ row (closed (head 3 0 ∷ around 9 4)) (Refused 10)
    -- bit 9 set, identifier 29, unordered, twice, one too many
    ∷ row (closed (head 3 0 ∷ name 3 16 ∷ around 9 4)) (Refused 42)
    ∷ row (closed (head 3 0 ∷ name 3 0 ∷ name 29 0 ∷ around 9 4)) (Refused 42)
    ∷ row (closed (head 3 1 ∷ name 3 0 ∷ name 1 0 ∷ (around 9 4 ++ (word 6 2 ∷ [])))) (Refused 42)
    ∷ row (closed (head 3 0 ∷ name 3 0 ∷ name 3 1 ∷ around 9 4)) (Refused 42)
    ∷ row (closed (head 3 0 ∷ name 3 0 ∷ name 5 0 ∷ around 9 4)) (Refused 42)
    -- "terms not in normal form with the right epoch words 17, with one missing 42"
    ∷ row (closed (head 3 2 ∷ name 1 0 ∷ name 2 0 ∷ name 3 0 ∷ (around 9 4 ++ (word 6 2 ∷ word 6 6 ∷ [])))) (Refused 17)
    ∷ row (closed (head 3 2 ∷ name 1 0 ∷ name 3 0 ∷ (around 9 4 ++ (word 6 2 ∷ word 6 6 ∷ [])))) (Refused 42)
    ∷ []
