-- Epochs (document 02, W-204): "A mended monitor comes back with a higher epoch, 0 to 15. Two names are equal only if identifier and epoch are
-- equal." What is known is a list, each identifier's epoch at its place. Assumes nothing: these are definitions.
use Rattle.std.specs.Prelude.{ℕ, ◌+◌, ◌*◌, ◌/◌, ◌%◌, ◌≤◌, max, Bool, true, false, cond, List, [], ◌∷◌, map, eqb, ltb, get_or, set}
use Rattle.numbers.specs.Numbers.{tab}
use Rattle.names.specs.Sets.{minus}
use Rattle.predicates.specs.Predicates.{normal}

-- the greatest epoch, and how many identifiers have one
abbrev pub epoch_most : ℕ
epoch_most = 15

abbrev pub epochs_most : ℕ
epochs_most = 29

-- ---- names: one number, as an epoch word carries it, "identifier in bits 0–4, epoch in bits 5–8, the rest zero"

abbrev pub identifier_of : ℕ → ℕ
identifier_of name = name % 32

abbrev pub epoch_of : ℕ → ℕ
epoch_of name = name / 32

abbrev pub name : ℕ → ℕ → ℕ
name identifier epoch = identifier + 32 * epoch

-- the first number that is none: "the rest zero"
abbrev pub name_limit : ℕ
name_limit = 512

-- ---- a predicate with names that count as failed

-- the names of r count as failed in p, and what is left is "put in normal form"
unfoldable pub withdraw : ℕ → List ℕ → List ℕ
withdraw r p = normal (map (λ t. minus t r) p)

-- ---- epochs by identifier

-- the epochs in the bytes s, one for each identifier from index at on
unfoldable pub epochs_in : ℕ → List ℕ → List ℕ
epochs_in at s = tab epochs_most (λ n. get_or s (at + n) 0)

abbrev pub digit_of : Bool → ℕ
digit_of true = 1
digit_of false = 0

-- the identifiers whose epoch in es is below the one in ks, as a mask: "an older one counts as failed"
unfoldable pub older : List ℕ → List ℕ → ℕ
older es [] = 0
older [] (k ∷ ks) = digit_of (ltb 0 k) + 2 * older [] ks
older (e ∷ es) (k ∷ ks) = digit_of (ltb e k) + 2 * older es ks

-- the known epochs ks once es are heard: the greater of both
unfoldable pub raised : List ℕ → List ℕ → List ℕ
raised [] es = []
raised (k ∷ ks) [] = k ∷ ks
raised (k ∷ ks) (e ∷ es) = max k e ∷ raised ks es

-- no epoch of es is above the one in ks
abbrev pub NotAbove : List ℕ → List ℕ → Type 0
NotAbove es ks = (n : ℕ) → get_or es n 0 ≤ get_or ks n 0

-- es where a name is heard; the own epoch stays: "a message never changes the own epoch"
unfoldable pub told : ℕ → List ℕ → ℕ → List ℕ
told own es w = cond (eqb (identifier_of w) own) es (set es (identifier_of w) (epoch_of w))

-- the epochs that names speak of; of an identifier that none names, and of the own one, it is the known one
unfoldable pub spoken : ℕ → List ℕ → List ℕ → List ℕ
spoken own [] ks = ks
spoken own (w ∷ ws) ks = spoken own ws (told own ks w)
