-- Asking and the fewest failures, over bytes (document 01, "Asking", "State bytes" and "Who can cause which refusal"): the number that the call
-- returns and the lent output afterwards. Assumes nothing: these are definitions.
use Rattle.std.specs.Prelude.{ℕ, ◌*◌, ◌≡◌, Bool, cond, List, length, take, ltb, eqb}
use Rattle.numbers.specs.Numbers.{num, bytes, tab}
use Rattle.state.specs.Layout.{state_of, joined}
use Rattle.state.specs.Refusal.{refuse, lent, after}
use Rattle.asking.specs.declared.Answer.{Answer}
use Rattle.asking.specs.declared.Answer.TheVariants.{Contradicted, Open, Between}
use Rattle.asking.specs.Asking.{answer, answer_numbers}
use Rattle.asking.specs.Fewest.{Fewest, Over, Few, fewest, fewest_numbers}

-- the greatest limit: "The asker gives a limit, 0 to 4."
abbrev pub limit_most : ℕ
limit_most = 4

-- "asking writes 24 bytes", "fewest 16"
abbrev pub answer_size : ℕ
answer_size = 24

abbrev pub fewest_size : ℕ
fewest_size = 16

-- "8 bytes a number"
unfoldable pub wide : List ℕ → List ℕ
wide numbers = joined (bytes 8) numbers

-- the other way round: the first n numbers that C reads in an output
unfoldable pub wide_in : ℕ → List ℕ → List ℕ
wide_in n out = tab n (λ i. num (i * 8) 8 out)

-- these numbers stand at the front of an output: C reads them there, and the bytes are those of no others
pub record Shows (out numbers : List ℕ) : Type 0 where
  pub read : wide_in (length numbers) out ≡ numbers
  pub front : take (length numbers * 8) out ≡ wide numbers

-- ---- asking: "asking writes 24 bytes (0 contradicted, 1 open, 2 between; left; right, both 0 unless between)"

unfoldable pub asked_bytes : List ℕ → ℕ → List ℕ
asked_bytes s limit = wide (answer_numbers (answer limit (state_of s)))

-- "22 limit above 4"
abbrev pub limit_fails : ℕ → Bool
limit_fails limit = ltb limit_most limit

-- then what comes next decides
abbrev pub limit_refusal : ℕ → ℕ → ℕ
limit_refusal limit next = refuse (limit_fails limit) 22 next

-- "Asking 24, 25, 22"; "Where an output is lent, 24 for it comes last."
unfoldable pub ask_number : List ℕ → ℕ → List ℕ → ℕ
ask_number s limit out = lent s (limit_refusal limit (refuse (ltb (length out) answer_size) 24 0))

unfoldable pub ask_output : List ℕ → ℕ → List ℕ → List ℕ
ask_output s limit out = after (ask_number s limit out) (asked_bytes s limit) out

-- ---- fewest failures: "fewest 16 (count, 5 for over 4; mask, then 0)"

unfoldable pub fewest_bytes : List ℕ → List ℕ
fewest_bytes s = wide (fewest_numbers (fewest (state_of s)))

-- "fewest 24, 25", and 24 for the output
unfoldable pub fewest_number : List ℕ → List ℕ → ℕ
fewest_number s out =
    lent s (refuse (ltb (length out) fewest_size) 24 0)

unfoldable pub fewest_output : List ℕ → List ℕ → List ℕ
fewest_output s out = after (fewest_number s out) (fewest_bytes s) out

-- ---- the answer that C sees

-- the answer in the 24 bytes: "0 contradicted, 1 open, 2 between; left; right"
unfoldable pub answer_in : List ℕ → Answer
answer_in out = cond (eqb (num 0 8 out) 0) Contradicted (cond (eqb (num 0 8 out) 1) Open (Between (num 8 8 out) (num 16 8 out)))

-- the fewest failures in the 16 bytes: "count, 5 for over 4; mask, then 0"
unfoldable pub fewest_in : List ℕ → Fewest
fewest_in out = cond (eqb (num 0 8 out) 5) Over (Few (num 0 8 out) (num 8 8 out))
