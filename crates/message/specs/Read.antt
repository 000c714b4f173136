-- Reading a message (document 01, "The radio message" and "Who can cause which refusal"): sender, ends and term count, or the first
-- refusal of 10, 12, 11, 13 to 17. Assumes nothing: these are definitions.
use Rattle.std.specs.Prelude.{ℕ, ◌+◌, ◌-◌, ◌*◌, ◌/◌, ◌%◌, Bool, cond, not, ◌&&◌, ◌||◌}
use Rattle.std.specs.Prelude.{List, [], length, take, drop, ◌==◌, nat_eq, nat_le, nat_lt, slice_index, slice_index_or}
use Rattle.std.proofs.Math.Seq.{slice}
use Rattle.std.specs.List.{filter}
use Rattle.predicates.specs.Predicates.{is_normal}
use Rattle.message.specs.Words.{payload_size, ends_limit, terms_most, plain_words_least, plain_words_most, kind_of, payload, of_kind, masks, check}

-- an interval of instants, left at most right, both from 0 to 2^58 - 1; or none
pub data Interval : Type 0 where
  Span : ℕ → ℕ → Interval
  Bad : Interval

-- a message that is taken: sender, left, right and term count; or the number of its refusal
pub data Reading : Type 0 where
  Message : ℕ → ℕ → ℕ → ℕ → Reading
  Refused : ℕ → Reading

-- ---- the head: "sender in bits 0–4, term count (0 to 8) in bits 5–9, bits 10–28 zero"

abbrev pub sender_of : ℕ → ℕ
sender_of head = head % 32

abbrev pub term_count : ℕ → ℕ
term_count head = head / 32 % 32

-- 12: "head not of kind 1, sender above 28, term count above 8 or bits 10–28 not zero"
unfoldable pub head_word_fits : ℕ → Bool
head_word_fits head = kind_of head == 1 && (nat_le (sender_of head) 28 && (nat_le (term_count head) terms_most && payload head / 1024 == 0))

-- ---- the forms: "ends form: two words of kind 2 and two of kind 3; or centre form: two of kind 4, one of kind 5"
-- The interval's first word is at place `at`: document 01 puts it right behind the head, at place 1.

-- the interval's first word opens ends form
unfoldable pub is_ends : ℕ → List ℕ → Bool
is_ends at ws = kind_of (slice_index ws at) == 2

-- it opens one of the forms; 11: "second word neither kind 2 nor 4"
unfoldable pub opens : ℕ → List ℕ → Bool
opens at ws = is_ends at ws || kind_of (slice_index ws at) == 4

-- how many words the interval has
unfoldable pub width : Bool → ℕ
width ends = cond ends 4 3

-- the place of the first term word
abbrev pub start : ℕ → Bool → ℕ
start at ends = at + width ends

-- the words of the interval are of their kinds
unfoldable pub span_kinds : ℕ → Bool → List ℕ → Bool
span_kinds at ends ws =
    cond ends (of_kind 2 (slice at (at + 2) ws) && of_kind 3 (slice (at + 2) (at + 4) ws))
    (of_kind 4 (slice at (at + 2) ws) && of_kind 5 (slice (at + 2) (at + 3) ws))

-- the words between the interval and the last one
unfoldable pub middle : ℕ → Bool → List ℕ → List ℕ
middle at ends ws = slice (start at ends) (length ws - 1) ws

-- 14: "a later word of the wrong kind": the interval, then "the terms, kind 6", then kind 7
unfoldable pub kinds_fit : ℕ → Bool → List ℕ → Bool
kinds_fit at ends ws = span_kinds at ends ws && (of_kind 6 (middle at ends ws) && of_kind 7 (drop (length ws - 1) ws))

-- 15: the payload of the last word is "the sum of all earlier words"
unfoldable pub check_fits : List ℕ → Bool
check_fits ws = payload (slice_index ws (length ws - 1)) == check (take (length ws - 1) ws)

-- ---- the interval

-- the number in two words, "high 29 bits then low"
unfoldable pub pair : List ℕ → ℕ → ℕ
pair ws i = payload (slice_index ws i) * payload_size + payload (slice_index ws (i + 1))

-- 16: "left above right, or an end below 0 or above 2^58 − 1"; two words never pass 2^58 − 1
abbrev pub span_of : ℕ → ℕ → Interval
span_of left right = cond (nat_le left right) (Span left right) Bad

-- "the ends being centre less and plus half width"
abbrev pub span_around : ℕ → ℕ → Interval
span_around centre half = cond (nat_le half centre) (cond (nat_lt (centre + half) ends_limit) (Span (centre - half) (centre + half)) Bad) Bad

unfoldable pub span : ℕ → Bool → List ℕ → Interval
span at ends ws = cond ends (span_of (pair ws at) (pair ws (at + 2))) (span_around (pair ws at) (payload (slice_index ws (at + 2))))

-- ---- the reading

-- 16, then 17: "terms not in normal form"
unfoldable pub with_span : ℕ → ℕ → Bool → Interval → Reading
with_span sender count normal Bad = Refused 16
with_span sender count normal (Span left right) = cond normal (Message sender left right count) (Refused 17)

-- 12, 11, 13 and 14 of a message whose interval begins at place `at`, else 0: its head, the word that opens the interval, "word count not that
-- of head and form", and the kinds. Nothing here tests the words between the head and that place.
unfoldable pub shape_refusal : ℕ → List ℕ → ℕ
shape_refusal at ws =
    let head = slice_index_or ws 0 0 in
    let ends = is_ends at ws in
    cond (not (head_word_fits head)) 12
    (cond (not (opens at ws)) 11
    (cond (not (length ws == start at ends + term_count head + 1)) 13
    (cond (not (kinds_fit at ends ws)) 14 0)))

-- what a message of that shape says, or 15, 16 or 17
unfoldable pub contents : ℕ → List ℕ → Reading
contents at ws =
    let head = slice_index_or ws 0 0 in
    let ends = is_ends at ws in
    cond (not (check_fits ws)) (Refused 15)
    (with_span (sender_of head) (term_count head) (is_normal (masks (middle at ends ws))) (span at ends ws))

-- the refusal of a number, or what comes next where it is 0
abbrev pub refused_or : ℕ → Reading → Reading
refused_or number next = cond (number == 0) next (Refused number)

-- all but 10
unfoldable pub read_from : ℕ → List ℕ → Reading
read_from at ws = refused_or (shape_refusal at ws) (contents at ws)

-- 10: "word count outside 5 to 14"; then the rest, the interval right behind the head
unfoldable pub read_plain : List ℕ → Reading
read_plain ws = cond (nat_lt (length ws) plain_words_least || nat_lt plain_words_most (length ws)) (Refused 10) (read_from 1 ws)

-- "hands back the term words": the words of kind 6 of a message that is taken
unfoldable pub term_words : Reading → List ℕ → List ℕ
term_words (Refused number) ws = []
term_words (Message sender left right count) ws = filter (λ w. nat_eq (kind_of w) 6) ws

-- "A refusal is its number alone. 0 means taken."
unfoldable pub reading_number : Reading → ℕ
reading_number (Refused number) = number
reading_number (Message sender left right count) = 0
