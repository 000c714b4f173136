-- Receipts in another order (document 02, W-206): "After one and the same history, with no ageing between them, no epoch change, none refused in
-- either order, and the receipts of one sender that carry clock readings kept in their order, any two orders of the same receipts must give the same
-- answer for each limit and the same fewest failures. Stored bytes may differ." Each of these premises is a definition, and so is what is the same.
-- Assumes nothing: these are definitions.
use Rattle.std.specs.Prelude.{ℕ, ◌≤◌, ◌≡◌, Bool, true, false, ◌&&◌, eqb, length, Option, None, Some}
use mathlib.Core.List.{List, [], ◌∷◌, ◌++◌, Permᴰ}
use Rattle.std.specs.List.{filter}
use Rattle.clocks.specs.declared.Readings.{Readings}
use Rattle.state.specs.Model.{Head}
use Rattle.engine.specs.Hearing.{heeded}
use Rattle.monitor.specs.Receive.{Delivered, refused, brings, delivered}
use Rattle.monitor.specs.Ask.{limit_most, answer_size, fewest_size, ask_number, ask_output, fewest_number, fewest_output}
use Rattle.runs.specs.Book.{Request, ageing, receipt}
use Rattle.runs.specs.Runs.{request_number, bytes_after, bytes_run, Run, state_after, book, Quiet}

-- ---- the premises

-- "any two orders of the same receipts": the library's permutations, so that a receipt that comes twice stands twice in either
abbrev pub Reordered : List Request → List Request → Type 0
Reordered xs ys = Permᴰ xs ys

-- "with no ageing between them": only receipts
abbrev pub NoAgeing : List Request → Type 0
NoAgeing [] = Unit {0}
NoAgeing (ageing reading ∷ qs) = ⊥
NoAgeing (receipt g ∷ qs) = NoAgeing qs

-- "no epoch change": where h is the head before them, none brings an epoch above the one known there
abbrev pub NoEpochChange : Head → List Request → Type 0
NoEpochChange h [] = Unit {0}
NoEpochChange h (ageing reading ∷ qs) = NoEpochChange h qs
NoEpochChange h (receipt g ∷ qs) = Quiet h (delivered g) × NoEpochChange h qs

-- "none refused": each is taken on the bytes that the one before it left
abbrev pub NoneRefused : List ℕ → List Request → Type 0
NoneRefused s [] = Unit {0}
NoneRefused s (q ∷ qs) = (request_number s q ≡ 0) × NoneRefused (bytes_after s q) qs

-- there are readings
abbrev pub is_given : Option Readings → Bool
is_given None = false
is_given (Some x) = true

-- what is delivered comes from the sender n with clock readings, and they are heeded where the head is h: "an older sender's readings being neither
-- tested nor saved" (W-204), only those of a current name are
abbrev pub timed : Head → ℕ → Delivered → Bool
timed h n (refused number) = false
timed h n (brings d) = eqb d.sender n && is_given (heeded h d)

-- the request is such a receipt: "of one sender", and it carries "clock readings"
abbrev pub carries : Head → ℕ → Request → Bool
carries h n (ageing reading) = false
carries h n (receipt g) = timed h n (delivered g)

-- "the receipts of one sender that carry clock readings kept in their order": of each sender they are one list in either
abbrev pub ReadingsKept : Head → List Request → List Request → Type 0
ReadingsKept h xs ys = (n : ℕ) → filter (carries h n) xs ≡ filter (carries h n) ys

-- ---- what is the same

-- "the same answer for each limit and the same fewest failures", as C sees them: on either state both calls are taken, in every output with room, and
-- leave the same bytes in it
pub record SameAnswers (s u : List ℕ) : Type 0 where
  pub answers : (limit : ℕ) → limit ≤ limit_most → (out : List ℕ) → answer_size ≤ length out
      → (ask_number s limit out ≡ 0) × (ask_number u limit out ≡ 0) × (ask_output s limit out ≡ ask_output u limit out)
  pub failures : (out : List ℕ) → fewest_size ≤ length out
      → (fewest_number s out ≡ 0) × (fewest_number u out ≡ 0) × (fewest_output s out ≡ fewest_output u out)

-- ---- the statements

-- the premises on two lists of requests, where h is the head before them
pub record OneBatch (h : Head) (xs ys : List Request) : Type 0 where
  pub order : Reordered xs ys
  pub still : NoAgeing xs
  pub quiet : NoEpochChange h xs
  pub kept : ReadingsKept h xs ys

-- "After one and the same history": after every run two orders of the same receipts give the same
unfoldable pub AnyOrder : Type 0
AnyOrder =
    (r : Run) (xs ys : List Request) → OneBatch (book r).head xs ys → NoneRefused (state_after r) xs → NoneRefused (state_after r) ys
    → SameAnswers (bytes_run (state_after r) xs) (bytes_run (state_after r) ys)

-- and it stays so, whatever else is taken after them in both: the pool log does not depend on the order
unfoldable pub AnyOrderLater : Type 0
AnyOrderLater =
    (r : Run) (xs ys more : List Request) → OneBatch (book r).head xs ys → NoneRefused (state_after r) (xs ++ more)
    → NoneRefused (state_after r) (ys ++ more) → SameAnswers (bytes_run (state_after r) (xs ++ more)) (bytes_run (state_after r) (ys ++ more))
