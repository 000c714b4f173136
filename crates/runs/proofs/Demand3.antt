-- Demand 3, over the bytes that C lends: after every run asking is taken, and its answer tells of the possible instants of the run's book what the
-- demand says; and the fewest failures are those of the book.
-- The idea: the instants that count over the state are the possible ones (`proofs.Runs`), so the answer over the state is theirs; the bytes are
-- those of that answer (`proofs.Answers`). The second half of the demand is `demand3_more` of `proofs.Further`. Assumes nothing.
use Prim.Native.Nat.{ℕ, ◌≤◌}
use mathlib.Core.Path.{◌≡◌, ◌∙◌}
use mathlib.Core.List.{List}
use borrow.Author.Tests.{le-ltb}
use lib.Dec.{T}
use lib.ListN.{length}
use Rattle.state.specs.Layout.{state_of, state_size}
use Rattle.state.specs.Form.{in_form}
use Rattle.state.proofs.StateLaws.{form_ok}
use Rattle.asking.specs.Instants.{Counts}
use Rattle.asking.specs.Asking.{exact, answer, answer_numbers}
use Rattle.asking.specs.Fewest.{fewest}
use Rattle.asking.proofs.AnswerLaws.{gives_same, answer-given}
use Rattle.asking.proofs.FewestLaws.{fewest_is}
use Rattle.state.specs.Refusal.{after}
use Rattle.state.proofs.LentLaws.{lent_next}
use Rattle.monitor.specs.Ask.{limit_most, answer_size, fewest_size, Shows, asked_bytes, ask_number, ask_output, fewest_bytes, fewest_number, fewest_output}
use Rattle.runs.specs.Book.{Possible}
use Rattle.runs.specs.Runs.{state_after, book, Demand3, SetBySet, FewestByBook}
use Rattle.runs.proofs.Runs.{reached, set_by_set, allowed_same, counts_possible}
use Rattle.runs.proofs.Answers.{answer_shown, answer-fits, gives_tells, fewest_shown, fewest-same}

-- ---- asking and the fewest failures are taken

module _ (s : List ℕ) (long : state_size ≤ length s) (form : T (in_form s)) (out : List ℕ) where
  pub ask-taken : (limit : ℕ) → limit ≤ limit_most → answer_size ≤ length out → ask_number s limit out ≡ 0
  unfolding ask_number
  ask-taken limit l h = lent_next s _ long form ∙ rw (le-ltb limit_most limit l, le-ltb (length out) answer_size h)

  pub fewest-taken : fewest_size ≤ length out → fewest_number s out ≡ 0
  unfolding fewest_number
  fewest-taken h = lent_next s _ long form ∙ rw (le-ltb (length out) fewest_size h)

  -- what C reads in the output is the answer over the state
  pub ask-answers : (limit : ℕ) → limit ≤ limit_most → answer_size ≤ length out
      → (ask_number s limit out ≡ 0) × Shows (ask_output s limit out) (answer_numbers (answer limit (state_of s)))
  unfolding ask_output asked_bytes after answer
  ask-answers limit l h =
      let a = exact limit (state_of s) in
      let taken = ask-taken limit l h in
      (taken, rw taken (answer_shown (answer limit (state_of s)) out (answer-fits limit (state_of s) (form_ok s form) a (answer-given limit (state_of s))) h))

pub demand3 : Demand3
unfolding Demand3 answer
demand3 r limit l out h =
    let s = state_after r in
    let so = reached r in
    let a = exact limit (state_of s) in
    let given = answer-given limit (state_of s) in
    let told = ask-answers s so.long so.form out limit l h in (
      told.0,
      (
        answer limit (state_of s),
        told.1,
        gives_tells (Possible limit (book r)) a
            (gives_same (Counts limit (state_of s)) (Possible limit (book r)) a (λ x. (counts_possible r limit x).0) (λ x. (counts_possible r limit x).1) given),
      ),
    )

pub fewest_by_book : FewestByBook
unfolding FewestByBook fewest_output fewest_bytes after state_of SetBySet
fewest_by_book r out h =
    let s = state_after r in
    let so = reached r in
    let a = fewest (state_of s) in
    let is = fewest_is (state_of s) in
    let taken = fewest-taken s so.long so.form out h in (
      taken,
      (
        a,
        rw taken (fewest_shown (state_of s) a out is h),
        fewest-same (λ f. (
          λ w. ((allowed_same r 4 f).0 w.0, (w.1.0, (set_by_set r f w.1.0).0 w.1.1)),
          λ w. ((allowed_same r 4 f).1 w.0, (w.1.0, (set_by_set r f w.1.0).1 w.1.1)),
        )) a is,
      ),
    )
