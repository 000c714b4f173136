-- Runs of one monitor over the bytes that C lends, and demand 3 about them. "This holds for every list of receipts and ageings of one monitor after
-- a setting up that was taken, whatever messages, delays and readings come, refused steps included; each gets the state the last one left, and
-- nobody else writes it meanwhile." Each call is the one whose number and bytes the exported functions promise.
-- Assumes nothing: these are definitions.
use Rattle.std.specs.Prelude.{ℕ, zero, suc, ◌≤◌, ◌≡◌, ◌⊎◌, ◌↔◌, List, [], ◌∷◌, length, ℤ, pos, negsuc, None}
use Rattle.ends.specs.Ends.{down, up}
use Rattle.state.specs.Layout.{head_of, store_of}
use Rattle.epochs.specs.Epochs.{NotAbove}
use Rattle.state.specs.Model.{Head}
use Rattle.engine.specs.Hearing.{spoken_by}
use Rattle.engine.specs.Calls.{Setup}
use Rattle.asking.specs.declared.Answer.{Answer}
use Rattle.asking.specs.declared.Answer.TheVariants.{Contradicted, Open, Between}
use Rattle.asking.specs.Asking.{answer_numbers}
use Rattle.asking.specs.Instants.{Allowed, Fine}
use Rattle.asking.specs.Fewest.{Fewest, FewestOf, fewest_numbers}
use Rattle.monitor.specs.Calls.{set_up_number, set_up_state, age_number, age_state}
use Rattle.monitor.specs.Receive.{Delivered, refused, brings, delivered, receive_number, receive_state}
use Rattle.monitor.specs.Ask.{limit_most, answer_size, fewest_size, Shows, ask_number, ask_output, fewest_number, fewest_output}
use Rattle.runs.specs.Book.{Request, ageing, receipt, Step, Book, opened, entered_request, book_of, sees, EndsOn, Possible}

-- ---- a run

-- the number that a call on the state bytes s returns
unfoldable pub request_number : List ℕ → Request → ℕ
request_number s (ageing reading) = age_number s reading
request_number s (receipt g) = receive_number s g

-- the state bytes that it leaves
unfoldable pub bytes_after : List ℕ → Request → List ℕ
bytes_after s (ageing reading) = age_state s reading
bytes_after s (receipt g) = receive_state s g

-- "each gets the state the last one left": the bytes after a list of calls, and the calls with their numbers
unfoldable pub bytes_run : List ℕ → List Request → List ℕ
bytes_run s [] = s
bytes_run s (q ∷ qs) = bytes_run (bytes_after s q) qs

unfoldable pub steps : List ℕ → List Request → List Step
steps s [] = []
steps s (q ∷ qs) = record { request = q; number = request_number s q } ∷ steps (bytes_after s q) qs

-- a setting up that was taken, in a buffer that C lends, and the calls after it
pub record Run : Type 0 where
  pub buffer : List ℕ
  pub setup : Setup
  pub taken : set_up_number buffer setup ≡ 0
  pub requests : List Request

unfoldable pub begin : Run → List ℕ
begin r = set_up_state r.buffer r.setup

-- the state bytes after the run, its steps, and its book
unfoldable pub state_after : Run → List ℕ
state_after r = bytes_run (begin r) r.requests

unfoldable pub steps_of : Run → List Step
steps_of r = steps (begin r) r.requests

unfoldable pub book : Run → Book
book r = book_of (opened r.setup) (steps_of r)

-- ---- what the answer tells

-- l is the least of the instants P, r the greatest
abbrev pub AtLeast : ℕ → ℤ → Type 0
AtLeast l (pos n) = l ≤ n
AtLeast l (negsuc n) = ⊥

abbrev pub AtMost : ℕ → ℤ → Type 0
AtMost r (pos n) = n ≤ r
AtMost r (negsuc n) = Unit {0}

abbrev pub Least : (ℤ → Type 0) → ℕ → Type 0
Least P l = P (pos l) × ((x : ℤ) → P x → AtLeast l x)

abbrev pub Greatest : (ℤ → Type 0) → ℕ → Type 0
Greatest P r = P (pos r) × ((x : ℤ) → P x → AtMost r x)

-- "the answer is 'contradicted' exactly when no instant is possible, 'open' exactly when all are, and otherwise the least and the greatest
-- possible one"; "an instant in demand 3 is now a whole count of millionths, the answer gives the least and the greatest possible one so rounded"
-- (document 02, W-205)
pub record Tells (P : ℤ → Type 0) (a : Answer) : Type 0 where
  pub contradicted : (a ≡ Contradicted) ↔ ((x : ℤ) → P x → ⊥)
  pub unbounded : (a ≡ Open) ↔ ((x : ℤ) → P x)
  pub between : (l r : ℕ) → (a ≡ Between l r) ↔ ((m : ℕ) × (n : ℕ) × Least P m × Greatest P n × (l ≡ down m) × (r ≡ up n))

-- ---- demand 3

-- "After the list, for every limit from 0 to 4": asking is taken, and the 24 bytes are those of an answer ("0 contradicted, 1 open, 2 between; left;
-- right, both 0 unless between"), the one that the possible instants of the run's book give
unfoldable pub Demand3 : Type 0
Demand3 =
    (r : Run) (limit : ℕ) → limit ≤ limit_most → (out : List ℕ) → answer_size ≤ length out
    → (ask_number (state_after r) limit out ≡ 0)
    × ((a : Answer) × Shows (ask_output (state_after r) limit out) (answer_numbers a) × Tells (Possible limit (book r)) a)

-- the taken calls, in order
abbrev pub if_taken : ℕ → Request → List Request → List Request
if_taken zero q qs = q ∷ qs
if_taken (suc n) q qs = qs

unfoldable pub taken_of : List Step → List Request
taken_of [] = []
taken_of (p ∷ ps) = if_taken p.number p.request (taken_of ps)

-- what a message delivers brings "no epoch above the one known"
abbrev pub Quiet : Head → Delivered → Type 0
Quiet h (refused number) = Unit {0}
Quiet h (brings d) = NotAbove (spoken_by h d) h.epochs

-- what a further step may be, where the book is b: a receipt; "Q's further receipts come without readings", and they "bring no epoch above the one
-- known"
abbrev pub Extra : Book → Request → Type 0
Extra b (ageing reading) = ⊥
Extra b (receipt g) = (g.readings ≡ None) × Quiet b.head (delivered g)

-- "Q's taken steps are P's taken steps in order with further receipts before, between or after them"; the book is Q's so far
abbrev pub Further : Book → List Request → List Request → Type 0
Further b [] [] = Unit {0}
Further b (p ∷ ps) [] = ⊥
Further b [] (q ∷ qs) = Extra b q × Further (entered_request b q) [] qs
Further b (p ∷ ps) (q ∷ qs) = ((p ≡ q) × Further (entered_request b q) ps qs) ⊎ (Extra b q × Further (entered_request b q) (p ∷ ps) qs)

-- "for every two such runs P and Q, set up alike, [..] and P is asked with a limit no smaller than Q's: each instant possible for Q is possible for
-- P". "Set up alike means with the same numbers"
unfoldable pub Demand3More : Type 0
Demand3More =
    (P Q : Run) → P.setup ≡ Q.setup → Further (opened Q.setup) (taken_of (steps_of P)) (taken_of (steps_of Q)) → (limit_p limit_q : ℕ)
    → limit_q ≤ limit_p
    → (x : ℤ) → Possible limit_q (book Q) x → Possible limit_p (book P) x

-- "The demand is one statement about the whole list": both halves
unfoldable pub Demand3Whole : Type 0
Demand3Whole = Demand3 × Demand3More

-- ---- ageing in pieces

-- "Ageing in two calls gives the same bytes as in one to the later reading, none refused" (document 02, W-205)
pub record AgesOnce (s : List ℕ) (t u : ℕ) : Type 0 where
  -- two that are taken: so is the one, and it leaves their bytes
  pub joined : age_number s t ≡ 0 → age_number (age_state s t) u ≡ 0 → (age_number s u ≡ 0) × (age_state (age_state s t) u ≡ age_state s u)
  -- one that is taken: so are two, by any reading between, and they leave its bytes
  pub parted : age_number s u ≡ 0 → (head_of s).reading ≤ t → t ≤ u
      → (age_number s t ≡ 0) × (age_number (age_state s t) u ≡ 0) × (age_state (age_state s t) u ≡ age_state s u)

unfoldable pub AgedOnce : Type 0
AgedOnce = (s : List ℕ) (t u : ℕ) → AgesOnce s t u

-- ---- set by set

-- the law under it: for every set of current names, of any size, the instants that the state leaves it are those on which the book's paths agreeing
-- with it end
unfoldable pub SetBySet : Type 0
SetBySet = (r : Run) (s : ℕ) (x : ℤ) → Fine s (store_of (state_after r)) x ↔ EndsOn (sees (book r).head.epochs s) (book r).lines x

-- the fewest failures by the book: of the sets of at most 4 current names, without the own one, with which some path of the book agrees; the 16 bytes
-- are theirs ("count, 5 for over 4; mask, then 0")
unfoldable pub FewestByBook : Type 0
FewestByBook =
    (r : Run) (out : List ℕ) → fewest_size ≤ length out
    → (fewest_number (state_after r) out ≡ 0)
    × ((a : Fewest) × Shows (fewest_output (state_after r) out) (fewest_numbers a)
    × FewestOf (λ s. Allowed 4 (book r).head.own s × ((x : ℤ) × EndsOn (sees (book r).head.epochs s) (book r).lines x)) a)
