-- The book of a run, and the instants that are possible by it (document 01, "Asking"). "The book is fed each call's arguments and whether it was
-- taken, and nothing from the state bytes." Assumes nothing: these are definitions.
use Rattle.std.specs.Prelude.{ℕ, zero, suc, ◌≤◌, ◌≡◌, ◌⊎◌, Bool, true, cond, List, [], ◌∷◌, ◌++◌, T, ℤ, pos, ◌+ℤ◌}
use Rattle.names.specs.Sets.{set_union, has}
use Rattle.predicates.specs.Predicates.{holds}
use Rattle.epochs.specs.Epochs.{older}
use Rattle.state.specs.Model.{Datum, Head}
use Rattle.engine.specs.Ageing.{slow, fast}
use Rattle.engine.specs.Receiving.{grown}
use Rattle.engine.specs.Hearing.{spoken_by}
use Rattle.engine.specs.Calls.{Setup, begun, Call, age, receive, violated, moved}
use Rattle.asking.specs.Instants.{Within, Allowed}
use Rattle.monitor.specs.Receive.{Receipt, Delivered, refused, brings, delivered}

-- ---- calls as C makes them

-- an ageing to a reading, or a receipt with what C gives it. The state bytes aside, these are the call and its arguments: "two steps are the same
-- when call and arguments, the state bytes aside, are"
pub data Request : Type 0 where
  ageing : ℕ → Request
  receipt : Receipt → Request

-- a call with the number that it returned
pub record Step : Type 0 where
  pub request : Request
  pub number : ℕ

-- ---- the book

-- The identifiers in a line's terms, and the one that a violation names, stand for names under the epochs that the message spoke of (document 02,
-- W-204), which the line keeps.
pub data Line : Type 0 where
  advanced : ℕ → ℕ → Line
  heard : List ℕ → Datum → Line
  -- document 02, W-201: "from that moment a possible instant needs a set that holds the name"
  blames : List ℕ → ℕ → Line

pub record Book : Type 0 where
  pub head : Head
  pub lines : List Line

-- "Setting up enters own name, drift and reading.", and the own epoch.
unfoldable pub opened : Setup → Book
opened u = record { head = begun u; lines = [] }

-- "A taken ageing enters its least and greatest advance since the last reading, and the new reading" (which `moved` puts into the head).
-- "A taken receipt enters the grown interval and the predicate formed at the head of Receiving, a true one too; what is stored or dropped later
-- plays no part." A violation enters its line first. "The book of demand 3 keeps triples of its own by the same rule", in its head (`moved`), and by
-- document 02, W-204, it "keeps known epochs of its own by the same rule".
unfoldable pub lines_of : Head → Call → List Line
lines_of h (age reading) = advanced (slow h reading) (fast h reading) ∷ []
lines_of h (receive g) = cond (violated h g) (blames (spoken_by h g) g.sender ∷ []) [] ++ (heard (spoken_by h g) (grown h g) ∷ [])

unfoldable pub entered : Book → Call → Book
entered b c = record { head = moved b.head c; lines = b.lines ++ lines_of b.head c }

-- a receipt enters what its message delivers; a message that cannot be read is never taken
unfoldable pub entered_delivery : Book → Delivered → Book
entered_delivery b (refused number) = b
entered_delivery b (brings g) = entered b (receive g)

unfoldable pub entered_request : Book → Request → Book
entered_request b (ageing reading) = entered b (age reading)
entered_request b (receipt g) = entered_delivery b (delivered g)

-- "A refused call enters nothing."
unfoldable pub noted : ℕ → Book → Request → Book
noted zero b q = entered_request b q
noted (suc n) b q = b

unfoldable pub book_of : Book → List Step → Book
book_of b [] = b
book_of b (p ∷ ps) = book_of (noted p.number b p.request) ps

-- ---- paths

-- Where ks are the known epochs, s has names that are current, and every older name counts as failed: "An explaining set now counts current names
-- only, failed old ones being free". Of a line with the epochs es these are the failed identifiers.
abbrev pub failed_under : List ℕ → ℕ → List ℕ → ℕ
failed_under ks s es = set_union s (older es ks)

-- they make the line's predicate true, or hold its name
unfoldable pub sees : List ℕ → ℕ → Line → Bool
sees ks s (advanced lo hi) = true
sees ks s (heard es d) = holds (failed_under ks s es) d.terms
sees ks s (blames es n) = has n (failed_under ks s es)

-- a path from the true time y to the true time x, where v tells which lines' predicates are true. "In the book's order each ageing advances it by
-- a whole amount from its least to its greatest (the drift bounds). A receipt leaves it where it is, and it is then in the interval or the set
-- makes the predicate true." A violation leaves it there too, and the set holds the name.
abbrev pub Walk : (Line → Bool) → List Line → ℤ → ℤ → Type 0
Walk v [] y x = y ≡ x
Walk v (advanced lo hi ∷ ls) y x = (a : ℕ) × (lo ≤ a) × (a ≤ hi) × Walk v ls (y +ℤ pos a) x
Walk v (heard es d ∷ ls) y x = (Within d.left d.right y ⊎ T (v (heard es d))) × Walk v ls y x
Walk v (blames es n ∷ ls) y x = T (v (blames es n)) × Walk v ls y x

-- "The path starts with any whole true time, negative ones allowed"; it ends on x
abbrev pub EndsOn : (Line → Bool) → List Line → ℤ → Type 0
EndsOn v ls x = (y : ℤ) × Walk v ls y x

-- "A set and a path agree with the book": "The set has at most the limit's count of names, without the own one." "Possible is each instant that such
-- a path ends on." Document 02, W-204: "names current at the run's end, for every receipt and violation in the book".
abbrev pub Possible : ℕ → Book → ℤ → Type 0
Possible limit b x = (s : ℕ) × Allowed limit b.head.own s × EndsOn (sees b.head.epochs s) b.lines x
