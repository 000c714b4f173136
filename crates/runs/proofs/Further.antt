-- Demand 3, second half: a run that takes further receipts makes no further instant possible; and with it the whole demand.
-- The idea: a book is fed the taken calls alone, so the two books are compared line by line. A line that both have keeps the order of the two
-- books; one more receipt only takes paths away. Assumes nothing.
use Prim.Native.Nat.{ℕ, zero, suc}
use mathlib.Core.Path.{◌≡◌, refl, ap, subst, ◌∙◌}
use mathlib.Core.Logic.{inl, inr}
use mathlib.Core.Bool.{Bool}
use mathlib.Core.List.{List, [], ◌∷◌}
use native.Mathlib.Nat.{le_trans}
use lib.IntN.{ℤ}
use Rattle.state.specs.Model.{Head}
use Rattle.epochs.specs.Epochs.{NotAbove}
use Rattle.engine.specs.Receiving.{Delivery, grown}
use Rattle.engine.specs.Hearing.{spoken_by, hearing, heeded}
use Rattle.engine.specs.Calls.{Setup, Call, age, receive, clock_of, violated, moved}
use Rattle.engine.proofs.WatchLaws.{watched-none, violated-none}
use Rattle.engine.proofs.HearingLaws.{heeded-none, quiet-hearing}
use Rattle.asking.specs.Instants.{Allowed}
use Rattle.monitor.specs.Receive.{Delivered, refused, brings, delivered}
use Rattle.monitor.proofs.FormKept.{brought_readings}
use Rattle.runs.specs.Book.{Request, ageing, receipt, Step, Line, heard, Book, opened, lines_of, entered, entered_request, noted, book_of, sees}
use Rattle.runs.specs.Book.{entered_delivery, EndsOn}
use Rattle.runs.specs.Runs.{Run, steps_of, book, if_taken, taken_of, Quiet, Extra, Further, Demand3More, Demand3Whole}
use Rattle.runs.proofs.Agreement.{ends_out, ends_in}
use Rattle.std.specs.Prelude.{None}
use Rattle.runs.proofs.Demand3.{demand3}

-- ---- the book of the taken calls

unfoldable pub written : Book → List Request → Book
written b [] = b
written b (q ∷ qs) = written (entered_request b q) qs

pub book-written : (ps : List Step) (b : Book) → book_of b ps ≡ written b (taken_of ps)
unfolding book_of written taken_of noted
book-written [] b = refl
book-written (p ∷ ps) b = book-written ps (noted p.number b p.request) ∙ go p.number p.request (taken_of ps)
  where
    go : (n : ℕ) (q : Request) (qs : List Request) → written (noted n b q) qs ≡ written b (if_taken n q qs)
    go zero q qs = refl
    go (suc n) q qs = refl

-- ---- one book lets through no more than another

-- c has the head of b, and its paths end only where those of b do, whatever predicates are true
pub record Less (c b : Book) : Type 0 where
  pub head : c.head ≡ b.head
  pub ends : (v : Line → Bool) (x : ℤ) → EndsOn v c.lines x → EndsOn v b.lines x

pub less_refl : (b : Book) → Less b b
less_refl b = record { head = refl; ends = λ v x p. p }

-- so for each set of names, which are current in both
pub less_sees : (c b : Book) → Less c b → (s : ℕ) (x : ℤ) → EndsOn (sees c.head.epochs s) c.lines x
    → EndsOn (sees b.head.epochs s) b.lines x
less_sees c b l s x p = subst (λ (h : Head). EndsOn (sees h.epochs s) b.lines x) l.head (l.ends (sees c.head.epochs s) x p)

-- the same call in both
less_call : (c b : Book) (q : Call) → Less c b → Less (entered c q) (entered b q)
unfolding entered
less_call c b q l =
    record {
      head = ap (λ (h : Head). moved h q) l.head;
      ends = λ v x p.
          let w = ends_out v c.lines (lines_of c.head q) x p in
          ends_in v b.lines (lines_of b.head q) w.0 x (l.ends v w.0 w.1) (rw (← l.head) w.2);
    }

-- a receipt in the first alone, without readings and without an epoch above the known one: it enters its own line, nothing is saved, no epoch rises
less_receipt : (c b : Book) (g : Delivery) → g.readings ≡ None → NotAbove (spoken_by c.head g) c.head.epochs → Less c b
    → Less (entered c (receive g)) b
unfolding entered moved lines_of violated
less_receipt c b g e q l =
    let none = heeded-none c.head g e in
    record {
      head = rw (quiet-hearing c.head g q, watched-none (heeded c.head g) g.sender c.head.clocks none) l.head;
      ends = λ v x p.
          let own_line = rw (violated-none c.head.drift (clock_of (hearing c.head g) g.sender) (heeded c.head g) none) at p in
          let w = ends_out v c.lines (heard (spoken_by c.head g) (grown c.head g) ∷ []) x own_line in
          rw w.2.1 at (l.ends v w.0 w.1);
    }

module _ (c b : Book) (l : Less c b) where
  pub less_both : (q : Request) → Less (entered_request c q) (entered_request b q)
  unfolding entered_request entered_delivery
  less_both (ageing reading) = less_call c b (age reading) l
  less_both (receipt g) = go (delivered g)
    where
      go : (d : Delivered) → Less (entered_delivery c d) (entered_delivery b d)
      go (refused number) = l
      go (brings d) = less_call c b _ l

  less_more : (q : Request) → Extra c q → Less (entered_request c q) b
  unfolding entered_request entered_delivery
  less_more (ageing reading) e = absurd e
  less_more (receipt g) e = go (delivered g) refl e.1
    where
      go : (d : Delivered) → delivered g ≡ d → Quiet c.head d → Less (entered_delivery c d) b
      go (refused number) p q = l
      go (brings d) p q = less_receipt c b d (brought_readings g d p ∙ e.0) q l

less_written : (qs ps : List Request) (c b : Book) → Less c b → Further c ps qs → Less (written c qs) (written b ps)
unfolding written
less_written [] [] c b l f = l
less_written [] (p ∷ ps) c b l f = absurd f
less_written (q ∷ qs) [] c b l f = less_written qs [] (entered_request c q) b (less_more c b l q f.0) f.1
less_written (q ∷ qs) (p ∷ ps) c b l (inl f) =
    less_written qs ps (entered_request c q) (entered_request b p) (rw f.0 (less_both c b l q)) f.1
less_written (q ∷ qs) (p ∷ ps) c b l (inr f) = less_written qs (p ∷ ps) (entered_request c q) b (less_more c b l q f.0) f.1

-- ---- two runs

books_less : (P Q : Run) → P.setup ≡ Q.setup → Further (opened Q.setup) (taken_of (steps_of P)) (taken_of (steps_of Q)) → Less (book Q) (book P)
unfolding book
books_less P Q e f =
    let b = opened P.setup in
    let alike : Less (opened Q.setup) b = subst (λ (u : Setup). Less (opened u) b) e (less_refl b) in
    rw (book-written (steps_of P) b, book-written (steps_of Q) (opened Q.setup))
    (less_written (taken_of (steps_of Q)) (taken_of (steps_of P)) (opened Q.setup) b alike f)

pub demand3_more : Demand3More
unfolding Demand3More
demand3_more P Q e f limit_p limit_q le x (s, a, p) =
    let l = books_less P Q e f in
    let allowed : Allowed limit_p (book P).head.own s = record { names = a.names; few = le_trans a.few le; others = rw l.head at a.others } in
    (s, allowed, less_sees (book Q) (book P) l s x p)

-- ---- the whole demand

pub demand3_whole : Demand3Whole
unfolding Demand3Whole
demand3_whole = (demand3, demand3_more)
