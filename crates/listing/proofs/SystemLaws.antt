-- Laws of `specs.System`: what a call returned, and a turn of each loop on plain values.
-- The idea: a call that moves nothing uses up a try, and any other one brings the text forward. No contract cites this file. Assumes nothing.
use Rattle.std.proofs.Common.{ℕ, ◌+◌, ◌-◌, ◌≤◌, ◌<◌, ◌≡◌, refl, sym, ap, ◌∙◌, true, false, ◌||◌, not, T, ltb, List, [], Option, None, Some, Result, Ok, Err, IfOk, length, take, drop, append-nil, arith}
use Rattle.std.proofs.Math.Seq.{take-add}
use Rattle.std.specs.Io.{ReadsAtMost}
use Rattle.std.specs.Io.KnownBytes.{Keeps, Consumes, Appends, ReadConsumes, WriteAppends}
use Rattle.std.proofs.KnownBytes.{Consumes-trans, Appends-trans}
use Rattle.std.specs.declared.io.Error.{Error}
use mathlib.Core.Logic.{⊎_elim}
use borrow.Author.Tests.{lt-ltb, le-ltb, ltb-true, ne_eqb, eqb-false}
use lib.Dec.{eqb, eqb→eq}
use lib.IntN.{ℤ}
use Rattle.predicates.proofs.ListLaws.{both, both_l, both_r, or_l, or_r, T_true, T_false, true_T, split}
use Rattle.listing.specs.declared.system.Call.{Call}
use Rattle.listing.specs.System.{moved_by, returned, tries_again, tries_most, is_repeated, goes_on, Takes}
use Rattle.listing.specs.code.Calls.{no_call, call_after}

-- ---- what a call returned

-- bytes that stay are none that are taken, and none that are told
kept_takes : (a b : Option (List ℕ)) → Keeps a b → Consumes a b []
kept_takes None b p = tt
kept_takes (Some x) None p = absurd p
kept_takes (Some x) (Some y) p = sym p

kept_tells : (a b : Option (List ℕ)) → Keeps a b → Appends a b []
kept_tells None b p = tt
kept_tells (Some x) None p = absurd p
kept_tells (Some x) (Some y) p = p ∙ sym (append-nil x)

pub moved_most : (r : Result ℕ Error) (c : Call) (n : ℕ) → c.got ≡ returned r → IfOk r (λ k. k ≤ n) → moved_by c.got ≤ n
moved_most (Ok k) c n e h = rw e h
moved_most (Err x) c n e h = rw e (omega arith)

pub read_most : (r : Result ℕ Error) (c : Call) (buf : List ℕ) → c.got ≡ returned r → ReadsAtMost r buf → moved_by c.got ≤ length buf
read_most (Ok k) c buf e h = rw e h.0
read_most (Err x) c buf e h = rw e (omega arith)

pub read_takes : (a b : Option (List ℕ)) (r : Result ℕ Error) (c : Call) (buf : List ℕ) → c.got ≡ returned r → ReadConsumes a b r buf → Takes a b c buf
read_takes a b (Ok n) c buf e h = record { taken = rw e h.0; ended = λ end room. h.1 (eqb→eq n 0 (rw e at end)) room }
read_takes a b (Err x) c buf e h = record { taken = rw e (kept_takes a b h); ended = λ end room. absurd (rw e at end) }

pub write_tells : (a b : Option (List ℕ)) (r : Result ℕ Error) (c : Call) (text : List ℕ) → c.got ≡ returned r → WriteAppends a b r text
    → Appends a b (take (moved_by c.got) text)
write_tells a b (Ok n) c text e h = rw e h
write_tells a b (Err x) c text e h = rw e (kept_tells a b h)

-- ---- one call after the other

pub after_got : (last next : Call) (got : Result ℕ ℤ) → next ≡ call_after last got → next.got ≡ got
unfolding call_after
after_got last next got e = ap (λ (c : Call). c.got) e

-- a call that moved nothing has used up a try, and one that moved something none
tries_none : (last next : Call) (got : Result ℕ ℤ) → next ≡ call_after last got → moved_by next.got ≡ 0 → next.tries ≡ last.tries + 1
unfolding call_after
tries_none last next got e none =
    let zero : moved_by got ≡ 0 = ap moved_by (sym (after_got last next got e)) ∙ none in
    ap (λ (c : Call). c.tries) e ∙ rw zero

tries_some : (last next : Call) (got : Result ℕ ℤ) → next ≡ call_after last got → (moved_by next.got ≡ 0 → ⊥) → next.tries ≡ last.tries
unfolding call_after
tries_some last next got e some =
    let more : moved_by got ≡ 0 → ⊥ = λ (z : moved_by got ≡ 0). some (ap moved_by (after_got last next got e) ∙ z) in
    ap (λ (c : Call). c.tries) e ∙ rw (ne_eqb (moved_by got) 0 more)

-- before the first call
pub none_tries : (c : Call) → c ≡ no_call → c.tries < tries_most
unfolding no_call
none_tries c e = rw e (omega arith)

pub none_on : (c : Call) → c ≡ no_call → T (goes_on c)
unfolding no_call goes_on
none_on c e = rw e tt

-- a call that is made again, and one behind which the rest is tried, leave a try
pub repeated_tries : (c : Call) → is_repeated c ≡ true → c.tries < tries_most
unfolding is_repeated
repeated_tries c e = ltb-true c.tries tries_most (T_true _ (both_l (ltb c.tries tries_most) _ (true_T _ e)))

pub on_tries : (c : Call) → goes_on c ≡ true → c.tries < tries_most
unfolding goes_on
on_tries c e = ltb-true c.tries tries_most (T_true _ (both_l (ltb c.tries tries_most) _ (true_T _ e)))

-- ---- reading

failed_none : (got : Result ℕ ℤ) → T (tries_again got) → moved_by got ≡ 0
failed_none (Ok n) h = absurd h
failed_none (Err e) h = refl

repeated_none : (c : Call) → T (is_repeated c) → moved_by c.got ≡ 0
unfolding is_repeated
repeated_none c t = failed_none c.got (both_r (ltb c.tries tries_most) _ t)

-- a call that is made again has used up a try
pub read_less : (last next : Call) (got : Result ℕ ℤ) → next ≡ call_after last got → is_repeated next ≡ true → tries_most - next.tries < tries_most - last.tries
read_less last next got e on =
    omega (arith, tries_none last next got e (repeated_none next (true_T _ on)), repeated_tries next on)

-- it has taken nothing
pub repeated_takes : (a b c : Option (List ℕ)) (last : Call) (buf : List ℕ) → is_repeated last ≡ true → Consumes a b [] → Takes b c last buf → Consumes a c []
repeated_takes a b c last buf e p q = Consumes-trans a b c [] [] p (rw (repeated_none last (true_T _ e)) at q.taken)

-- the last one takes all that the calls take
pub last_takes : (a b c : Option (List ℕ)) (last : Call) (buf : List ℕ) → Consumes a b [] → Takes b c last buf → Takes a c last buf
last_takes a b c last buf p q = record { taken = Consumes-trans a b c [] (take (moved_by last.got) buf) p q.taken; ended = q.ended }

-- ---- writing

-- what is left of a text and of the tries
abbrev pub writes_left : ℕ → ℕ → Call → ℕ
writes_left n at c = (n - at) + (tries_most - c.tries)

-- behind a call that moved something the rest is tried
some_on : (c : Call) → (moved_by c.got ≡ 0 → ⊥) → c.tries < tries_most → T (goes_on c)
unfolding goes_on
some_on c some few =
    both (ltb c.tries tries_most) _ (true_T _ (lt-ltb c.tries tries_most few))
    (or_l (ltb 0 (moved_by c.got)) _ (true_T _ (lt-ltb 0 (moved_by c.got) (omega (arith, some)))))

module _ (n at : ℕ) (last next : Call) (got : Result ℕ ℤ) (e : next ≡ call_after last got) (on : goes_on last ≡ true) where
  pub write_less : at + moved_by next.got ≤ n → writes_left n (at + moved_by next.got) next < writes_left n at last
  write_less fits =
      ⊎_elim (λ t.
      let none = eqb→eq (moved_by next.got) 0 t in
      omega (arith, tries_none last next got e none, none, on_tries last on))
      (λ f.
      let some = eqb-false (moved_by next.got) 0 (T_false _ f) in
      omega (arith, tries_some last next got e some, some))
      (split (eqb (moved_by next.got) 0))

  -- the rest is tried unless the whole text is written
  pub write_next : at < n → T (ltb (at + moved_by next.got) n || goes_on next)
  write_next more =
      ⊎_elim (λ t. or_l (ltb (at + moved_by next.got) n) _ (true_T _ (lt-ltb _ n (omega (arith, eqb→eq (moved_by next.got) 0 t)))))
      (λ f.
      let some = eqb-false (moved_by next.got) 0 (T_false _ f) in
      or_r (ltb (at + moved_by next.got) n) _ (some_on next some (omega (arith, tries_some last next got e some, on_tries last on))))
      (split (eqb (moved_by next.got) 0))

-- the whole text is written
pub write-whole : (n at : ℕ) (last : Call) → n ≤ at → T (ltb at n || goes_on last) → ltb at n ≡ not (goes_on last)
write-whole n at last h t = rw (le-ltb at n h, T_true (goes_on last) (rw (le-ltb at n h) at t))

-- or the rest is not tried
pub write_part : (n at : ℕ) (last : Call) → at < n → goes_on last ≡ false → ltb at n ≡ not (goes_on last)
write_part n at last h e = rw (lt-ltb at n h, e)

-- behind what was written of a text stands what is written of its rest
pub tells_more : (a b c : Option (List ℕ)) (at more : ℕ) (text rest : List ℕ) → rest ≡ drop at text → Appends a b (take at text)
    → Appends b c (take more rest) → Appends a c (take (at + more) text)
tells_more a b c at more text rest e p q = rw take-add (Appends-trans a b c (take at text) (take more (drop at text)) p (rw e at q))
