-- Laws of `specs.Run`: when a run goes on, that it ends, and the end of the input.
-- The idea: while a run goes on each read brings a byte, and there is a count that no run reads past. No contract cites this file. Assumes nothing.
use Prim.Native.Nat.{ℕ, ◌+◌, ◌*◌, ◌-◌, ◌≤◌, ◌<◌}
use mathlib.Core.Path.{◌≡◌, refl}
use mathlib.Core.Logic.{◌⊎◌, inl, inr, ⊎_elim}
use mathlib.Core.Bool.{Bool, true, false, ◌||◌, not, cond}
use native.Mathlib.Omega.{arith}
use lib.Dec.{T, leb, ltb, eqb, ltb→lt, nltb→le}
use borrow.Author.Tests.{le-leb, eqb-false}
use lib.IntN.{ℤ}
use lib.ListN.{length, length-append}
use Rattle.std.specs.Prelude.{Result, Ok, Err}
use Rattle.predicates.proofs.ListLaws.{both, both_l, both_r, or_l, or_r, neither, true_T, T_false, split, cond_ind}
use Rattle.lines.specs.code.Sizes.{answer_most}
use Rattle.stream.specs.Kept.{Kept, nothing_kept, last_text}
use Rattle.stream.proofs.StreamLaws.{text-most}
use Rattle.stream.proofs.ListingLaws.{listing_streamed}
use Rattle.listing.specs.declared.count.Tally.{Tally}
use Rattle.listing.specs.System.{moved_by, is_end, is_failure, is_repeated, goes_on}
use Rattle.listing.specs.code.Calls.{no_call}
use Rattle.listing.specs.Run.{read_most, is_lost, stopped, Went, Ran, CallsTell}
use Rattle.listing.specs.code.Turns.{piece_most, is_going, nothing_done}

-- ---- a run

-- before the first call nothing is lost
pub none-tells : (t : Tally) → t ≡ nothing_done → CallsTell t × (T (is_end t.input.got) → t.written ≡ t.handed)
unfolding nothing_done no_call is_repeated goes_on
none-tells t e = rw e (record { tried = tt; within = omega arith; lost = refl }, λ _. refl)

pub none_read : (t : Tally) → t ≡ nothing_done → t.read < read_most + piece_most
unfolding nothing_done
none_read t e = rw e (omega arith)

-- no byte was handed on that no byte of the input pays for
pub went_most : {read handed : ℕ} {k : Kept} → Went read handed k → handed ≤ answer_most * read
went_most w = omega (arith, w.came, w.prints, text-most nothing_kept w.input)

-- a run that goes on can read more, and has written all
goes_moved : (got : Result ℕ ℤ) (lost : Bool) → T (not (is_end got || (is_failure got || lost))) → 1 ≤ moved_by got
goes_moved (Ok n) lost h = omega (arith, eqb-false n 0 (T_false _ (neither (eqb n 0) lost h).0))
goes_moved (Err e) lost h = absurd h

module _ (t : Tally) (goes : T (is_going t)) where
  pub goes_below : t.read < read_most
  unfolding is_going
  goes_below = ltb→lt t.read read_most (both_l (ltb t.read read_most) _ goes)

  goes_unstopped : T (not (stopped t))
  unfolding is_going
  goes_unstopped = both_r (ltb t.read read_most) _ goes

  pub goes_written : t.written ≤ t.handed → t.written ≡ t.handed
  goes_written w =
      let whole = (neither (is_failure t.input.got) (is_lost t) (neither (is_end t.input.got) _ goes_unstopped).1).1 in
      omega (arith, nltb→le t.written t.handed whole)

-- what may still be read, while the run goes on
abbrev pub read_left : Tally → ℕ
read_left t = cond (is_going t) (1 + (read_most - t.read)) 0

-- a turn makes it less
pub run_less : (old new : Tally) → new.read ≡ old.read + moved_by new.input.got → is_going old ≡ true → read_left new < read_left old
run_less old new e goes =
    rw goes
    (cond_ind (λ (m : ℕ). m < 1 + (read_most - old.read)) (is_going new) (1 + (read_most - new.read)) 0
    (λ h. omega (arith, goes_moved new.input.got (is_lost new) (goes_unstopped new h), goes_below old (true_T _ goes))) (λ _. omega arith))

-- a run that does not go on was stopped, or has read so much
pub run_stopped : (t : Tally) → is_going t ≡ false → T (stopped t || leb read_most t.read)
unfolding is_going
run_stopped t e =
    ⊎_elim (λ h. or_l (stopped t) _ h)
    (λ h. or_r (stopped t) _ (true_T _ (le-leb read_most t.read (full (split (ltb t.read read_most)) h)))) (split (stopped t))
  where
    full : T (ltb t.read read_most) ⊎ T (not (ltb t.read read_most)) → T (not (stopped t)) → read_most ≤ t.read
    full (inl more) h = absurd (rw e at (both (ltb t.read read_most) (not (stopped t)) more h))
    full (inr most) h = nltb→le t.read read_most most

-- the input has ended: what the end prints stands behind
pub ran_whole : {read handed : ℕ} {k : Kept} (handed' : ℕ) → Went read handed k → handed' ≡ handed + length (last_text k) → Ran read handed' true
ran_whole handed' w e =
    let last = rw w.keeps at e in record {
      input = w.input;
      came = w.came;
      prints = rw (listing_streamed, length-append) (omega (arith, w.prints, last));
    }
