-- Laws of `specs.Run` on the bytes of a reader and a writer, where they are known: before a run, behind a turn, and at the end.
-- The idea: what was read is the input so far, and what was written of its text is all of it while the run goes on. No contract cites this file.
-- Assumes nothing.
use Rattle.std.proofs.Common.{ℕ, ◌+◌, ◌-◌, ◌≤◌, ◌<◌, ◌≡◌, refl, sym, ap, ◌∙◌, true, false, not, T, List, [], ◌++◌, Option, None, Some, IfSome, length, take, length-append, append-nil, arith}
use borrow.Author.Tests.{ltb-false}
use Rattle.std.proofs.Math.Seq.{take_all, take-append-add}
use Rattle.std.specs.Io.KnownBytes.{Consumes, Appends, IsAtEnd}
use Rattle.std.proofs.KnownBytes.{Consumes-nil, Consumes-trans, Appends-nil, Appends-trans}
use Rattle.predicates.proofs.ListLaws.{T_true, T_false}
use Rattle.numbers.specs.Numbers.{put}
use Rattle.numbers.proofs.NumberLaws.{take_put}
use Rattle.stream.specs.Listing.{listing_of}
use Rattle.stream.specs.Kept.{Kept, nothing_kept, kept_after, text_after, last_text}
use Rattle.stream.proofs.StreamLaws.{kept_append, text-append}
use Rattle.stream.proofs.ListingLaws.{listing_streamed}
use Rattle.listing.specs.declared.count.Tally.{Tally}
use Rattle.listing.specs.System.{moved_by, is_end, Takes}
use Rattle.listing.specs.code.Calls.{no_call}
use Rattle.listing.specs.Run.{is_lost, Went, Passed, Listed}
use Rattle.listing.specs.code.Turns.{nothing_done, HandsOn, Turned}

-- ---- a turn

-- what is written of the front of an array is written of the text that stands there
pub told_by : (a b : Option (List ℕ)) (text out out₀ : List ℕ) (filled more : ℕ) → filled ≡ length text → out ≡ put 0 text out₀ → filled ≤ length out₀
    → Appends a b (take more (take filled out)) → Appends a b (take more text)
told_by a b text out out₀ filled more e p h q =
    let front : take filled out ≡ text = rw p (take_put filled text out₀ (sym e) h) in
    rw front at q

-- behind a text that is written stands what is written of the next one
told_on : (a b c : Option (List ℕ)) (written more : ℕ) (text next : List ℕ) → written ≡ length text → Appends a b (take written text)
    → Appends b c (take more next) → Appends a c (take (written + more) (text ++ next))
told_on a b c written more text next e p q =
    let whole : take written text ≡ text = take_all written text (omega arith) in
    let both = Appends-trans a b c text (take more next) (rw whole at p) q in
    rw (e, take-append-add text next more) both

-- ---- a run

-- before the first byte
pub passed_none : (r w : Option (List ℕ)) (k : Kept) (t : Tally) → k ≡ nothing_kept → t ≡ nothing_done → Passed r r w w t k
unfolding kept_after text_after nothing_done no_call
passed_none r w k t e f =
    rw f (record {
      input = [];
      came = refl;
      keeps = e;
      prints = refl;
      taken = Consumes-nil r;
      ended = λ end. absurd end;
      told = Appends-nil w;
    })

-- behind a turn
pub passed_turn : (r r₁ r₂ w w₁ w₂ : Option (List ℕ)) (buf : List ℕ) (k k' : Kept) (old new : Tally) → Passed r r₁ w w₁ old k → old.written ≡ old.handed
    → Turned (take (moved_by new.input.got) buf) k k' old new → 0 < length buf → Takes r₁ r₂ new.input buf → old.written ≤ new.written
    → Appends w₁ w₂ (take (new.written - old.written) (text_after k (take (moved_by new.input.got) buf))) → Passed r r₂ w w₂ new k'
passed_turn r r₁ r₂ w w₁ w₂ buf k k' old new p even turn room takes more tells =
    let piece : List ℕ = take (moved_by new.input.got) buf in
    let text : List ℕ = text_after nothing_kept p.input in
    let count : new.written ≡ old.written + (new.written - old.written) = omega arith in
    let same : text_after nothing_kept (p.input ++ piece) ≡ text ++ text_after k piece = rw p.keeps (text-append nothing_kept p.input piece) in
    let behind = told_on w w₁ w₂ old.written (new.written - old.written) text (text_after k piece) (even ∙ p.prints) p.told tells in
    record {
      input = p.input ++ piece;
      came = rw length-append (omega (arith, p.came, turn.read));
      keeps = rw (kept_append, ← p.keeps) turn.keeps;
      prints = rw (same, length-append) (omega (arith, p.prints, turn.prints));
      taken = Consumes-trans r r₁ r₂ p.input piece p.taken takes.taken;
      ended = λ end. takes.ended end room;
      told = rw same (rw (← count) at behind);
    }

-- the bytes left out
pub passed_went : {r r' w w' : Option (List ℕ)} {t : Tally} {k : Kept} → Passed r r' w w' t k → Went t.read t.handed k
passed_went p = record { input = p.input; came = p.came; keeps = p.keeps; prints = p.prints }

-- ---- the end of a run

-- the input has not ended
pub listed_part : {r r' w w' : Option (List ℕ)} {t : Tally} {k : Kept} → Passed r r' w w' t k → is_end t.input.got ≡ false → Listed r r' w w' t
listed_part p e =
    record {
      input = p.input;
      came = p.came;
      prints = rw e p.prints;
      taken = p.taken;
      ended = p.ended;
      told = rw e p.told;
    }

-- the input has ended: what the end prints stands behind
pub listed_whole : (r r' w w₁ w₂ : Option (List ℕ)) (old new : Tally) (k : Kept) (n : ℕ) → Passed r r' w w₁ old k → is_end old.input.got ≡ true
    → old.written ≡ old.handed → HandsOn n old new → n ≡ length (last_text k) → Appends w₁ w₂ (take (new.written - old.written) (last_text k))
    → Listed r r' w w₂ new
listed_whole r r' w w₁ w₂ old new k n p end even hands long tells =
    let text : List ℕ = text_after nothing_kept p.input in
    let count : new.written ≡ old.written + (new.written - old.written) = omega (arith, hands.kept) in
    let same : listing_of p.input ≡ text ++ last_text k = rw p.keeps (listing_streamed p.input) in
    let behind = told_on w w₁ w₂ old.written (new.written - old.written) text (last_text k) (even ∙ p.prints) p.told tells in
    record {
      input = p.input;
      came = rw hands.read p.came;
      prints = rw (hands.input, end, same, length-append) (omega (arith, hands.handed, p.prints, long));
      taken = p.taken;
      ended = rw hands.input p.ended;
      told = rw (hands.input, end, same) (rw (← count) at behind);
    }

-- where a reader is at its end, all its bytes were taken
all_taken : (r r' : Option (List ℕ)) (input : List ℕ) → Consumes r r' input → IsAtEnd r' → IfSome r (λ xs. xs ≡ input)
all_taken None r' input c e = tt
all_taken (Some x) None input c e = absurd c
all_taken (Some x) (Some y) input c e = c ∙ ap (λ l. input ++ l) e ∙ append-nil input

listing_at : (r w w' : Option (List ℕ)) (input : List ℕ) → IfSome r (λ xs. xs ≡ input) → Appends w w' (listing_of input)
    → IfSome r (λ xs. Appends w w' (listing_of xs))
listing_at None w w' input e p = tt
listing_at (Some x) w w' input e p = rw e p

-- a run that finds the end of the input and loses nothing writes the listing of all of it
pub listed_all : (r r' w w' : Option (List ℕ)) (t : Tally) → Listed r r' w w' t → T (is_end t.input.got) → T (not (is_lost t))
    → IfSome r (λ xs. Appends w w' (listing_of xs))
listed_all r r' w w' t p end kept =
    let ended : is_end t.input.got ≡ true = T_true _ end in
    let long : t.handed ≡ length (listing_of p.input) = rw ended at p.prints in
    let most : t.handed ≤ t.written = ltb-false t.written t.handed (T_false _ kept) in
    let whole : take t.written (listing_of p.input) ≡ listing_of p.input = take_all t.written (listing_of p.input) (omega arith) in
    let told = rw (ended, whole) at p.told in
    listing_at r w w' p.input (all_taken r r' p.input p.taken (p.ended end)) told
