-- The listing of a whole input is what its bytes print one after the other, and what the end prints (`listing_streamed`).
-- The idea: a line that has begun has no line feed in it; behind one the lines of the rest follow. No contract cites this file. Assumes nothing.
use Prim.Native.Nat.{ℕ, suc, ◌+◌}
use mathlib.Core.Path.{◌≡◌, refl, sym, ap, subst, ◌∙◌}
use mathlib.Core.Logic.{⊎_elim}
use mathlib.Core.Bool.{Bool, true, false, not}
use mathlib.Core.List.{List, [], ◌∷◌, ◌++◌, append_assoc, append-nil}
use native.Mathlib.Omega.{arith}
use lib.Dec.{T, eqb, ltb}
use lib.ListN.{length, take, replicate, length-take}
use lib.Seq.{take_all, take_at, take-append-le, length-take-le, append_snoc}
use borrow.Author.Tests.{ltb-true, ltb-false, eqb-true}
use Rattle.state.specs.Layout.{state_size, joined}
use Rattle.std.specs.List.{list_all}
use Rattle.predicates.proofs.ListLaws.{both, both_l, both_r, T_true, T_false, split}
use Rattle.predicates.proofs.IndexLaws.{all_append}
use Rattle.fields.specs.Fields.{onto}
use Rattle.lines.specs.Lines.{line_most, line_result}
use Rattle.lines.proofs.LineLaws.{line-long}
use Rattle.stream.specs.Listing.{lines_in, yields, listing_of}
use Rattle.stream.proofs.StreamLaws.{last_some}
use Rattle.stream.specs.Kept.{kept, nothing_kept, result_of, kept_next, text_next, kept_after, text_after, last_text}

-- ---- lines

-- a byte that ends no line
abbrev in_line : ℕ → Bool
in_line b = not (eqb b 10)

-- behind a line feed the lines of the rest follow
lines-feed : (l bs : List ℕ) → T (list_all in_line l) → lines_in (l ++ (10 ∷ bs)) ≡ l ∷ lines_in bs
unfolding lines_in onto
lines-feed [] bs h = refl
lines-feed (x ∷ l) bs h =
    let other = T_false (eqb x 10) (both_l (in_line x) (list_all in_line l) h) in
    rw (other, lines-feed l bs (both_r (in_line x) (list_all in_line l) h))

-- without one there is one line, if it has bytes
lines-last : (x : ℕ) (l : List ℕ) → T (list_all in_line (x ∷ l)) → lines_in (x ∷ l) ≡ (x ∷ l) ∷ []
unfolding lines_in onto
lines-last x [] h = rw (T_false (eqb x 10) (both_l (in_line x) (list_all in_line []) h))
lines-last x (y ∷ l) h =
    let other = T_false (eqb x 10) (both_l (in_line x) (list_all in_line (y ∷ l)) h) in
    let rest = lines-last y l (both_r (in_line x) (list_all in_line (y ∷ l)) h) in
    rw (other, rest)

-- each line yields one
pub yields-one : (ls : List (List ℕ)) (begun : Bool) (s : List ℕ) → length (yields ls begun s) ≡ length ls
unfolding yields
yields-one [] begun s = refl
yields-one (l ∷ ls) begun s = ap suc (yields-one ls (line_result l begun s).begun (line_result l begun s).state)

-- ---- a line that is cut

-- a line above 600 bytes is bad however it goes on
line-cut : (l s : List ℕ) (begun : Bool) → line_result (take (line_most + 1) l) begun s ≡ line_result l begun s
line-cut l s begun =
    ⊎_elim
    (λ h. let above = ltb-true line_most (length l) (T_true _ h) in
    line-long (take (line_most + 1) l) s begun (omega (arith, length-take (line_most + 1) l)) ∙ sym (line-long l s begun above))
    (λ h. rw (take_all (line_most + 1) l (omega (arith, ltb-false line_most (length l) (T_false _ h)))))
    (split (ltb line_most (length l)))

take_behind : (n : ℕ) (l ys : List ℕ) → take n (take n l ++ ys) ≡ take n (l ++ ys)
take_behind n l ys =
    ⊎_elim
    (λ h. let within = ltb-true n (length l) (T_true _ h) in
    take_at (take n l) ys n (length-take-le n l (omega arith)) ∙ sym (take-append-le n l ys (omega arith)))
    (λ h. rw (take_all n l (ltb-false n (length l) (T_false _ h))))
    (split (ltb n (length l)))

-- ---- the listing

-- behind the bytes l of a line: what the bytes and the end print is what the lines yield
abbrev Streams : List ℕ → List ℕ → Bool → List ℕ → Type 0
Streams l bs begun s =
    text_after (kept begun s (take (line_most + 1) l)) bs ++ last_text (kept_after (kept begun s (take (line_most + 1) l)) bs)
    ≡ joined (λ t. t) (yields (lines_in (l ++ bs)) begun s)

-- the input ends in a line
streams_end : (x : ℕ) (l : List ℕ) (begun : Bool) (s : List ℕ) → T (list_all in_line (x ∷ l)) → Streams (x ∷ l) [] begun s
unfolding text_after kept_after result_of yields joined
streams_end x l begun s h =
    let some = last_some (kept begun s (take (line_most + 1) (x ∷ l))) refl (λ z. omega (arith, length-take (line_most + 1) (x ∷ l))) in
    rw (append-nil (x ∷ l), lines-last x l h, some, line-cut (x ∷ l) s begun, append-nil)

-- a line ends
streams_feed : (l bs : List ℕ) (begun : Bool) (s : List ℕ) → T (list_all in_line l)
    → Streams [] bs (line_result l begun s).begun (line_result l begun s).state → Streams l (10 ∷ bs) begun s
unfolding text_after kept_after kept_next text_next result_of yields joined
streams_feed l bs begun s h next = rw (line-cut l s begun, append_assoc, lines-feed l bs h, next)

-- a line goes on
streams_on : (l bs : List ℕ) (b : ℕ) (begun : Bool) (s : List ℕ) → eqb b 10 ≡ false → Streams (l ++ (b ∷ [])) bs begun s → Streams l (b ∷ bs) begun s
unfolding text_after kept_after kept_next text_next
streams_on l bs b begun s other next = rw (other, take_behind (line_most + 1) l (b ∷ []), ← (append_snoc l b bs)) next

streams : (l bs : List ℕ) (begun : Bool) (s : List ℕ) → T (list_all in_line l) → Streams l bs begun s
unfolding text_after kept_after last_text lines_in yields joined
streams [] [] begun s h = refl
streams (x ∷ l) [] begun s h = streams_end x l begun s h
streams l (b ∷ bs) begun s h =
    ⊎_elim
    (λ feed. subst (λ (n : ℕ). Streams l (n ∷ bs) begun s) (sym (eqb-true b 10 (T_true _ feed))) (streams_feed l bs begun s h (streams [] bs _ _ tt)))
    (λ on. streams_on l bs b begun s (T_false _ on) (streams (l ++ (b ∷ [])) bs begun s (all_append in_line l (b ∷ []) h (both (in_line b) true on tt))))
    (split (eqb b 10))

-- all that the listing prints: what the bytes print, and what the end prints
pub listing_streamed : (input : List ℕ) → listing_of input ≡ text_after nothing_kept input ++ last_text (kept_after nothing_kept input)
unfolding listing_of nothing_kept
listing_streamed input = sym (streams [] input false (replicate state_size 0) tt)
