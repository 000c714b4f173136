-- Laws of a message's words, on plain values: parts of a message, its terms, one turn of each loop, and what the writers leave.
-- No contract cites this file. Assumes nothing.
use Rattle.std.proofs.Common.{◌≡◌, ℕ, zero, suc, ◌+◌, ◌-◌, ◌*◌, ◌/◌, ◌%◌, ◌^◌, ◌<◌, ◌≤◌, Bool, not, ◌&&◌, T, eqb, ltb, List, [], ◌∷◌, map, length, get_or, take, drop, set, sym, refl, ap, ◌∙◌, ap₂, add-zero, zero-add, add_assoc, arith, eqb→eq, ltb→lt, lt→ltb, length-append, length-drop, take_all, eq-eqb}
use native.Mathlib.Nat.{mod-add-mod, sub-zero, suc-sub-suc}
use lib.Bits.{bit_and, and_shr, and_mod, and_self}
use lib.Pow.{mod-mod-pow}
use lib.ListN.{length-map}
use lib.Seq.{slice, take-nil}
use Rattle.names.specs.Sets.{subset}
use Rattle.names.proofs.SetLaws.{test_ext}
use mathlib.Core.Bool.{true, and-true, and_assoc}
use Rattle.std.specs.List.{list_all, fold}
use Rattle.predicates.specs.Predicates.{precedes, is_normal}
use Rattle.predicates.proofs.ListLaws.{both_l, both_r, true_T}
use Rattle.predicates.proofs.LoopLaws.{drop_next}
use Rattle.numbers.specs.Numbers.{put}
use Rattle.numbers.proofs.NumberLaws.{put_then, take_put}
use Rattle.message.specs.Words.{kind_of, payload, word, of_kind, masks, word_sum, check}
use Rattle.message.specs.Read.{middle, kinds_fit}
use Rattle.message.specs.Write.{end_words, front, body, message_words}

-- ---- a part of a slice

-- the code's part from f up to t
pub part_slice : (f t : ℕ) (ws : List ℕ) → take (t - f) (drop f ws) ≡ slice f t ws
part_slice zero t ws = rw sub-zero
part_slice (suc f) zero ws = let e : 0 - suc f ≡ 0 = omega arith in rw e
part_slice (suc f) (suc t) [] = take-nil (suc t - suc f)
part_slice (suc f) (suc t) (w ∷ ws) = rw suc-sub-suc (part_slice f t ws)

-- the code's part from f on
pub part_rest : (f : ℕ) (ws : List ℕ) → take (length ws - f) (drop f ws) ≡ drop f ws
part_rest f ws = take_all (length ws - f) (drop f ws) (omega (arith, length-drop f ws))

-- a test of the code's part
pub part_kind : (k f t : ℕ) (ws : List ℕ) {r : Bool} → r ≡ of_kind k (take (t - f) (drop f ws)) → r ≡ of_kind k (slice f t ws)
part_kind k f t ws e = e ∙ ap (λ (l : List ℕ). of_kind k l) (part_slice f t ws)

-- a test carried along, without an early exit
pub fold_kind : (k : ℕ) (ws : List ℕ) → fold (λ ok w. ok && eqb (kind_of w) k) true ws ≡ of_kind k ws
unfolding of_kind
fold_kind k ws = by ws true
  where
    by : (ws : List ℕ) (ok : Bool) → fold (λ ok w. ok && eqb (kind_of w) k) ok ws ≡ (ok && list_all (λ w. eqb (kind_of w) k) ws)
    by [] ok = sym (and-true ok)
    by (w ∷ ws) ok = by ws (ok && eqb (kind_of w) k) ∙ and_assoc ok (eqb (kind_of w) k) (list_all (λ w. eqb (kind_of w) k) ws)

-- ---- terms: words of one kind stand in the order of their payloads

module _ (a b : ℕ) (e : kind_of a ≡ kind_of b) where
  payload_less : ltb (payload a) (payload b) ≡ ltb a b
  payload_less =
      test_ext (ltb (payload a) (payload b)) (ltb a b)
      (λ h. let l = ltb→lt (payload a) (payload b) h in lt→ltb a b (omega arith))
      (λ h. let l = ltb→lt a b h in lt→ltb (payload a) (payload b) (omega arith))

  payload-subset : subset (payload a) (payload b) ≡ subset a b
  unfolding subset
  payload-subset =
      let high : bit_and a b / 2 ^ 29 ≡ kind_of b = and_shr a b 29 ∙ rw e (and_self (kind_of b)) in
      let low : bit_and a b % 2 ^ 29 ≡ bit_and (payload a) (payload b) = and_mod a b 29 in
      test_ext (eqb (bit_and (payload a) (payload b)) (payload a)) (eqb (bit_and a b) a)
      (λ h. let l = eqb→eq (bit_and (payload a) (payload b)) (payload a) h in true_T _ (eq-eqb (bit_and a b) a (omega arith)))
      (λ h. let l = eqb→eq (bit_and a b) a h in true_T _ (eq-eqb (bit_and (payload a) (payload b)) (payload a) (omega arith)))

  precedes-payload : precedes (payload a) (payload b) ≡ precedes a b
  precedes-payload = ap₂ (λ (x y : Bool). x && not y) payload_less payload-subset

precedes_payloads : (k w : ℕ) (ws : List ℕ) → kind_of w ≡ k → T (of_kind k ws) → list_all (λ u. precedes (payload w) u) (masks ws) ≡ list_all (λ u. precedes w u) ws
unfolding of_kind masks
precedes_payloads k w [] e t = refl
precedes_payloads k w (u ∷ ws) e t =
    let here = eqb→eq (kind_of u) k (both_l (eqb (kind_of u) k) (of_kind k ws) t) in
    ap₂ (λ (x y : Bool). x && y) (precedes-payload w u (omega arith)) (precedes_payloads k w ws e (both_r (eqb (kind_of u) k) (of_kind k ws) t))

-- words of one kind are in normal form where the terms they carry are
pub normal-words : (k : ℕ) (ws : List ℕ) → T (of_kind k ws) → is_normal (masks ws) ≡ is_normal ws
unfolding of_kind masks is_normal
normal-words k [] t = refl
normal-words k (w ∷ ws) t =
    let here = eqb→eq (kind_of w) k (both_l (eqb (kind_of w) k) (of_kind k ws) t) in
    let rest = both_r (eqb (kind_of w) k) (of_kind k ws) t in
    ap₂ (λ (x y : Bool). x && y) (precedes_payloads k w ws here rest) (normal-words k ws rest)

-- the code tests the words between the interval and the last one, kinds included
pub normal-middle : (at : ℕ) (ends : Bool) (ws : List ℕ) → T (kinds_fit at ends ws) → is_normal (masks (middle at ends ws)) ≡ is_normal (middle at ends ws)
unfolding kinds_fit
normal-middle at ends ws t = normal-words 6 (middle at ends ws) (search (both_l, both_r) depth 9)

-- ---- the sum, wrapping

fold_from : (ws : List ℕ) (a : ℕ) → fold (λ sum w. (sum + w) % 2 ^ 32) a ws % 2 ^ 32 ≡ (a + word_sum ws) % 2 ^ 32
unfolding word_sum
fold_from [] a = rw add-zero
fold_from (w ∷ ws) a =
    fold_from ws ((a + w) % 2 ^ 32) ∙ mod-add-mod (a + w) (2 ^ 32) (word_sum ws) ∙ rw (add_assoc a w (word_sum ws))

-- what wrapping lost lies above the low 29 bits
pub fold_sum : (ws : List ℕ) → fold (λ sum w. (sum + w) % 2 ^ 32) 0 ws % 2 ^ 29 ≡ check ws
unfolding check
fold_sum ws =
    let sum = fold (λ sum w. (sum + w) % 2 ^ 32) 0 ws in
    let e : sum % 2 ^ 32 ≡ word_sum ws % 2 ^ 32 = fold_from ws 0 ∙ rw zero-add in
    sym (mod-mod-pow sum 3 29) ∙ ap (λ (x : ℕ). x % 2 ^ 29) e ∙ mod-mod-pow (word_sum ws) 3 29

-- ---- writing

-- a turn of the loop that writes terms
pub terms_next : (at i : ℕ) (ts s : List ℕ) → i < length ts →
    put (at + i) (map (λ t. word 6 t) (masks (drop i ts))) s
    ≡ put (at + (i + 1)) (map (λ t. word 6 t) (masks (drop (i + 1) ts))) (set s (at + i) (word 6 (payload (get_or ts i 0))))
unfolding put masks
terms_next at i ts s h =
    let e : at + (i + 1) ≡ suc (at + i) = omega arith in
    rw (e, drop_next ts i h)

pub length-masks : (ws : List ℕ) → length (masks ws) ≡ length ws
unfolding masks
length-masks ws = length-map ws (λ w. payload w)

-- what the writer's calls leave: the head, the words behind it, the ends, the terms, and the check word behind these
pub message-put : (s l r k : ℕ) (more ts o a b d e f : List ℕ) → length more + length ts + 6 ≤ length o
    → a ≡ put 0 (word 1 (s + 32 * length ts) ∷ []) o → b ≡ put 1 more a → d ≡ put (length more + 1) (end_words l r) b
    → e ≡ put (length more + 1 + 4) (map (λ t. word 6 t) (masks ts)) d → k ≡ check (take (length more + 1 + 4 + length ts) e)
    → f ≡ put (length more + 1 + 4 + length ts) (word 7 k ∷ []) e → f ≡ put 0 (message_words s more l r (masks ts)) o
unfolding message_words body front end_words
message-put s l r k more ts o a b d e f h p q t u v w =
    let at = length more + 1 in
    let head = word 1 (s + 32 * length ts) in
    let whole = body s more l r (masks ts) in
    let near : b ≡ put 0 (head ∷ more) o = put_then 1 0 1 (head ∷ []) more o a b refl refl p q in
    let ends : d ≡ put 0 (front s more l r (length ts)) o = put_then at 0 at (head ∷ more) (end_words l r) o b d (omega arith) (omega arith) near t in
    let long : length (front s more l r (length ts)) ≡ at + 4 = omega (arith, length-append more (end_words l r)) in
    let all_but : e ≡ put 0 whole o =
    rw length-masks (put_then (at + 4) 0 (at + 4) (front s more l r (length ts)) (map (λ t. word 6 t) (masks ts)) o d e long (omega arith) ends u) in
    let n : length whole ≡ at + 4 + length ts =
    length-append (front s more l r (length (masks ts))) (map (λ t. word 6 t) (masks ts))
    ∙ omega (arith, length-append more (end_words l r), length-map (masks ts) (λ t. word 6 t), length-masks ts) in
    let summed : take (at + 4 + length ts) e ≡ whole = rw all_but (take_put (at + 4 + length ts) whole o n (omega arith)) in
    put_then (at + 4 + length ts) 0 (at + 4 + length ts) whole (word 7 (check whole) ∷ []) o e f n (omega arith) all_but (w ∙ rw (v, summed))
