-- The laws of epochs by identifier. `digit-older` carries them: an identifier is among the older ones exactly if its epoch is below the other.
-- Assumes nothing.
use Prim.Native.Nat.{ℕ, zero, suc, ◌+◌, ◌-◌, ◌/◌, ◌≤◌, ◌<◌, max}
use mathlib.Core.Path.{◌≡◌, refl, sym, ap, ap₂, subst, ◌∙◌}
use mathlib.Core.Logic.{◌⊎◌, inl, inr, ⊎_elim}
use mathlib.Core.Bool.{Bool, true, false, not, ◌&&◌, cond}
use mathlib.Core.List.{List, [], ◌∷◌, ◌++◌}
use native.Mathlib.Omega.{arith}
use native.Mathlib.Decide.{ℕ_discrete}
use lib.Dec.{T, T_not, eqb, eqb_refl, ltb, ltb→lt, nltb→le}
use lib.ListN.{length, get_or, set, take, drop, length-set, length-append, take-append-drop}
use lib.Seq.{slice, sets, length-sets, take-take, set-get_or, sets-eq, get_or-set_same, get_or-set_other, take-suc, length-slice, length-take-le, take_at, drop_at, get_or-drop, get_or-take}
use Rattle.std.proofs.lemmas.Slice.{between_is}
use Rattle.numbers.specs.Numbers.{put}
use Rattle.numbers.proofs.NumberLaws.{put-set, length-tab, get_or-tab, tab_ext}
use Rattle.names.specs.Sets.{set_union}
use Rattle.names.specs.code.Parts.{digit}
use Rattle.names.proofs.SetLaws.{digit_zero, digit_suc, digit-empty, digit-union, digits_ext, digit-single-same, digit-single_other, union-none}
use Rattle.predicates.proofs.ListLaws.{split, cond_ind}
use Rattle.epochs.specs.Epochs.{epochs_most, epochs_in, identifier_of, epoch_of, digit_of, older, raised, NotAbove, told, spoken}
use Rattle.epochs.specs.code.Known.{bit_where, Named}

-- a test and its digit
pub below : (a b : ℕ) → ((a < b) × (digit_of (ltb a b) ≡ 1)) ⊎ ((b ≤ a) × (digit_of (ltb a b) ≡ 0))
below a b = ⊎_elim (λ t. inl (ltb→lt a b t, yes (ltb a b) t)) (λ t. inr (nltb→le a b t, no (ltb a b) t)) (split (ltb a b))
  where
    yes : (x : Bool) → T x → digit_of x ≡ 1
    yes true t = refl
    yes false t = absurd t

    no : (x : Bool) → T (not x) → digit_of x ≡ 0
    no true t = absurd t
    no false t = refl

-- ---- the older ones

pub digit-older : (es ks : List ℕ) (n : ℕ) → digit (older es ks) n ≡ digit_of (ltb (get_or es n 0) (get_or ks n 0))
unfolding older
digit-older es [] n = digit-empty n ∙ ⊎_elim (λ b. absurd (omega (arith, b.0))) (λ b. sym b.1) (below (get_or es n 0) 0)
digit-older [] (k ∷ ks) zero = digit_zero (older [] (k ∷ ks)) ∙ ⊎_elim (λ b. omega (arith, b.1)) (λ b. omega (arith, b.1)) (below 0 k)
digit-older [] (k ∷ ks) (suc n) =
    let half : older [] (k ∷ ks) / 2 ≡ older [] ks = ⊎_elim (λ b. omega (arith, b.1)) (λ b. omega (arith, b.1)) (below 0 k) in
    digit_suc (older [] (k ∷ ks)) n ∙ ap (λ (x : ℕ). digit x n) half ∙ digit-older [] ks n
digit-older (e ∷ es) (k ∷ ks) zero = digit_zero (older (e ∷ es) (k ∷ ks)) ∙ ⊎_elim (λ b. omega (arith, b.1)) (λ b. omega (arith, b.1)) (below e k)
digit-older (e ∷ es) (k ∷ ks) (suc n) =
    let half : older (e ∷ es) (k ∷ ks) / 2 ≡ older es ks = ⊎_elim (λ b. omega (arith, b.1)) (λ b. omega (arith, b.1)) (below e k) in
    digit_suc (older (e ∷ es) (k ∷ ks)) n ∙ ap (λ (x : ℕ). digit x n) half ∙ digit-older es ks n

-- ---- epochs heard

pub length-raised : (ks es : List ℕ) → length (raised ks es) ≡ length ks
unfolding raised
length-raised [] es = refl
length-raised (k ∷ ks) [] = refl
length-raised (k ∷ ks) (e ∷ es) = ap suc (length-raised ks es)

pub get_or-raised : (ks es : List ℕ) (n : ℕ) → length es ≤ length ks → get_or (raised ks es) n 0 ≡ max (get_or ks n 0) (get_or es n 0)
unfolding raised
get_or-raised [] [] n h = refl
get_or-raised [] (e ∷ es) n h = absurd (omega (arith, h))
get_or-raised (k ∷ ks) [] n h = omega arith
get_or-raised (k ∷ ks) (e ∷ es) zero h = refl
get_or-raised (k ∷ ks) (e ∷ es) (suc n) h = get_or-raised ks es n (omega (arith, h))

-- what is known says nothing new
raised-none : (ks : List ℕ) → raised ks ks ≡ ks
unfolding raised
raised-none [] = refl
raised-none (k ∷ ks) = rw (raised-none ks) (ap {B = List ℕ} (λ x. x ∷ ks) (omega arith))

-- one epoch more is heard
raised-set : (ks es : List ℕ) (n e : ℕ) → length es ≡ length ks → raised ks (set es n e) ≡ set (raised ks es) n (max (get_or ks n 0) e)
unfolding raised
raised-set [] es n e h = refl
raised-set (k ∷ ks) [] n e h = absurd (omega (arith, h))
raised-set (k ∷ ks) (x ∷ es) zero e h = refl
raised-set (k ∷ ks) (x ∷ es) (suc n) e h = ap {B = List ℕ} (λ l. max k x ∷ l) (raised-set ks es n e (omega (arith, h)))

-- the same identifiers are older where the same epochs are below the others
digit-same : (a b c d : ℕ) → (a < b → c < d) → (c < d → a < b) → digit_of (ltb a b) ≡ digit_of (ltb c d)
digit-same a b c d f g =
    ⊎_elim
    (λ x. ⊎_elim (λ y. x.1 ∙ sym y.1) (λ y. let z = f x.0 in absurd (omega (arith, y.0))) (below c d))
    (λ x. ⊎_elim (λ y. let z = g y.0 in absurd (omega (arith, x.0))) (λ y. x.1 ∙ sym y.1) (below c d))
    (below a b)

older-same : (es ks fs js : List ℕ)
    → ((n : ℕ) → get_or es n 0 < get_or ks n 0 → get_or fs n 0 < get_or js n 0)
    → ((n : ℕ) → get_or fs n 0 < get_or js n 0 → get_or es n 0 < get_or ks n 0)
    → older es ks ≡ older fs js
older-same es ks fs js f g =
    digits_ext (older es ks) (older fs js) (λ n. digit-older es ks n ∙ digit-same _ _ _ _ (f n) (g n) ∙ sym (digit-older fs js n))

-- nothing is older than itself
pub older-none : (ks : List ℕ) → older ks ks ≡ 0
older-none ks =
    digits_ext (older ks ks) 0 (λ n. digit-older ks ks n ∙ ⊎_elim (λ b. absurd (omega (arith, b.0))) (λ b. b.1) (below (get_or ks n 0) (get_or ks n 0)) ∙ sym (digit-empty n))

module _ (ks es : List ℕ) (fits : length es ≤ length ks) where
  -- nothing goes back, and what is heard is known
  pub raised-above : NotAbove ks (raised ks es)
  raised-above n = omega (arith, get_or-raised ks es n fits)

  pub raised-heard : NotAbove es (raised ks es)
  raised-heard n = omega (arith, get_or-raised ks es n fits)

  -- the epochs known before tell what is withdrawn and what is late
  pub risen-before : older ks (raised ks es) ≡ older ks es
  risen-before =
      older-same ks (raised ks es) ks es (λ n h. omega (arith, h, get_or-raised ks es n fits)) (λ n h. omega (arith, h, get_or-raised ks es n fits))

  pub late-before : older es (raised ks es) ≡ older es ks
  late-before =
      older-same es (raised ks es) es ks (λ n h. omega (arith, h, get_or-raised ks es n fits)) (λ n h. omega (arith, h, get_or-raised ks es n fits))

  -- what is older once es are heard: what was older, and what they withdraw
  pub older-raised : (fs : List ℕ) → NotAbove fs ks → older fs (raised ks es) ≡ set_union (older fs ks) (older ks es)
  older-raised fs below-known =
      digits_ext (older fs (raised ks es)) (set_union (older fs ks) (older ks es)) (λ n.
      let r = get_or-raised ks es n fits in
      let b = below-known n in
      let x = digit-older fs (raised ks es) n in
      let y = digit-union (older fs ks) (older ks es) n in
      let z = digit-older fs ks n in
      let w = digit-older ks es n in
      ⊎_elim
      (λ i. ⊎_elim
      (λ j. ⊎_elim (λ k. omega (arith, i.1, j.1, k.1)) (λ k. omega (arith, i.1, j.1, k.1)) (below (get_or ks n 0) (get_or es n 0)))
      (λ j. ⊎_elim (λ k. omega (arith, i.1, j.1, k.1)) (λ k. absurd (omega (arith, i.0, j.0, k.0))) (below (get_or ks n 0) (get_or es n 0)))
      (below (get_or fs n 0) (get_or ks n 0)))
      (λ i. ⊎_elim
      (λ j. absurd (omega (arith, i.0, j.0)))
      (λ j. ⊎_elim (λ k. absurd (omega (arith, i.0, k.0))) (λ k. omega (arith, i.1, j.1, k.1)) (below (get_or ks n 0) (get_or es n 0)))
      (below (get_or fs n 0) (get_or ks n 0)))
      (below (get_or fs n 0) (get_or (raised ks es) n 0)))

-- ---- names heard

length-told : (own : ℕ) (es : List ℕ) (w : ℕ) → length (told own es w) ≡ length es
unfolding told
length-told own es w =
    cond_ind (λ (l : List ℕ). length l ≡ length es) (eqb (identifier_of w) own) es (set es (identifier_of w) (epoch_of w)) (λ t. refl) (λ t. length-set es _ _)

pub length-spoken : (own : ℕ) (ws ks : List ℕ) → length (spoken own ws ks) ≡ length ks
unfolding spoken
length-spoken own [] ks = refl
length-spoken own (w ∷ ws) ks = length-spoken own ws (told own ks w) ∙ length-told own ks w

-- a name more
spoken-last : (own : ℕ) (ws ks : List ℕ) (w : ℕ) → spoken own (ws ++ (w ∷ [])) ks ≡ told own (spoken own ws ks) w
unfolding spoken
spoken-last own [] ks w = refl
spoken-last own (v ∷ ws) ks w = spoken-last own ws (told own ks v) w

pub spoken_next : (own : ℕ) (ws ks : List ℕ) (i : ℕ) → i < length ws → spoken own (take (i + 1) ws) ks ≡ told own (spoken own (take i ws) ks) (get_or ws i 0)
spoken_next own ws ks i h =
    let next : i + 1 ≡ suc i = omega arith in
    ap (λ (l : List ℕ). spoken own l ks) (ap (λ (j : ℕ). take j ws) next ∙ take-suc ws i 0 h) ∙ spoken-last own (take i ws) ks (get_or ws i 0)

-- another identifier's epoch stays
told_other : (own n : ℕ) (es : List ℕ) (w : ℕ) → (n ≡ identifier_of w → ⊥) → get_or (told own es w) n 0 ≡ get_or es n 0
unfolding told
told_other own n es w h =
    cond_ind
    (λ (l : List ℕ). get_or l n 0 ≡ get_or es n 0)
    (eqb (identifier_of w) own)
    es
    (set es (identifier_of w) (epoch_of w))
    (λ t. refl)
    (λ t. get_or-set_other es (identifier_of w) n (epoch_of w) 0 h)

-- the own epoch stays
pub spoken-own : (own : ℕ) (ws ks : List ℕ) → get_or (spoken own ws ks) own 0 ≡ get_or ks own 0
unfolding spoken told
spoken-own own [] ks = refl
spoken-own own (w ∷ ws) ks =
    spoken-own own ws (told own ks w)
    ∙ cond_ind
    (λ (l : List ℕ). get_or l own 0 ≡ get_or ks own 0)
    (eqb (identifier_of w) own)
    ks
    (set ks (identifier_of w) (epoch_of w))
    (λ t. refl)
    (λ t. get_or-set_other ks (identifier_of w) own (epoch_of w) 0 (λ e. T_not (eqb (identifier_of w) own) t (subst (λ (x : ℕ). T (eqb (identifier_of w) x)) (sym e) (eqb_refl (identifier_of w)))))

-- an identifier that is still to come has its known epoch
pub spoken-ahead : (own : ℕ) (ws ks : List ℕ) → Named ws → (i j : ℕ) → i ≤ j → j < length ws
    → get_or (spoken own (take i ws) ks) (identifier_of (get_or ws j 0)) 0 ≡ get_or ks (identifier_of (get_or ws j 0)) 0
unfolding spoken
spoken-ahead own ws ks named zero j h k = refl
spoken-ahead own ws ks named (suc i) j h k =
    let next : suc i ≡ i + 1 = omega arith in
    ap (λ (x : ℕ). get_or (spoken own (take x ws) ks) (identifier_of (get_or ws j 0)) 0) next
    ∙ ap (λ (l : List ℕ). get_or l (identifier_of (get_or ws j 0)) 0) (spoken_next own ws ks i (omega (arith, h, k)))
    ∙ told_other own (identifier_of (get_or ws j 0)) (spoken own (take i ws) ks) (get_or ws i 0) (λ e. let r = named.rising i j (omega (arith, h)) k in omega (arith, e, r))
    ∙ spoken-ahead own ws ks named i j (omega (arith, h)) k

-- a mask that differs from another by one identifier at most
one_more : (x y : ℕ) (b : Bool) (n : ℕ) → ((m : ℕ) → (m ≡ n → ⊥) → digit x m ≡ digit y m) → digit y n ≡ 0 → digit x n ≡ digit_of b
    → x ≡ set_union y (bit_where b n)
one_more x y b n others none here = digits_ext x (set_union y (bit_where b n)) (λ m. digit_at m (ℕ_discrete m n) ∙ sym (digit-union y (bit_where b n) m))
  where
    same : (b : Bool) → digit (bit_where b n) n ≡ digit_of b
    same true = digit-single-same n
    same false = digit-empty n

    other : (m : ℕ) (b : Bool) → (m ≡ n → ⊥) → digit (bit_where b n) m ≡ 0
    other m true h = digit-single_other n m (λ q. h (sym q))
    other m false h = digit-empty m

    digit_at : (m : ℕ) → Dec (m ≡ n) → digit x m ≡ max (digit y m) (digit (bit_where b n) m)
    digit_at m (yes q) = ap (λ (k : ℕ). digit x k) q ∙ omega (arith, none, here, same b) ∙ ap (λ (k : ℕ). max (digit y k) (digit (bit_where b n) k)) (sym q)
    digit_at m (no h) = omega (arith, others m h, other m b h)

-- where two lists agree on an identifier, another epoch there in one of them adds it or not
module _ (ks es : List ℕ) (n e : ℕ) (inside : n < length es) (agree : get_or es n 0 ≡ get_or ks n 0) where
  alike : (a b : ℕ) → a ≡ b → digit_of (ltb a b) ≡ 0
  alike a b q = ⊎_elim (λ x. absurd (omega (arith, x.0, q))) (λ x. x.1) (below a b)

  pub risen-set : older ks (set es n e) ≡ set_union (older ks es) (bit_where (ltb (get_or ks n 0) e) n)
  risen-set =
      one_more
      (older ks (set es n e))
      (older ks es)
      (ltb (get_or ks n 0) e)
      n
      (λ m h. digit-older ks (set es n e) m ∙ ap (λ (x : ℕ). digit_of (ltb (get_or ks m 0) x)) (get_or-set_other es n m e 0 h) ∙ sym (digit-older ks es m))
      (digit-older ks es n ∙ alike (get_or ks n 0) (get_or es n 0) (sym agree))
      (digit-older ks (set es n e) n ∙ ap (λ (x : ℕ). digit_of (ltb (get_or ks n 0) x)) (get_or-set_same es n e 0 inside))

  pub late-set : older (set es n e) ks ≡ set_union (older es ks) (bit_where (ltb e (get_or ks n 0)) n)
  late-set =
      one_more
      (older (set es n e) ks)
      (older es ks)
      (ltb e (get_or ks n 0))
      n
      (λ m h. digit-older (set es n e) ks m ∙ ap (λ (x : ℕ). digit_of (ltb x (get_or ks m 0))) (get_or-set_other es n m e 0 h) ∙ sym (digit-older es ks m))
      (digit-older es ks n ∙ alike (get_or es n 0) (get_or ks n 0) agree)
      (digit-older (set es n e) ks n ∙ ap (λ (x : ℕ). digit_of (ltb x (get_or ks n 0))) (get_or-set_same es n e 0 inside))

-- ---- the loops

-- one name more is heard, where none before it had its identifier
module _ (own : ℕ) (ws ks : List ℕ) (named : Named ws) (long : length ks ≡ epochs_most) (i : ℕ) (more : i < length ws) where
  abbrev at : ℕ
  at = identifier_of (get_or ws i 0)

  abbrev now_heard : List ℕ
  now_heard = spoken own (take i ws) ks

  -- it is within the list, and its epoch is the known one
  within : at < length now_heard
  within = omega (arith, length-spoken own (take i ws) ks, long, named.few i more)

  known : get_or now_heard at 0 ≡ get_or ks at 0
  known = spoken-ahead own ws ks named i i (omega arith) more

  pub risen-turn : older ks (spoken own (take (i + 1) ws) ks)
      ≡ set_union (older ks now_heard) (bit_where (not (eqb at own) && ltb (get_or ks at 0) (epoch_of (get_or ws i 0))) at)
  unfolding told
  risen-turn =
      ap (λ (l : List ℕ). older ks l) (spoken_next own ws ks i more)
      ∙ go (eqb at own)
    where
      go : (b : Bool) → older ks (cond b now_heard (set now_heard at (epoch_of (get_or ws i 0))))
          ≡ set_union (older ks now_heard) (bit_where (not b && ltb (get_or ks at 0) (epoch_of (get_or ws i 0))) at)
      go true = sym (union-none (older ks now_heard))
      go false = risen-set ks now_heard at (epoch_of (get_or ws i 0)) within known

  pub late-turn : older (spoken own (take (i + 1) ws) ks) ks
      ≡ set_union (older now_heard ks) (bit_where (not (eqb at own) && ltb (epoch_of (get_or ws i 0)) (get_or ks at 0)) at)
  unfolding told
  late-turn =
      ap (λ (l : List ℕ). older l ks) (spoken_next own ws ks i more)
      ∙ go (eqb at own)
    where
      go : (b : Bool) → older (cond b now_heard (set now_heard at (epoch_of (get_or ws i 0)))) ks
          ≡ set_union (older now_heard ks) (bit_where (not b && ltb (epoch_of (get_or ws i 0)) (get_or ks at 0)) at)
      go true = sym (union-none (older now_heard ks))
      go false = late-set ks now_heard at (epoch_of (get_or ws i 0)) within known

  -- what is known once it is heard
  pub raised-turn : raised ks (spoken own (take (i + 1) ws) ks)
      ≡ cond (not (eqb at own) && ltb (get_or ks at 0) (epoch_of (get_or ws i 0))) (set (raised ks now_heard) at (epoch_of (get_or ws i 0))) (raised ks now_heard)
  unfolding told
  raised-turn = ap (λ (l : List ℕ). raised ks l) (spoken_next own ws ks i more) ∙ go (eqb at own)
    where
      e : ℕ
      e = epoch_of (get_or ws i 0)

      heard : raised ks (set now_heard at e) ≡ set (raised ks now_heard) at (max (get_or ks at 0) e)
      heard = raised-set ks now_heard at e (omega (arith, length-spoken own (take i ws) ks))

      there : get_or (raised ks now_heard) at 0 ≡ get_or ks at 0
      there = get_or-raised ks now_heard at (omega (arith, length-spoken own (take i ws) ks)) ∙ omega (arith, known)

      pick : (b : Bool) → b ≡ ltb (get_or ks at 0) e → set (raised ks now_heard) at (max (get_or ks at 0) e) ≡ cond b (set (raised ks now_heard) at e) (raised ks now_heard)
      pick true q =
          let above : max (get_or ks at 0) e ≡ e = omega (arith, ltb→lt (get_or ks at 0) e (subst (λ (b : Bool). T b) q tt)) in
          ap (λ (x : ℕ). set (raised ks now_heard) at x) above
      pick false q =
          let under : max (get_or ks at 0) e ≡ get_or (raised ks now_heard) at 0 = omega (arith, there, nltb→le (get_or ks at 0) e (subst (λ (b : Bool). T (not b)) q tt)) in
          ap (λ (x : ℕ). set (raised ks now_heard) at x) under ∙ set-get_or (raised ks now_heard) at 0

      go : (b : Bool) → raised ks (cond b now_heard (set now_heard at e)) ≡ cond (not b && ltb (get_or ks at 0) e) (set (raised ks now_heard) at e) (raised ks now_heard)
      go true = refl
      go false = heard ∙ pick (ltb (get_or ks at 0) e) refl

-- ---- in bytes

pub length_known : (at : ℕ) (s : List ℕ) → length (epochs_in at s) ≡ epochs_most
unfolding epochs_in
length_known at s = length-tab epochs_most (λ n. get_or s (at + n) 0)

pub get_or_known : (at n : ℕ) (s : List ℕ) → n < epochs_most → get_or s (at + n) 0 ≡ get_or (epochs_in at s) n 0
unfolding epochs_in
get_or_known at n s h = sym (get_or-tab epochs_most n (λ n. get_or s (at + n) 0) 0 h)

-- they are the bytes that stand there
pub known_slice : (at : ℕ) (s : List ℕ) → at + epochs_most ≤ length s → epochs_in at s ≡ slice at (at + epochs_most) s
unfolding epochs_in
known_slice at s h =
    tab_ext 0 epochs_most (λ n. get_or s (at + n) 0) (slice at (at + epochs_most) s) (omega (arith, length-slice at (at + epochs_most) s h))
    (λ n k. sym (get_or-drop at (take (at + epochs_most) s) n 0 ∙ get_or-take (at + epochs_most) s (at + n) 0 (omega (arith, k))))

-- and as they are lent
pub known_part : (at : ℕ) (s : List ℕ) → at + epochs_most ≤ length s → epochs_in at s ≡ take (at + epochs_most - at) (drop at s)
known_part at s h = known_slice at s h ∙ sym (between_is s at (at + epochs_most))

-- the epochs as they are stored are those read
pub known_put : (at : ℕ) (vs s : List ℕ) → length vs ≡ epochs_most → at + epochs_most ≤ length s → epochs_in at (put at vs s) ≡ vs
unfolding put
known_put at vs s v h =
    let front = length-take-le at s (omega (arith, h)) in
    let both : length (take at s ++ vs) ≡ at + epochs_most = length-append (take at s) vs ∙ omega (arith, front, v) in
    known_slice at (sets s at vs) (omega (arith, h, length-sets s at vs))
    ∙ ap (λ (l : List ℕ). slice at (at + epochs_most) l) (sets-eq vs s at (omega (arith, h, v)))
    ∙ ap (λ (l : List ℕ). drop at l) (take_at (take at s ++ vs) (drop (at + length vs) s) (at + epochs_most) both)
    ∙ drop_at (take at s) vs at front

pub put_known : (at : ℕ) (s : List ℕ) → at + epochs_most ≤ length s → s ≡ put at (raised (epochs_in at s) (epochs_in at s)) s
unfolding put
put_known at s h =
    let part = known_slice at s h in
    let end : at + length (epochs_in at s) ≡ at + epochs_most = omega (arith, length_known at s) in
    let front : take at s ≡ take at (take (at + epochs_most) s) = sym (take-take at (at + epochs_most) s (omega arith)) in
    sym (
    ap (λ (l : List ℕ). sets s at l) (raised-none (epochs_in at s))
    ∙ sets-eq (epochs_in at s) s at (omega (arith, end, h))
    ∙ ap₂ (λ (l : List ℕ) (k : ℕ). (l ++ epochs_in at s) ++ drop k s) front end
    ∙ ap (λ (l : List ℕ). (take at (take (at + epochs_most) s) ++ l) ++ drop (at + epochs_most) s) part
    ∙ ap (λ (l : List ℕ). l ++ drop (at + epochs_most) s) (take-append-drop at (take (at + epochs_most) s))
    ∙ take-append-drop (at + epochs_most) s
    )

-- one name more, in bytes: the epoch that is read is the one known before, and the one that passes it is stored
module _ (own p : ℕ) (ws s₀ s : List ℕ) (named : Named ws) (fits : p + epochs_most ≤ length s₀) (i : ℕ) (more : i < length ws)
    (stored : s ≡ put p (raised (epochs_in p s₀) (spoken own (take i ws) (epochs_in p s₀))) s₀) where
  abbrev w : ℕ
  w = get_or ws i 0

  abbrev ks : List ℕ
  ks = epochs_in p s₀

  long : length ks ≡ epochs_most
  long = length_known p s₀

  heard-long : length (raised ks (spoken own (take i ws) ks)) ≡ epochs_most
  heard-long = length-raised ks (spoken own (take i ws) ks) ∙ long

  pub raise-read : get_or (epochs_in p s) (identifier_of w) 0 ≡ get_or ks (identifier_of w) 0
  raise-read =
      ap (λ (l : List ℕ). get_or (epochs_in p l) (identifier_of w) 0) stored
      ∙ ap (λ (l : List ℕ). get_or l (identifier_of w) 0) (known_put p (raised ks (spoken own (take i ws) ks)) s₀ heard-long fits)
      ∙ get_or-raised ks (spoken own (take i ws) ks) (identifier_of w) (omega (arith, length-spoken own (take i ws) ks))
      ∙ omega (arith, spoken-ahead own ws ks named i i (omega arith) more)

  pub raise-write : (t : List ℕ) (b : Bool) → b ≡ not (eqb (identifier_of w) own) && ltb (get_or (epochs_in p s) (identifier_of w) 0) (epoch_of w)
      → t ≡ cond b (set s (p + identifier_of w) (epoch_of w)) s → t ≡ put p (raised ks (spoken own (take (i + 1) ws) ks)) s₀
  raise-write t b q e =
      e
      ∙ go b
      ∙ ap (λ (x : Bool). put p (cond x (set (raised ks (spoken own (take i ws) ks)) (identifier_of w) (epoch_of w)) (raised ks (spoken own (take i ws) ks))) s₀)
      (q ∙ ap (λ (k : ℕ). not (eqb (identifier_of w) own) && ltb k (epoch_of w)) raise-read)
      ∙ ap (λ (l : List ℕ). put p l s₀) (sym (raised-turn own ws ks named long i more))
    where
      go : (b : Bool) → cond b (set s (p + identifier_of w) (epoch_of w)) s
          ≡ put p (cond b (set (raised ks (spoken own (take i ws) ks)) (identifier_of w) (epoch_of w)) (raised ks (spoken own (take i ws) ks))) s₀
      go true =
          ap (λ (l : List ℕ). set l (p + identifier_of w) (epoch_of w)) stored
          ∙ put-set p (identifier_of w) (epoch_of w) (raised ks (spoken own (take i ws) ks)) s₀ (omega (arith, heard-long, named.few i more))
      go false = stored

-- ---- epochs stay epochs

told_le : (own m : ℕ) (es : List ℕ) (w : ℕ) → ((n : ℕ) → get_or es n 0 ≤ m) → epoch_of w ≤ m → (n : ℕ) → get_or (told own es w) n 0 ≤ m
unfolding told
told_le own m es w h k n =
    cond_ind (λ (l : List ℕ). get_or l n 0 ≤ m) (eqb (identifier_of w) own) es (set es (identifier_of w) (epoch_of w)) (λ t. h n) (λ t. at_set es (identifier_of w) n h)
  where
    at_set : (es : List ℕ) (i n : ℕ) → ((n : ℕ) → get_or es n 0 ≤ m) → get_or (set es i (epoch_of w)) n 0 ≤ m
    at_set [] i n g = g n
    at_set (e ∷ es) zero zero g = k
    at_set (e ∷ es) zero (suc n) g = g (suc n)
    at_set (e ∷ es) (suc i) zero g = g 0
    at_set (e ∷ es) (suc i) (suc n) g = at_set es i n (λ j. g (suc j))

pub spoken_le : (own m : ℕ) (ws ks : List ℕ) → ((n : ℕ) → get_or ks n 0 ≤ m) → ((i : ℕ) → i < length ws → epoch_of (get_or ws i 0) ≤ m)
    → (n : ℕ) → get_or (spoken own ws ks) n 0 ≤ m
unfolding spoken
spoken_le own m [] ks h k n = h n
spoken_le own m (w ∷ ws) ks h k n = spoken_le own m ws (told own ks w) (told_le own m ks w h (k 0 (omega arith))) (λ i l. k (suc i) (omega (arith, l))) n

-- of epochs that the known ones are not below
pub raised-same : (ks es : List ℕ) → NotAbove es ks → raised ks es ≡ ks
unfolding raised
raised-same [] es h = refl
raised-same (k ∷ ks) [] h = refl
raised-same (k ∷ ks) (e ∷ es) h = ap₂ {A = ℕ} {B = List ℕ} {C = List ℕ} (λ x l. x ∷ l) (omega (arith, h 0)) (raised-same ks es (λ n. h (suc n)))

pub risen-none : (ks es : List ℕ) → NotAbove es ks → older ks es ≡ 0
risen-none ks es h =
    digits_ext (older ks es) 0 (λ n.
    digit-older ks es n ∙ ⊎_elim (λ b. absurd (omega (arith, b.0, h n))) (λ b. b.1) (below (get_or ks n 0) (get_or es n 0)) ∙ sym (digit-empty n))
