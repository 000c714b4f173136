-- The answer from what a search over the ends of the held intervals finds. What one set leaves is open, or it begins at a left end and stops at a
-- right end of held data (`fine_ends`); so an instant counts for it only between two ends that do. Assumes nothing.
use mathlib.Core.Path.{◌≡◌, refl, sym, subst}
use mathlib.Core.Logic.{◌⊎◌, inl, inr, ⊎_elim}
use mathlib.Core.Bool.{not}
use mathlib.Core.List.{List, [], ◌∷◌}
use Prim.Native.Nat.{ℕ, ◌≤◌, ◌<◌, min, max}
use native.Mathlib.Decide.{dec_le}
use native.Mathlib.Omega.{arith}
use lib.Dec.{T, leb}
use lib.IntN.{ℤ, pos}
use Rattle.std.specs.List.{list_all}
use Rattle.predicates.specs.Lists.{In}
use Rattle.predicates.specs.Predicates.{holds}
use Rattle.predicates.proofs.ListLaws.{split, cond_ind, keep_in, keep_out}
use Rattle.state.specs.Model.{Datum, Store, State}
use Rattle.asking.specs.declared.Answer.{Answer}
use Rattle.asking.specs.declared.Answer.TheVariants.{Contradicted, Open, Between}
use Rattle.asking.specs.Instants.{Within, InAll, Fine, Counts, Gives}
use Rattle.asking.specs.Asking.{cut, common, active, exact}
use Rattle.asking.specs.code.Claims.{needed_at, everything, Explained}
use Rattle.asking.proofs.InstantLaws.{within_wider}
use Rattle.asking.proofs.ClaimLaws.{everything_in, everything_out, needed_in, counts_in}
use Rattle.asking.proofs.AnswerLaws.{common-given, answer_is}

-- ---- the ends of what one set leaves

-- both ends are ends of the data's intervals; only no data leave every instant
abbrev EndsOf : List Datum → Answer → Type 0
EndsOf ds Contradicted = Unit {0}
EndsOf ds Open = (d : Datum) → In d ds → ⊥
EndsOf ds (Between l r) = ((d : Datum) × In d ds × (l ≡ d.left)) × ((d : Datum) × In d ds × (r ≡ d.right))

cut-ends : (d : Datum) (ds : List Datum) (a : Answer) → EndsOf ds a → EndsOf (d ∷ ds) (cut d a)
unfolding cut
cut-ends d ds Contradicted h = tt
cut-ends d ds Open h =
    cond_ind (λ (a : Answer). EndsOf (d ∷ ds) a) (leb d.left d.right) (Between d.left d.right) Contradicted
    (λ _. ((d, inl refl, refl), (d, inl refl, refl))) (λ _. tt)
cut-ends d ds (Between l r) h =
    cond_ind (λ (a : Answer). EndsOf (d ∷ ds) a) (leb (max l d.left) (min r d.right))
    (Between (max l d.left) (min r d.right)) Contradicted
    (λ _. (left (dec_le l d.left), right (dec_le d.right r))) (λ _. tt)
  where
    left : Dec (l ≤ d.left) → (e : Datum) × In e (d ∷ ds) × (max l d.left ≡ e.left)
    left (yes k) = (d, inl refl, omega arith)
    left (no k) = (h.0.0, inr h.0.1, omega (arith, h.0.2))

    right : Dec (d.right ≤ r) → (e : Datum) × In e (d ∷ ds) × (min r d.right ≡ e.right)
    right (yes k) = (d, inl refl, omega arith)
    right (no k) = (h.1.0, inr h.1.1, omega (arith, h.1.2))

common-ends : (ds : List Datum) → EndsOf ds (common ds)
unfolding common
common-ends [] = λ d m. m
common-ends (d ∷ ds) = cut-ends d ds (common ds) (common-ends ds)

-- x lies between a left end and a right end that count for s
pub record Reached (s : ℕ) (k : Store) (x : ℤ) : Type 0 where
  pub first : Datum
  pub last : Datum
  pub first-held : In first k.held
  pub last-held : In last k.held
  pub first_true : T (list_all (holds s) (needed_at first.left k))
  pub last_true : T (list_all (holds s) (needed_at last.right k))
  pub reached : Within first.left last.right x

pub fine_ends : (s : ℕ) (k : Store) (x : ℤ) → Fine s k x → T (list_all (holds s) (everything k)) ⊎ Reached s k x
unfolding active
fine_ends s k x h = go (common (active s k.held)) (common-given s k.held) (common-ends (active s k.held))
  where
    held-active : (d : Datum) → In d (active s k.held) → In d k.held
    held-active d m = (keep_out (λ (e : Datum). not (holds s e.terms)) k.held d m).0

    go : (a : Answer) → Gives (InAll s k.held) a → EndsOf (active s k.held) a → T (list_all (holds s) (everything k)) ⊎ Reached s k x
    go Contradicted g e = absurd (g x h.1)
    go Open g e = inl (everything_in s k h.0 (λ d m. hold d m (split (holds s d.terms))))
      where
        hold : (d : Datum) → In d k.held → T (holds s d.terms) ⊎ T (not (holds s d.terms)) → T (holds s d.terms)
        hold d m (inl t) = t
        hold d m (inr a) = absurd (e d (keep_in (λ (c : Datum). not (holds s c.terms)) k.held d m a))
    go (Between l r) g e =
        let a = e.0 in
        let b = e.1 in
        inr (record {
          first = a.0;
          last = b.0;
          first-held = held-active a.0 a.1;
          last-held = held-active b.0 b.1;
          first_true = needed_in s k a.0.left (h.0, subst (λ (n : ℕ). InAll s k.held (pos n)) a.2 g.0);
          last_true = needed_in s k b.0.right (h.0, subst (λ (n : ℕ). InAll s k.held (pos n)) b.2 g.1);
          reached = within_wider l r a.0.left b.0.right x (omega (arith, a.2)) (omega (arith, b.2)) (g.2 x h.1);
        })

-- ---- the answer from the ends that count

module _ (limit : ℕ) (st : State) where
  pub answer_open : Explained limit st (everything st.store) → exact limit st ≡ Open
  answer_open h = sym (answer_is limit st Open (λ x. (h.0, h.1, everything_out h.0 st.store h.2 x)))

  module _ (tied : Explained limit st (everything st.store) → ⊥) where
    -- not all instants count: those that do lie between ends that do
    counts-reached : (x : ℤ) (c : Counts limit st x) → Reached c.0 st.store x
    counts-reached x c = ⊎_elim (λ t. absurd (tied (c.0, c.1, t))) (λ r. r) (fine_ends c.0 st.store x c.2)

    pub answer-none : ((d : Datum) → In d st.store.held → Explained limit st (needed_at d.left st.store) → ⊥)
        → exact limit st ≡ Contradicted
    answer-none f =
        sym (answer_is limit st Contradicted (λ x c.
        let e = counts-reached x c in f e.first e.first-held (c.0, c.1, e.first_true)))

    pub answer-between : (l r : ℕ) → Explained limit st (needed_at l st.store)
        → ((d : Datum) → In d st.store.held → d.left < l → Explained limit st (needed_at d.left st.store) → ⊥)
        → Explained limit st (needed_at r st.store)
        → ((d : Datum) → In d st.store.held → r < d.right → Explained limit st (needed_at d.right st.store) → ⊥)
        → exact limit st ≡ Between l r
    answer-between l r a f b g =
        sym (answer_is limit st (Between l r) (counts_in limit st l a, counts_in limit st r b, λ x c. wide x c (counts-reached x c)))
      where
        wide : (x : ℤ) (c : Counts limit st x) → Reached c.0 st.store x → Within l r x
        wide x c e =
            within_wider e.first.left e.last.right l r x (low (dec_le l e.first.left)) (high (dec_le e.last.right r)) e.reached
          where
            low : Dec (l ≤ e.first.left) → l ≤ e.first.left
            low (yes h) = h
            low (no h) = absurd (f e.first e.first-held (omega arith) (c.0, c.1, e.first_true))

            high : Dec (e.last.right ≤ r) → e.last.right ≤ r
            high (yes h) = h
            high (no h) = absurd (g e.last e.last-held (omega arith) (c.0, c.1, e.last_true))

    -- once an instant counts, a right end does
    pub right_too : (l : ℕ) → Explained limit st (needed_at l st.store)
        → (d : Datum) × In d st.store.held × Explained limit st (needed_at d.right st.store)
    right_too l h =
        let c = counts_in limit st l h in
        let e = counts-reached (pos l) c in
        (e.last, e.last-held, (c.0, c.1, e.last_true))
