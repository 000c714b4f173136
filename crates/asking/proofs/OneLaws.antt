-- One failed name at most: what it makes true, what it leaves, and a walk over the names that puts together what each of them leaves.
-- The idea: a set of one name makes a predicate without the empty term true where the name is one of its terms; and the ends of what several sets
-- leave are ends of what one of them leaves. No contract cites this file. Assumes nothing.
use Prim.Native.Nat.{ℕ, ◌≤◌, ◌<◌, min, max}
use mathlib.Core.Path.{◌≡◌, refl, sym, ap, subst, ◌∙◌}
use mathlib.Core.Logic.{◌⊎◌, inl, inr, ⊎_elim}
use mathlib.Core.Bool.{true, false, not, cond}
use mathlib.Core.List.{List, [], ◌∷◌}
use native.Mathlib.Decide.{dec_lt, dec_le}
use native.Mathlib.Omega.{arith}
use borrow.Author.Tests.{eq-eqb, lt-ltb, le-ltb, le-leb}
use lib.Bits.{and_comm}
use lib.Count.{ones}
use lib.Dec.{T, T_not, not_T, leb, ltb}
use lib.IntN.{ℤ, pos}
use lib.ListN.{length}
use Rattle.names.specs.Sets.{subset, set_union, minus}
use Rattle.names.specs.code.Parts.{shared, least_name}
use Rattle.names.proofs.SetLaws.{subset_refl, subset-empty, subset_trans, subset_out, digits_ext, digit-empty, digit-union, digit_lt, union_left, union_right, ones_mono, ones_none, ones-empty}
use Rattle.names.proofs.PartLaws.{shared-left, shared-right, shared-greatest, subset-same, single_part, digit-minus, minus_add, minus-subset, least_name_in, least_name-one, least_name-least}
use Rattle.predicates.specs.Lists.{In}
use Rattle.predicates.specs.Predicates.{holds}
use Rattle.predicates.specs.code.Marks.{singles}
use Rattle.predicates.proofs.ListLaws.{true_T, T_true, T_false, cond_ind, keep_out}
use Rattle.predicates.proofs.PredicateLaws.{holds_in, holds_out}
use Rattle.predicates.proofs.MarkLaws.{singles-holds}
use Rattle.search.proofs.PartedLaws.{singles_in}
use Rattle.state.specs.Model.{Datum}
use Rattle.search.specs.code.LeftEnds.{no_end}
use Rattle.asking.specs.declared.Answer.{Answer}
use Rattle.asking.specs.declared.Answer.TheVariants.{Contradicted, Between}
use Rattle.asking.specs.Instants.{Within, InAll, Gives}
use Rattle.asking.specs.Asking.{interval, active}
use Rattle.asking.specs.code.Plain.{greatest_left, least_right}
use Rattle.asking.specs.code.One.{masks_of, common_names, all_names, OneOf, Hull}
use Rattle.asking.proofs.InstantLaws.{within_none, within_wider}
use Rattle.asking.proofs.AnswerLaws.{common-given}
use Rattle.asking.proofs.PlainLaws.{right-below, common-interval, none-common}

-- ---- one name and a predicate

pub one-some : (c : ℕ) → ones c ≡ 1 → c ≡ 0 → ⊥
one-some c e z = omega (arith, e, ap ones z, ones-empty)

module _ (u : ℕ) (p : List ℕ) where
  -- a set of one name at most that makes a predicate without the empty term true is one of its terms
  pub one_holds : ones u ≤ 1 → T (not (holds 0 p)) → T (holds u p) → T (subset u (singles p))
  one_holds one bare h =
      let w = holds_out u p h in
      let t = w.0 in
      let some : t ≡ 0 → ⊥ = λ z. T_not (holds 0 p) bare (holds_in 0 p t w.1 (subst (λ (x : ℕ). T (subset x 0)) (sym z) (subset_refl 0))) in
      let low : ones t ≡ 0 → ⊥ = λ z. some (ones_none t z) in
      let high = ones_mono t u w.2 in
      let just : ones t ≡ 1 = exact (ones t) low (omega arith) in
      let same : t ≡ u = subset-same t u w.2 (omega arith) in
      subst (λ (x : ℕ). T (subset x (singles p))) same (singles_in p t w.1 (true_T _ (eq-eqb (ones t) 1 just)))
    where
      exact : (n : ℕ) → (n ≡ 0 → ⊥) → n ≤ 1 → n ≡ 1
      exact n f l = omega arith

  pub holds_one_lem : ones u ≡ 1 → T (subset u (singles p)) → T (holds u p)
  holds_one_lem e h =
      singles-holds u p (λ z.
      one-some u e (subset-empty u (subst (λ (x : ℕ). T (subset u x)) z (shared-greatest u u (singles p) (subset_refl u) h))))

  pub one_false : ones u ≤ 1 → T (not (holds 0 p)) → shared (singles p) u ≡ 0 → holds u p ≡ false
  one_false one bare z =
      T_false (holds u p) (not_T (holds u p) (λ t.
      let inside = shared-greatest u (singles p) u (one_holds one bare t) (subset_refl u) in
      let empty = subset-empty u (subst (λ (x : ℕ). T (subset u x)) z inside) in
      T_not (holds 0 p) bare (subst (λ (x : ℕ). T (holds x p)) empty t)))

  pub one_true : (shared (singles p) u ≡ 0 → ⊥) → holds u p ≡ true
  unfolding shared
  one_true f = T_true (holds u p) (singles-holds u p (λ z. f (and_comm (singles p) u ∙ z)))

-- ---- masks

pub common_in : (u names : ℕ) (ds : List Datum) → T (subset u names) → ((d : Datum) → In d ds → T (subset u (singles d.terms)))
    → T (subset u (common_names names (masks_of ds)))
unfolding masks_of
common_in u names [] h f = h
common_in u names (d ∷ ds) h f =
    common_in u (shared names (singles d.terms)) ds (shared-greatest u names (singles d.terms) h (f d (inl refl))) (λ e m. f e (inr m))

pub common_out : (u names : ℕ) (ds : List Datum) → T (subset u (common_names names (masks_of ds)))
    → T (subset u names) × ((d : Datum) → In d ds → T (subset u (singles d.terms)))
unfolding masks_of
common_out u names [] h = (h, λ d m. absurd m)
common_out u names (d ∷ ds) h =
    let r = common_out u (shared names (singles d.terms)) ds h in (
      subset_trans u (shared names (singles d.terms)) names r.0 (shared-left names (singles d.terms)),
      λ e. ⊎_elim (λ q. subst (λ (c : Datum). T (subset u (singles c.terms))) (sym q) (subset_trans u _ _ r.0 (shared-right names (singles d.terms)))) (r.1 e),
    )

all_names-above : (names : ℕ) (ds : List Datum) → T (subset names (all_names names (masks_of ds)))
unfolding masks_of
all_names-above names [] = subset_refl names
all_names-above names (d ∷ ds) =
    subset_trans names (set_union names (singles d.terms)) _ (union_left names (singles d.terms)) (all_names-above (set_union names (singles d.terms)) ds)

pub all_names_in : (names : ℕ) (ds : List Datum) (d : Datum) → In d ds → T (subset (singles d.terms) (all_names names (masks_of ds)))
unfolding masks_of
all_names_in names [] d m = absurd m
all_names_in names (e ∷ ds) d (inl q) =
    subst (λ (c : Datum). T (subset (singles c.terms) (all_names (set_union names (singles e.terms)) (masks_of ds)))) (sym q)
    (subset_trans (singles e.terms) (set_union names (singles e.terms)) _ (union_right names (singles e.terms)) (all_names-above (set_union names (singles e.terms)) ds))
all_names_in names (e ∷ ds) d (inr m) = all_names_in (set_union names (singles e.terms)) ds d m

-- ---- what one set leaves

module _ (P : ℤ → Type 0) (l r : ℕ) (g : Gives P (interval l r)) where
  interval-within : (x : ℤ) → P x → Within l r x
  interval-within =
      cond_ind (λ (a : Answer). Gives P a → (x : ℤ) → P x → Within l r x) (leb l r) (Between l r) Contradicted (λ _ w. w.2) (λ _ w x p. absurd (w x p)) g

  interval-ends : l ≤ r → P (pos l) × P (pos r)
  interval-ends h = let w : Gives P (Between l r) = rw (le-leb l r h) at g in (w.0, w.1)

none-left_of : (ds : List Datum) → length ds ≡ 0 → greatest_left 0 ds ≡ 0
unfolding greatest_left
none-left_of [] e = refl
none-left_of (d ∷ ds) e = absurd (omega arith)

module _ (held : List Datum) (lasts : (d : Datum) → In d held → d.right < no_end) (u left right : ℕ) (a : left ≡ greatest_left 0 (active u held))
    (b : right ≡ least_right no_end (active u held)) where
  pub span_right : right ≤ no_end
  span_right = omega (arith, b, right-below no_end (active u held))

  -- where it leaves some predicate false
  pub span-given : 0 < length (active u held) → Gives (InAll u held) (interval left right)
  unfolding active
  span-given h =
      rw (a, b)
      (subst (λ (x : Answer). Gives (InAll u held) x)
      (common-interval no_end (active u held) h (λ d m. lasts d (keep_out (λ (e : Datum). not (holds u e.terms)) held d m).0))
      (common-given u held))

  -- where it does not
  span_open : length (active u held) ≡ 0 → (x : ℤ) → InAll u held x
  span_open e = rw (none-common (active u held) e) at (common-given u held)

  pub span-some : left ≤ right → (x : ℤ) × InAll u held x
  span-some h = go (dec_lt 0 (length (active u held)))
    where
      go : Dec (0 < length (active u held)) → (x : ℤ) × InAll u held x
      go (yes l) = (pos left, (interval-ends (InAll u held) left right (span-given l) h).0)
      go (no l) = (pos 0, span_open (omega arith) (pos 0))

  pub span_none : right < left → (x : ℤ) → InAll u held x → ⊥
  span_none h x i = go (dec_lt 0 (length (active u held)))
    where
      go : Dec (0 < length (active u held)) → ⊥
      go (yes l) = within_none left right x h (interval-within (InAll u held) left right (span-given l) x i)
      go (no l) = omega (arith, a, none-left_of (active u held) (omega arith))

-- ---- what several sets leave together

module _ (ds : List Datum) (U W : ℕ → Type 0) where
  -- other sets that leave the same instants
  pub hull_same : (l r : ℕ) → Hull ds U l r → ((u : ℕ) (x : ℤ) → U u → InAll u ds x → (v : ℕ) × W v × InAll v ds x)
      → ((v : ℕ) (x : ℤ) → W v → InAll v ds x → (u : ℕ) × U u × InAll u ds x) → Hull ds W l r
  hull_same l r w f g =
      record {
        within = λ v h x i. let o = g v x h i in w.within o.0 o.1 x o.2;
        first = λ h. let o = w.first h in f o.0 (pos l) o.1 o.2;
        last = λ h. let o = w.last h in f o.0 (pos r) o.1 o.2;
        none = w.none;
      }

  -- one set more
  module _ (u al ar bl br : ℕ) (w : Hull ds U al ar) (old : (v : ℕ) → U v → W v) (new : W u) (cases : (v : ℕ) → W v → U v ⊎ (v ≡ u))
      (g : Gives (InAll u ds) (interval bl br)) (most : br ≤ no_end) where
    hull_none : br < bl → Hull ds W al ar
    hull_none h =
        record {
          within = λ v k x i. ⊎_elim (λ q. w.within v q x i) (λ e. absurd (within_none bl br x h (interval-within (InAll u ds) bl br g x (subst (λ (n : ℕ). InAll n ds x) e i)))) (cases v k);
          first = λ k. let o = w.first k in (o.0, old o.0 o.1, o.2);
          last = λ k. let o = w.last k in (o.0, old o.0 o.1, o.2);
          none = w.none;
        }

    hull_some : bl ≤ br → Hull ds W (min al bl) (max ar br)
    hull_some h =
        record {
          within = λ v k x i.
              ⊎_elim (λ q. within_wider al ar (min al bl) (max ar br) x (omega arith) (omega arith) (w.within v q x i))
              (λ e. within_wider bl br (min al bl) (max ar br) x (omega arith) (omega arith) (interval-within (InAll u ds) bl br g x (subst (λ (n : ℕ). InAll n ds x) e i)))
              (cases v k);
          first = λ _. low (dec_lt ar al) (dec_le al bl);
          last = λ _. high (dec_lt ar al) (dec_le br ar);
          none = λ k. absurd (omega arith);
        }
      where
        ends : InAll u ds (pos bl) × InAll u ds (pos br)
        ends = interval-ends (InAll u ds) bl br g h

        low-new : min al bl ≡ bl → (v : ℕ) × W v × InAll v ds (pos (min al bl))
        low-new e = (u, new, subst (λ (n : ℕ). InAll u ds (pos n)) (sym e) ends.0)

        low : Dec (ar < al) → Dec (al ≤ bl) → (v : ℕ) × W v × InAll v ds (pos (min al bl))
        low (yes n) k = low-new (omega (arith, w.none n))
        low (no n) (no k) = low-new (omega arith)
        low (no n) (yes k) =
            let o = w.first (omega arith) in
            let e : al ≡ min al bl = omega arith in
            (o.0, old o.0 o.1, subst (λ (n : ℕ). InAll o.0 ds (pos n)) e o.2)

        high_new : max ar br ≡ br → (v : ℕ) × W v × InAll v ds (pos (max ar br))
        high_new e = (u, new, subst (λ (n : ℕ). InAll u ds (pos n)) (sym e) ends.1)

        high : Dec (ar < al) → Dec (br ≤ ar) → (v : ℕ) × W v × InAll v ds (pos (max ar br))
        high (yes n) k = high_new (omega (arith, w.none n))
        high (no n) (no k) = high_new (omega arith)
        high (no n) (yes k) =
            let o = w.last (omega arith) in
            let e : ar ≡ max ar br = omega arith in
            (o.0, old o.0 o.1, subst (λ (n : ℕ). InAll o.0 ds (pos n)) e o.2)

    pub hull_more : (l r : ℕ) → l ≡ cond (ltb br bl) al (min al bl) → r ≡ cond (ltb br bl) ar (max ar br) → Hull ds W l r
    hull_more l r p q = go (dec_lt br bl)
      where
        go : Dec (br < bl) → Hull ds W l r
        go (yes h) = rw (p, q, lt-ltb br bl h) (hull_none h)
        go (no h) = rw (p, q, le-ltb br bl (omega arith)) (hull_some (omega arith))

-- ---- a walk over the names: those done, one more, and the rest

pub walk_start : (names : ℕ) → minus names names ≡ 0
walk_start names = digits_ext (minus names names) 0 (λ n. omega (arith, digit-minus names names n, digit-empty n))

pub walk_end : (names : ℕ) → minus names 0 ≡ names
walk_end names = digits_ext (minus names 0) names (λ n. omega (arith, digit-minus names 0 n, digit-empty n))

pub one_none : (c : ℕ) → OneOf 0 c → ⊥
one_none c o = one-some c o.0 (subset-empty c o.1)

module _ (names rest : ℕ) (within : T (subset rest names)) where
  -- a name is done or to come
  pub walk-cases : (v : ℕ) → OneOf names v → OneOf (minus names rest) v ⊎ OneOf rest v
  walk-cases v o =
      let whole : names ≡ set_union (minus names rest) rest =
      digits_ext names (set_union (minus names rest) rest) (λ n.
      omega (arith, digit-union (minus names rest) rest n, digit-minus names rest n, subset_out rest names within n, digit_lt names n)) in
      ⊎_elim (λ h. inl (o.0, h)) (λ h. inr (o.0, h)) (single_part v (minus names rest) rest o.0 (subst (λ (x : ℕ). T (subset v x)) whole o.1))

  module _ (some : 0 < rest) (c next : ℕ) (least : c ≡ least_name rest) (after : next ≡ minus rest c) where
    c_in : T (subset c rest)
    c_in = rw least (least_name_in rest)

    pub walk-name : OneOf names c
    walk-name = (ap ones least ∙ least_name-one rest some, subset_trans c rest names c_in within)

    pub walk-least : (v : ℕ) → OneOf rest v → c ≤ v
    walk-least v o = omega (arith, least, least_name-least rest v o.1 (positive (one-some v o.0)))
      where
        positive : (v ≡ 0 → ⊥) → 0 < v
        positive f = omega arith

    pub walk_less : next < rest
    walk_less = omega (arith, after, minus_add c rest c_in, positive (one-some c walk-name.0))
      where
        positive : (c ≡ 0 → ⊥) → 0 < c
        positive f = omega arith

    pub walk-within : T (subset next names)
    walk-within = rw after (subset_trans (minus rest c) rest names (minus-subset rest c) within)

    done : minus names next ≡ set_union (minus names rest) c
    done =
        rw after
        (digits_ext (minus names (minus rest c)) (set_union (minus names rest) c) (λ n.
        omega (arith, digit-minus names (minus rest c) n, digit-minus rest c n, digit-minus names rest n, digit-union (minus names rest) c n, subset_out c rest c_in n, subset_out rest names within n, digit_lt names n)))

    pub walk_old : (v : ℕ) → OneOf (minus names rest) v → OneOf (minus names next) v
    walk_old v o = (o.0, rw done (subset_trans v (minus names rest) _ o.1 (union_left (minus names rest) c)))

    pub walk-new : OneOf (minus names next) c
    walk-new = (walk-name.0, rw done (union_right (minus names rest) c))

    pub walk-done : (v : ℕ) → OneOf (minus names next) v → OneOf (minus names rest) v ⊎ (v ≡ c)
    walk-done v o =
        ⊎_elim (λ h. inl (o.0, h)) (λ h. inr (subset-same v c h (omega (arith, o.0, walk-name.0))))
        (single_part v (minus names rest) c o.0 (rw done at o.1))
