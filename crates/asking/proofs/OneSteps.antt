-- From what the loops over the held data and over the names find to the answer at limit 1, and to the one name that is the fewest.
-- The idea: a set within limit 1 is empty or one name; those that make every entry true are in `deciding`, and what they leave together is the answer.
-- No contract cites this file. Assumes nothing.
use Prim.Native.Nat.{ℕ, zero, suc, ◌+◌, ◌-◌, ◌^◌, ◌≤◌, ◌<◌, min, max}
use mathlib.Core.Path.{◌≡◌, refl, sym, ap, ap₂, subst, ◌∙◌}
use mathlib.Core.Logic.{◌⊎◌, inl, inr, ⊎_elim}
use mathlib.Core.Bool.{Bool, true, false, ◌||◌, not, cond}
use mathlib.Core.List.{List, [], ◌∷◌}
use native.Mathlib.Decide.{ℕ_discrete, dec_lt}
use native.Mathlib.Numerals.{add-one}
use native.Mathlib.Omega.{arith}
use borrow.Author.Tests.{eq-eqb, le-ltb}
use lib.Count.{ones}
use lib.Pow.{pow_pos}
use lib.Dec.{T, T_not, not_T, eqb, eqb→eq, ltb}
use lib.IntN.{ℤ, pos}
use lib.ListN.{length, get_or, drop, length-map, drop_of_length-le}
use lib.Seq.{drop-cons}
use Rattle.numbers.specs.Numbers.{num, tab}
use Rattle.numbers.proofs.NumberLaws.{get_or-tab, length-tab, tab_ext, above_zero}
use Rattle.names.specs.Sets.{no_set, subset, set_union, has, minus}
use Rattle.names.specs.code.Parts.{shared, others, least_name}
use Rattle.names.proofs.SetLaws.{subset_refl, ones_none, ones-empty, has-empty, has-single, subset_le, subset-empty, subset_trans, subset_out, digits_ext, digit-empty, digit-union, digit_lt}
use Rattle.names.proofs.PartLaws.{others_in, others_lt, others_out, shared-greatest, shared-right, shared-left, digit-shared, digit-minus, minus-subset, single_part, least_name_in, least_name-one}
use Rattle.std.specs.List.{list_all}
use Rattle.predicates.specs.Lists.{In}
use Rattle.predicates.specs.Predicates.{holds}
use Rattle.predicates.specs.code.Marks.{singles}
use Rattle.predicates.proofs.ListLaws.{split, keep_in, map_out, true_T, or_l, or_r, or_cases}
use Rattle.predicates.proofs.IndexLaws.{get_or_map, at_in, in_at}
use Rattle.state.specs.Model.{Datum, Store, State, last_whole}
use Rattle.state.specs.Layout.{held_count, entry_count, datum_at, head_of, store_of, state_of, own_at}
use Rattle.state.specs.Form.{in_form}
use Rattle.state.proofs.StateLaws.{length-held, length-entries, form_ok}
use Rattle.search.specs.code.LeftEnds.{no_end, lefts_of, rights_of}
use Rattle.claims.specs.declared.keys.Scale.{Scale}
use Rattle.claims.specs.code.Keys.{scale_of, start_of, step_of, down_by, up_by, key_of, map_ends, mapped, keyed, keyed_state}
use Rattle.search.specs.declared.rows.Span.{Span}
use Rattle.claims.specs.code.Tables.{entry_claim, claim_at, claim_left, claim_right, claim_span}
use Rattle.claims.specs.code.Degrees.{deciding}
use Rattle.claims.proofs.TableLaws.{datum_claim, left-stored, right-stored}
use Rattle.claims.proofs.KeyLaws.{key_low, held-keyed, mapped_entry}
use Rattle.asking.specs.Asking.{active, exact, answer}
use Rattle.asking.specs.code.Plain.{greatest_left, least_right}
use Rattle.asking.specs.declared.Answer.TheVariants.{Contradicted, Open, Between}
use Rattle.asking.specs.code.One.{masks_of, common_names, all_names, InArrays, OneOf, Lacking, AtMostOne, Hull, LeastLeaving, FewestOne}
use Rattle.asking.specs.Instants.{Within, InAll, Allowed, Counts}
use Rattle.asking.proofs.PlainLaws.{each_bare, form-bare, all-active}
use Rattle.asking.proofs.InstantLaws.{within_none, inall_in, inall_out}
use Rattle.asking.proofs.ClaimLaws.{everything_in}
use Rattle.asking.proofs.AnswerLaws.{answer_is}
use Rattle.asking.proofs.EndLaws.{answer_open}
use Rattle.asking.proofs.ArrayLaws.{entries_at, at_entries}
use Rattle.asking.proofs.MappedLaws.{answer-keyed, keyed-low, works-keyed, keyed-works, keyed-everything}
use Rattle.asking.proofs.OneLaws.{common_in, common_out, one_holds, holds_one_lem, one-some, one_none, all_names_in, hull_same, one_false, one_true, span-given, span_right, span-some, span_none, hull_more, walk_end, walk-cases, walk-name, walk-least, walk_old, walk-new, walk-done}

-- ---- the masks, one after the other

module _ (masks : List ℕ) (i : ℕ) where
  pub common-done : length masks ≤ i → (names : ℕ) → common_names names (drop i masks) ≡ names
  common-done h names = rw (drop_of_length-le masks {i = i} h)

-- ---- the held data, one after the other

-- the data from i on bring these ends to what all data have in common
abbrev pub Spanning : List Datum → ℕ → ℕ → ℕ → ℕ → Type 0
Spanning ds u i left right =
    (greatest_left left (active u (drop i ds)) ≡ greatest_left 0 (active u ds)) × (least_right right (active u (drop i ds)) ≡ least_right no_end (active u ds))

module _ (ds : List Datum) {lefts rights masks : List ℕ} (kept : InArrays ds lefts rights masks) where
  pub mask_count : length masks ≡ length ds
  unfolding masks_of
  mask_count = ap length kept.masks_are ∙ length-map ds (λ (d : Datum). singles d.terms)

  module _ (u : ℕ) (one : ones u ≤ 1) where
    module _ (i : ℕ) (h : i < length masks) (x left right : ℕ) (e : x ≡ shared (get_or masks i 0) u) (w : Spanning ds u i left right) where
      abbrev here : Datum
      here = get_or ds i (entry_claim [])

      inside : i < length ds
      inside = omega (arith, mask_count)

      next : drop i ds ≡ here ∷ drop (i + 1) ds
      next = rw add-one (drop-cons ds i (entry_claim []) inside)

      mask : x ≡ shared (singles here.terms) u
      unfolding masks_of
      mask =
          e
          ∙ ap (λ (n : ℕ). shared n u)
          (ap (λ (l : List ℕ). get_or l i 0) kept.masks_are ∙ get_or_map (λ (d : Datum). singles d.terms) ds (entry_claim []) 0 i inside)

      pub span-take : x ≡ 0 → (a b : ℕ) → a ≡ max left (get_or lefts i 0) → b ≡ min right (get_or rights i 0) → Spanning ds u (i + 1) a b
      unfolding active greatest_left least_right
      span-take z a b f g =
          let stays = one_false u here.terms one (kept.bare here (at_in ds (entry_claim []) i inside)) (sym mask ∙ z) in
          let from : active u (drop i ds) ≡ here ∷ active u (drop (i + 1) ds) = rw (next, stays) in
          (rw (f, kept.left_is i h) (rw from at w.0), rw (g, kept.right_is i h) (rw from at w.1))

      pub span_pass : (x ≡ 0 → ⊥) → Spanning ds u (i + 1) left right
      unfolding active
      span_pass f =
          let goes = one_true u here.terms (λ z. f (mask ∙ z)) in
          let from : active u (drop i ds) ≡ active u (drop (i + 1) ds) = rw (next, goes) in
          (rw from at w.0, rw from at w.1)

    pub span-done : (i left right : ℕ) → length masks ≤ i → Spanning ds u i left right
        → (left ≡ greatest_left 0 (active u ds)) × (right ≡ least_right no_end (active u ds))
    unfolding active greatest_left least_right
    span-done i left right h w =
        let none : drop i ds ≡ [] = drop_of_length-le ds {i = i} (omega (arith, mask_count)) in (rw none at w.0, rw none at w.1)

-- ---- the names, one after the other

-- none of the names done leaves an instant
abbrev pub NoneOf : List Datum → ℕ → Type 0
NoneOf ds names = (v : ℕ) → OneOf names v → (x : ℤ) → InAll v ds x → ⊥

module _ (held : List Datum) {lefts rights masks : List ℕ} (kept : InArrays held lefts rights masks) (names rest : ℕ) (within : T (subset rest names)) where
  module _ (some : 0 < rest) (c : ℕ) (least : c ≡ least_name rest) (left right : ℕ) (a : left ≡ greatest_left 0 (active c held))
      (b : right ≡ least_right no_end (active c held)) where
    pub over-turn : Lacking held names → (next : ℕ) → next ≡ minus rest c → (plain : Bool) (l₀ r₀ l r : ℕ) → Hull held (AtMostOne plain (minus names rest)) l₀ r₀
        → l ≡ cond (ltb right left) l₀ (min l₀ left) → r ≡ cond (ltb right left) r₀ (max r₀ right) → Hull held (AtMostOne plain (minus names next)) l r
    over-turn lacks next after plain l₀ r₀ l r w p q =
        hull_more held (AtMostOne plain (minus names rest)) (AtMostOne plain (minus names next)) c l₀ r₀ left right w
        (λ v. ⊎_elim (λ z. inl z) (λ o. inr (walk_old names rest within some c next least after v o)))
        (inr (walk-new names rest within some c next least after))
        (λ v. ⊎_elim (λ z. inl (inl z)) (λ o. ⊎_elim (λ d. inl (inr d)) (λ e. inr e) (walk-done names rest within some c next least after v o)))
        (span-given held kept.below c left right a b (lacks c (walk-name names rest within some c _ least refl)))
        (span_right held kept.below c left right a b) l r p q

    pub least-found : NoneOf held (minus names rest) → left ≤ right → LeastLeaving held names c
    least-found none h =
        record {
          one = λ _. (walk-name names rest within some c _ least refl, span-some held kept.below c left right a b h);
          least = λ v o x i. ⊎_elim (λ d. absurd (none v d x i)) (λ t. walk-least names rest within some c _ least refl v t) (walk-cases names rest within v o);
        }

    pub least_next : NoneOf held (minus names rest) → right < left → (next : ℕ) → next ≡ minus rest c → NoneOf held (minus names next)
    least_next none h next after v o x i =
        ⊎_elim (λ d. none v d x i)
        (λ e. span_none held kept.below c left right a b h x (subst (λ (u : ℕ). InAll u held x) e i))
        (walk-done names rest within some c next least after v o)

  pub least-none : rest ≡ 0 → NoneOf held (minus names rest) → LeastLeaving held names no_set
  least-none z none =
      let all_done : NoneOf held names = rw (z, walk_end names) at none in
      record { one = λ h. absurd (omega arith); least = λ v o x i. absurd (all_done v o x i) }

-- ---- what all names leave

module _ (held : List Datum) {lefts rights masks : List ℕ} (kept : InArrays held lefts rights masks) where
  pub begun-none : Hull held (AtMostOne false 0) no_end 0
  begun-none =
      record {
        within = λ u. ⊎_elim (λ t. absurd t.0) (λ o. absurd (one_none u o));
        first = λ h. absurd (omega arith);
        last = λ h. absurd (omega arith);
        none = λ _. (refl, refl);
      }

  pub begun-empty : 0 < length held → (left right : ℕ) → left ≡ greatest_left 0 (active 0 held) → right ≡ least_right no_end (active 0 held)
      → (l r : ℕ) → l ≡ cond (ltb right left) no_end (min no_end left) → r ≡ cond (ltb right left) 0 (max 0 right) → Hull held (AtMostOne true 0) l r
  begun-empty h left right a b l r p q =
      let list_all : active 0 held ≡ held = all-active held kept.bare in
      hull_more held (AtMostOne false 0) (AtMostOne true 0) 0 no_end 0 left right begun-none
      (λ v. ⊎_elim (λ t. absurd t.0) (λ o. inr o)) (inl (tt, refl)) (λ v. ⊎_elim (λ t. inr t.1) (λ o. inl (inr o)))
      (span-given held kept.below 0 left right a b (rw list_all h))
      (span_right held kept.below 0 left right a b) l r p q

  -- sets that leave every predicate false leave the same
  same_left : (u v : ℕ) (x : ℤ) → ((d : Datum) → In d held → T (not (holds u d.terms))) → InAll u held x → InAll v held x
  same_left u v x f i = inall_in v held x (λ d m _. inall_out u held x i d m (f d m))

  module _ (names some : ℕ) (e : some ≡ all_names 0 (masks_of held)) where
    -- a name that no mask has leaves what the empty set leaves
    apart : (c : ℕ) → OneOf (minus names some) c → (d : Datum) → In d held → T (not (holds c d.terms))
    apart c o d m =
        let has : T (subset (singles d.terms) some) = rw e (all_names_in 0 held d m) in
        let none : shared (singles d.terms) c ≡ 0 =
        digits_ext (shared (singles d.terms) c) 0 (λ n.
        omega (arith, digit-shared (singles d.terms) c n, subset_out c (minus names some) o.1 n, digit-minus names some n, subset_out (singles d.terms) some has n, digit_lt names n, digit-empty n)) in
        rw (one_false c d.terms (omega (arith, o.0)) (kept.bare d m) none) tt

    pub names-all : (plain b : Bool) (m l r : ℕ) → m ≡ minus names some → plain || not (eqb m 0) ≡ b → Hull held (AtMostOne b (shared names some)) l r
        → Hull held (AtMostOne plain names) l r
    names-all plain b m l r k q w = hull_same held (AtMostOne b (shared names some)) (AtMostOne plain names) l r w out back
      where
        out : (u : ℕ) (x : ℤ) → AtMostOne b (shared names some) u → InAll u held x → (v : ℕ) × AtMostOne plain names v × InAll v held x
        out u x (inr o) i = (u, inr (o.0, subset_trans u (shared names some) names o.1 (shared-left names some)), i)
        out u x (inl t) i = ⊎_elim (λ p. (u, inl (p, t.1), i)) (λ f. fresh (above_zero (λ z. T_not (eqb m 0) f (true_T _ (eq-eqb m 0 (k ∙ z)))))) (or_cases plain (not (eqb m 0)) (rw q t.0))
          where
            fresh : 0 < minus names some → (v : ℕ) × AtMostOne plain names v × InAll v held x
            fresh h =
                let c = least_name (minus names some) in (
                  c,
                  inr (least_name-one (minus names some) h, subset_trans c (minus names some) names (least_name_in (minus names some)) (minus-subset names some)),
                  same_left 0 c x kept.bare (subst (λ (n : ℕ). InAll n held x) t.1 i),
                )

        back : (v : ℕ) (x : ℤ) → AtMostOne plain names v → InAll v held x → (u : ℕ) × AtMostOne b (shared names some) u × InAll u held x
        back v x (inl t) i = (v, inl (rw (sym q) (or_l plain (not (eqb m 0)) t.0), t.1), i)
        back v x (inr o) i = ⊎_elim (λ h. (v, inr (o.0, h), i)) fresh (single_part v (shared names some) (minus names some) o.0 (subst (λ (n : ℕ). T (subset v n)) whole o.1))
          where
            whole : names ≡ set_union (shared names some) (minus names some)
            whole =
                digits_ext names (set_union (shared names some) (minus names some)) (λ n.
                omega (arith, digit-union (shared names some) (minus names some) n, digit-shared names some n, digit-minus names some n, digit_lt names n, digit_lt some n))

            fresh : T (subset v (minus names some)) → (u : ℕ) × AtMostOne b (shared names some) u × InAll u held x
            fresh h =
                let more : T (not (eqb m 0)) =
                not_T (eqb m 0) (λ z. one-some v o.0 (subset-empty v (subst (λ (n : ℕ). T (subset v n)) (sym k ∙ eqb→eq m 0 z) h))) in
                (0, inl (rw (sym q) (or_r plain (not (eqb m 0)) more), refl), same_left v 0 x (apart v (o.0, h)) i)

-- ---- the state with keys for ends

module _ (s : List ℕ) (form : T (in_form s)) where
  pub keyed-bare : T (list_all (λ p. not (holds 0 p)) (keyed_state s).store.entries) × ((d : Datum) → In d (keyed_state s).store.held → T (not (holds 0 d.terms)))
  unfolding keyed_state state_of
  keyed-bare = each_bare (keyed_state s) (rw (keyed-everything s form) (form-bare (state_of s) (form_ok s form)))

  keyed_lasts : (d : Datum) → In d (keyed s).held → d.right < no_end
  unfolding keyed mapped
  keyed_lasts d m =
      let w = map_out (map_ends (key_of s)) (store_of s).held d m in
      rw w.2 (omega (arith, key_low s form (key_of s w.0.right) (held-keyed s form w.0 w.1).1.1))

  deciding-keyed : (own n : ℕ) → n ≤ length (store_of s).entries → deciding (keyed s) own n ≡ deciding (store_of s) own n
  unfolding deciding keyed
  deciding-keyed own zero h = refl
  deciding-keyed own (suc n) h =
      ap₂ shared (deciding-keyed own n (omega arith))
      (ap (λ (d : Datum). singles d.terms) (mapped_entry (key_of s) (store_of s) n (omega arith)))

  -- datum i
  keyed_at : (i : ℕ) → i < held_count s → get_or (keyed s).held i (entry_claim []) ≡ map_ends (key_of s) (datum_at s i)
  unfolding keyed mapped store_of
  keyed_at i h =
      get_or_map (map_ends (key_of s)) (tab (held_count s) (datum_at s)) (entry_claim []) (entry_claim []) i (rw length-tab h)
      ∙ ap (map_ends (key_of s)) (get_or-tab (held_count s) i (datum_at s) (entry_claim []) h)

  keyed-count : length (keyed s).held ≡ held_count s
  unfolding keyed mapped
  keyed-count = length-map (store_of s).held (map_ends (key_of s)) ∙ length-held s

  -- the masks that are read from the bytes
  pub masks-read : (n h : ℕ) (l : List ℕ) → n ≡ entry_count s → h ≡ held_count s
      → l ≡ tab h (λ i. singles (claim_at (store_of s) (n + i)).terms) → l ≡ masks_of (keyed s).held
  unfolding masks_of
  masks-read n h l a b e =
      let k = store_of s in
      e
      ∙ tab_ext 0 h (λ i. singles (claim_at k (n + i)).terms) (masks_of (keyed s).held) (length-map (keyed s).held (λ (d : Datum). singles d.terms) ∙ keyed-count ∙ sym b) (λ i l.
      let inside : i < held_count s = omega arith in
      let place : n + i ≡ entry_count s + i = omega arith in
      let datum : claim_at k (n + i) ≡ datum_at s i = ap (claim_at k) place ∙ datum_claim s i inside in
      ap (λ (d : Datum). singles d.terms) datum
      ∙ sym (get_or_map (λ (d : Datum). singles d.terms) (keyed s).held (entry_claim []) 0 i (omega (arith, keyed-count)) ∙ ap (λ (d : Datum). singles d.terms) (keyed_at i inside)))

  -- the keys that are made of the bytes
  pub kept_in : (h : ℕ) (ends : List Span) (masks : List ℕ) → h ≡ held_count s → ends ≡ tab h (claim_span (key_of s) s 0)
      → masks ≡ masks_of (keyed s).held → InArrays (keyed s).held (lefts_of ends) (rights_of ends) masks
  unfolding claim_left claim_right masks_of keyed_state
  kept_in h ends masks b e m =
      record {
        masks_are = m;
        left_is = λ i k.
            let j : i < h = omega (arith, long, b) in
            let same : i - 0 ≡ i = omega arith in
            left-stored h (claim_span (key_of s) s 0) ends e i j ∙ rw (le-ltb i 0 (omega arith), same, keyed_at i (omega arith));
        right_is = λ i k.
            let j : i < h = omega (arith, long, b) in
            let same : i - 0 ≡ i = omega arith in
            right-stored h (claim_span (key_of s) s 0) ends e i j ∙ rw (le-ltb i 0 (omega arith), same, keyed_at i (omega arith));
        bare = keyed-bare.1;
        below = keyed_lasts;
      }
    where
      long : length masks ≡ held_count s
      long = ap length m ∙ length-map (keyed s).held (λ (d : Datum). singles d.terms) ∙ keyed-count

-- ---- the names that decide the entries

module _ (k : Store) (own : ℕ) where
  deciding_in : (u n : ℕ) → ones u ≤ 1 → T (subset u (others own)) → ((i : ℕ) → i < n → T (not (holds 0 (claim_at k i).terms)))
      → ((i : ℕ) → i < n → T (holds u (claim_at k i).terms)) → T (subset u (deciding k own n))
  unfolding deciding
  deciding_in u zero one other bare h = other
  deciding_in u (suc n) one other bare h =
      shared-greatest u (deciding k own n) (singles (claim_at k n).terms)
      (deciding_in u n one other (λ i l. bare i (omega arith)) (λ i l. h i (omega arith)))
      (one_holds u (claim_at k n).terms one (bare n (omega arith)) (h n (omega arith)))

  deciding_out : (u n : ℕ) → T (subset u (deciding k own n)) → T (subset u (others own)) × ((i : ℕ) → i < n → T (subset u (singles (claim_at k i).terms)))
  unfolding deciding
  deciding_out u zero h = (h, λ i l. absurd (omega arith))
  deciding_out u (suc n) h =
      let d = deciding k own n in
      let m = singles (claim_at k n).terms in
      let rest = deciding_out u n (subset_trans u (shared d m) d h (shared-left d m)) in
      (rest.0, λ i l. each rest.1 (subset_trans u (shared d m) m h (shared-right d m)) i l (dec_lt i n))
    where
      each : ((i : ℕ) → i < n → T (subset u (singles (claim_at k i).terms))) → T (subset u (singles (claim_at k n).terms)) → (i : ℕ) → i < suc n → Dec (i < n)
          → T (subset u (singles (claim_at k i).terms))
      each f last i l (yes b) = f i b
      each f last i l (no b) = let e : n ≡ i = omega arith in subst (λ (j : ℕ). T (subset u (singles (claim_at k j).terms))) e last

-- there is another name than the own one
others-some : (own : ℕ) → others own ≡ 0 → ⊥
others-some own e = go (ℕ_discrete own 0)
  where
    named : (n : ℕ) → n < 2 → (n ≡ own → ⊥) → ⊥
    named n l f =
        let inside = others_in own (2 ^ n) (small n l) (not_T (has own (2 ^ n)) (λ h. f (has-single n own h))) in
        omega (arith, subset_le (2 ^ n) (others own) inside, pow_pos n)
      where
        small : (n : ℕ) → n < 2 → 2 ^ n < no_set
        small zero l = omega arith
        small (suc zero) l = omega arith
        small (suc (suc n)) l = absurd (omega arith)

    go : Dec (own ≡ 0) → ⊥
    go (yes z) = named 1 (omega arith) (λ q. omega arith)
    go (no f) = named 0 (omega arith) (λ q. f (sym q))

-- ---- the sets within limit 1

module _ (s : List ℕ) (form : T (in_form s)) (n names : ℕ) (a : n ≡ entry_count s) (b : names ≡ deciding (store_of s) (num own_at 4 s) n) where
  abbrev st : State
  st = keyed_state s

  abbrev ds : List Datum
  ds = (keyed s).held

  abbrev own : ℕ
  own = st.head.own

  pub decided-below : names < no_set
  decided-below =
      let inside : T (subset names (deciding (store_of s) (num own_at 4 s) n)) = rw (sym b) (subset_refl names) in
      others_lt (num own_at 4 s) names (deciding_out (store_of s) (num own_at 4 s) names n inside).0

  entries_are : n ≡ length st.store.entries
  unfolding keyed_state keyed mapped
  entries_are = a ∙ sym (length-entries s)

  decided : names ≡ deciding st.store own n
  unfolding keyed_state head_of
  decided = b ∙ sym (deciding-keyed s form (num own_at 4 s) n (omega (arith, a, length-entries s)))

  bare_entry : (i : ℕ) → i < n → T (not (holds 0 (claim_at st.store i).terms))
  bare_entry i l = entries_at st.store (λ p. not (holds 0 p)) (keyed-bare s form).0 i (omega (arith, entries_are))

  module _ (plain : Bool) (p : plain ≡ eqb n 0) where
    -- those that make every entry true are the names that decide, and the empty set where there are no entries
    one_out : (u : ℕ) → Allowed 1 own u → T (list_all (holds u) st.store.entries) → AtMostOne plain names u
    one_out u w h = go (dec_lt 0 (ones u)) (ℕ_discrete n 0)
      where
        true_entry : (i : ℕ) → i < n → T (holds u (claim_at st.store i).terms)
        true_entry i l = entries_at st.store (holds u) h i (omega (arith, entries_are))

        go : Dec (0 < ones u) → Dec (n ≡ 0) → AtMostOne plain names u
        go (yes l) _ = inr (omega (arith, w.few), rw decided (deciding_in st.store own u n w.few (others_in own u w.names w.others) bare_entry true_entry))
        go (no l) (yes z) = inl (rw p (true_T _ (eq-eqb n 0 z)), ones_none u (omega arith))
        go (no l) (no f) =
            let first : 0 < n = above_zero f in
            absurd (T_not (holds 0 (claim_at st.store 0).terms) (bare_entry 0 first)
            (subst (λ (v : ℕ). T (holds v (claim_at st.store 0).terms)) (ones_none u (omega arith)) (true_entry 0 first)))

    one_in : (u : ℕ) → AtMostOne plain names u → Allowed 1 own u × T (list_all (holds u) st.store.entries)
    one_in u (inl t) =
        let none = eqb→eq n 0 (rw p at t.0) in (
          record { names = omega (arith, t.1); few = omega (arith, ap ones t.1, ones-empty); others = rw t.1 (has-empty own) },
          at_entries st.store (holds u) (λ i l. absurd (omega (arith, entries_are))),
        )
    one_in u (inr o) =
        let w = deciding_out st.store own u n (rw decided at o.1) in (
          record { names = others_lt own u w.0; few = omega (arith, o.0); others = others_out own u w.0 },
          at_entries st.store (holds u) (λ i l. holds_one_lem u (claim_at st.store i).terms o.0 (w.1 i (omega (arith, entries_are)))),
        )

    one-counts : (u : ℕ) → AtMostOne plain names u → (x : ℤ) → InAll u st.store.held x → Counts 1 st x
    one-counts u o x i = let w = one_in u o in (u, w.0, (w.1, i))

    -- ---- the answer from the ends

    module _ (left right : ℕ) (w : Hull ds (AtMostOne plain names) left right) where
      counts-within : (x : ℤ) → Counts 1 st x → Within left right x
      unfolding keyed_state
      counts-within x c = w.within c.0 (one_out c.0 c.1 c.2.0) x c.2.1

      pub one_apart : right < left → Contradicted ≡ answer 1 (state_of s)
      one_apart h = answer-keyed s form 1 (scale_of s) refl Contradicted (answer_is 1 st Contradicted (λ x c. within_none left right x h (counts-within x c)))

      exact-between : left ≤ right → Between left right ≡ exact 1 st
      unfolding keyed_state
      exact-between h =
          let f = w.first h in
          let l = w.last h in
          answer_is 1 st (Between left right) (one-counts f.0 f.1 (pos left) f.2, one-counts l.0 l.1 (pos right) l.2, counts-within)

      module _ (scale : Scale) (k : scale ≡ scale_of s) (h : left ≤ right) where
        pub one-low : (start_of scale ≤ last_whole) × (right + step_of scale ≤ 2 ^ 64)
        one-low = keyed-low s form 1 scale k left right (exact-between h)

        pub one-between : Between (down_by scale left) (up_by scale right) ≡ answer 1 (state_of s)
        one-between = answer-keyed s form 1 scale k (Between left right) (exact-between h)

  -- ---- the answer before the ends

  bare : (d : Datum) → In d ds → T (not (holds 0 d.terms))
  unfolding keyed_state
  bare = (keyed-bare s form).1

  pub one_undecided : names ≡ 0 → Contradicted ≡ answer 1 (state_of s)
  unfolding deciding
  one_undecided z =
      answer-keyed s form 1 (scale_of s) refl Contradicted
      (answer_is 1 st Contradicted (λ x c.
      ⊎_elim (λ t. others-some (num own_at 4 s) (sym (b ∙ ap (deciding (store_of s) (num own_at 4 s)) (eqb→eq n 0 t.0)) ∙ z))
      (λ o. one_none c.0 (rw z at o)) (one_out (eqb n 0) refl c.0 c.1 c.2.0)))

  module _ (masks : List ℕ) (m : masks ≡ masks_of ds) (r : ℕ) (e : r ≡ common_names names masks) where
    common_is : r ≡ common_names names (masks_of ds)
    common_is = e ∙ ap (common_names names) m

    pub one_open : (r ≡ 0 → ⊥) → Open ≡ answer 1 (state_of s)
    unfolding keyed_state
    one_open f =
        let c = least_name r in
        let one = least_name-one r (above_zero f) in
        let w = common_out c names ds (subst (λ (x : ℕ). T (subset c x)) common_is (least_name_in r)) in
        let i = one_in (eqb n 0) refl c (inr (one, w.0)) in
        answer-keyed s form 1 (scale_of s) refl Open
        (sym (answer_open 1 st (c, i.0, everything_in c (keyed s) i.1 (λ d m. holds_one_lem c d.terms one (w.1 d m)))))

    module _ (z : r ≡ 0) where
      pub one-some-held : (names ≡ 0 → ⊥) → 0 < length masks
      one-some-held f = go (dec_lt 0 (length masks))
        where
          go : Dec (0 < length masks) → 0 < length masks
          go (yes l) = l
          go (no l) = absurd (f (sym (common-done masks 0 (omega arith) names) ∙ sym e ∙ z))

      -- each name leaves some predicate false
      pub one_lacking : Lacking ds names
      unfolding active
      one_lacking c o = go (dec_lt 0 (length (active c ds)))
        where
          hold : (0 < length (active c ds) → ⊥) → (d : Datum) → In d ds → T (holds c d.terms) ⊎ T (not (holds c d.terms))
              → T (subset c (singles d.terms))
          hold f d i (inl t) = one_holds c d.terms (omega (arith, o.0)) (bare d i) t
          hold f d i (inr t) =
              let there = in_at (active c ds) d d (keep_in (λ (g : Datum). not (holds c g.terms)) ds d i t) in
              absurd (f (omega (arith, there.1)))

          go : Dec (0 < length (active c ds)) → 0 < length (active c ds)
          go (yes l) = l
          go (no f) =
              let list_all = common_in c names ds o.1 (λ d i. hold f d i (split (holds c d.terms))) in
              absurd (one-some c o.0 (subset-empty c (rw (sym common_is ∙ z) at list_all)))

    -- what the calls leave of the data, and what all names leave then
    pub one_hull : (z : r ≡ 0) (h : ℕ) (ends : List Span) → h ≡ held_count s → ends ≡ tab h (claim_span (key_of s) s 0) → (left right : ℕ)
        → ((es : List Datum) → InArrays es (lefts_of ends) (rights_of ends) masks → Lacking es names → Hull es (AtMostOne (eqb n 0) names) left right)
        → Hull ds (AtMostOne (eqb n 0) names) left right
    one_hull z h ends k p left right f = f ds (kept_in s form h ends masks k p m) (one_lacking z)

  -- ---- the fewest

  least-keyed : (r : ℕ) → LeastLeaving ds names r → FewestOne st r
  unfolding keyed_state
  least-keyed r w =
      record {
        one = λ h.
            let o = w.one h in
            let i = one_in (eqb n 0) refl r (inr o.0) in
            let four : Allowed 4 own r = record { names = i.0.names; few = omega (arith, i.0.few); others = i.0.others } in
            ((four, (o.1.0, (i.1, o.1.1))), o.0.0);
        least = λ u v e.
            let one : Allowed 1 own u = record { names = v.0.names; few = omega (arith, e); others = v.0.others } in
            ⊎_elim (λ t. absurd (one-some u e t.1)) (λ o. w.least u o v.1.0 v.1.1.1) (one_out (eqb n 0) refl u one v.1.1.0);
      }

  pub one-least : (r : ℕ) → LeastLeaving ds names r → FewestOne (state_of s) r
  one-least r w =
      let o = least-keyed r w in
      record { one = λ h. (keyed-works s form r (o.one h).0, (o.one h).1); least = λ u v e. o.least u (works-keyed s form u v) e }

  pub one-never : names ≡ 0 → FewestOne (state_of s) no_set
  one-never z =
      one-least no_set (record { one = λ h. absurd (omega arith); least = λ c o x i. absurd (one_none c (rw z at o)) })
