-- From what the loops and the search find to the answer. The idea: an end that the arrays' search explains is one that the store's sets explain, and
-- the other way round (`proofs.ArrayLaws`); what the ends then say is `proofs.EndLaws`. No contract cites this file. Assumes nothing.
use Prim.Native.Nat.{ℕ, suc, ◌+◌, ◌-◌, ◌^◌, ◌≤◌, ◌<◌, min, max}
use mathlib.Core.Path.{◌≡◌, refl, sym, ap, ◌∙◌}
use mathlib.Core.Logic.{◌⊎◌, inl, inr, ⊎_elim}
use mathlib.Core.Bool.{not}
use mathlib.Core.List.{List, [], ◌∷◌}
use native.Mathlib.Numerals.{add-one}
use native.Mathlib.Decide.{dec_lt}
use native.Mathlib.Omega.{arith}
use borrow.Author.Tests.{le-leb, lt-leb}
use lib.Dec.{T}
use lib.ListN.{length, get_or, drop, drop_of_length-le}
use lib.Seq.{drop-cons}
use Rattle.numbers.specs.Numbers.{num, tab}
use Rattle.numbers.proofs.NumberLaws.{above_zero, length-tab, get_or-tab}
use Rattle.names.specs.Sets.{no_set}
use Rattle.names.specs.code.Parts.{others}
use Rattle.names.proofs.SetLaws.{subset_refl}
use Rattle.names.proofs.PartLaws.{others_lt}
use Rattle.predicates.specs.Lists.{In}
use Rattle.state.specs.Model.{Datum, Store, State, end_limit, last_whole}
use Rattle.state.specs.Layout.{held_count, entry_count, datum_at, head_of, store_of, state_of, own_at}
use Rattle.state.specs.Form.{in_form}
use Rattle.state.proofs.StateLaws.{length-held, length-entries, form_ok}
use Rattle.asking.specs.declared.Answer.TheVariants.{Contradicted, Open, Between}
use Rattle.asking.specs.Asking.{interval, exact, answer}
use Rattle.asking.specs.code.Plain.{greatest_left, least_right}
use Rattle.asking.specs.code.Claims.{inside, needed_at, everything, Explained}
use Rattle.search.specs.code.Search.{Rows, Fits, Best, preds}
use Rattle.search.specs.declared.rows.Span.{Span}
use Rattle.claims.specs.code.Tables.{entry_claim, claim_at, Loaded, Bounded, claim_span}
use Rattle.search.specs.code.LeftEnds.{outside, lefts_of, rights_of, Ready, needs, FirstEnd, Complete}
use Rattle.claims.specs.declared.keys.Scale.{Scale}
use Rattle.claims.specs.code.Keys.{scale_of, start_of, step_of, down_by, up_by, key_of, last_key, keyed, keyed_state}
use Rattle.claims.proofs.KeyLaws.{mapped_loaded, bounded_in, keys_low}
use Rattle.claims.proofs.ReadyLaws.{ready_in, rows_most_lem}
use Rattle.ends.specs.Ends.{count_of, Split, up}
use Rattle.ends.specs.declared.End.{End}
use Rattle.ends.proofs.EndLaws.{count-whole}
use Rattle.asking.proofs.PlainLaws.{plain-contradicted, plain_open, plain-interval, form-bare, form-right}
use Rattle.asking.proofs.AnswerLaws.{answer-rounded}
use Rattle.asking.proofs.MappedLaws.{answer-keyed, keyed-low, keyed-everything}
use Rattle.asking.proofs.EndLaws.{answer_open, answer-none, answer-between, right_too}
use Rattle.predicates.proofs.IndexLaws.{in_at}
use Rattle.claims.proofs.TableLaws.{claim_datum, left-stored, right-stored, ends-long}
use Rattle.asking.specs.code.Mirror.{mirrored}
use Rattle.asking.proofs.ArrayLaws.{fits_allowed, allowed_fits, order-everything, everything-order, needs_needed, needed_needs, left-outside, right-outside}

-- ---- the held data, one after the other

module _ (s : List ℕ) (i : ℕ) (h : i < held_count s) where
  abbrev held : List Datum
  held = (store_of s).held

  pub held_next : drop i held ≡ datum_at s i ∷ drop (i + 1) held
  unfolding store_of
  held_next =
      rw add-one
      (drop-cons (tab (held_count s) (datum_at s)) i (datum_at s i) (rw length-tab h)
      ∙ ap (λ (d : Datum). d ∷ drop (suc i) (tab (held_count s) (datum_at s))) (get_or-tab (held_count s) i (datum_at s) (datum_at s i) h))

  pub greatest_left-turn : (m l r : ℕ) → l ≡ (datum_at s i).left → r ≡ max m l → greatest_left r (drop (i + 1) held) ≡ greatest_left m (drop i held)
  unfolding greatest_left
  greatest_left-turn m l r e f = sym (ap (greatest_left m) held_next ∙ ap (λ (x : ℕ). greatest_left x (drop (i + 1) held)) (sym (f ∙ ap (max m) e)))

  pub least_right-turn : (m l r : ℕ) → l ≡ (datum_at s i).right → r ≡ min m l → least_right r (drop (i + 1) held) ≡ least_right m (drop i held)
  unfolding least_right
  least_right-turn m l r e f = sym (ap (least_right m) held_next ∙ ap (λ (x : ℕ). least_right x (drop (i + 1) held)) (sym (f ∙ ap (min m) e)))

module _ (s : List ℕ) (i m : ℕ) (h : held_count s ≤ i) where
  pub none_left : drop i (store_of s).held ≡ []
  unfolding store_of
  none_left = drop_of_length-le (tab (held_count s) (datum_at s)) {i = i} (rw length-tab h)

  pub greatest_left-done : greatest_left m (drop i (store_of s).held) ≡ m
  unfolding greatest_left
  greatest_left-done = ap (greatest_left m) none_left

  pub least_right-done : least_right m (drop i (store_of s).held) ≡ m
  unfolding least_right
  least_right-done = ap (least_right m) none_left

-- ---- the search over all claims, and over the ends

module _ (limit : ℕ) (st : State) (n rows : ℕ) (table : Rows) (order : List ℕ) (loaded : Loaded st.store n rows table)
    (complete : Complete rows order) where
  abbrev k : Store
  k = st.store

  abbrev free : ℕ
  free = others st.head.own

  module _ (r : ℕ) (b : Best no_set limit 0 free (preds rows order table) no_set r) where
    pub open_found : r < no_set → Open ≡ exact limit st
    open_found h = sym (answer_open limit st (go b.from))
      where
        go : (r ≡ no_set) ⊎ Fits limit 0 free (preds rows order table) r → Explained limit st (everything k)
        go (inl e) = absurd (omega arith)
        go (inr f) = (r, fits_allowed limit st.head.own r (preds rows order table) f, order-everything k n rows table order loaded complete r f.holding)

    pub open_none : no_set ≤ r → Explained limit st (everything k) → ⊥
    open_none h w =
        let fits = allowed_fits limit st.head.own w.0 (preds rows order table) w.1 (everything-order k n rows table order loaded complete w.0 w.2) in
        ⊎_elim (λ e. absurd (omega (arith, w.1.names))) (λ e. absurd (omega arith)) (b.least w.0 fits)

  -- arrays of ends in which x stands for the instant y
  module _ (lefts rights : List ℕ) (x y : ℕ) (same : (i : ℕ) → i < rows → outside lefts rights x i ≡ not (inside y (claim_at k i))) where
    explained_in : (u : ℕ) → Fits limit 0 free (needs rows lefts rights table order x) u → Explained limit st (needed_at y k)
    explained_in u f = (
      u,
      fits_allowed limit st.head.own u (needs rows lefts rights table order x) f,
      needs_needed k n rows table order loaded complete u lefts rights x y same f.holding,
    )

    explained_out : (w : Explained limit st (needed_at y k)) → Fits limit 0 free (needs rows lefts rights table order x) w.0
    explained_out w =
        allowed_fits limit st.head.own w.0 (needs rows lefts rights table order x) w.1
        (needed_needs k n rows table order loaded complete w.0 lefts rights x y same w.2)

  -- the row of a held datum
  row_of : (d : Datum) → In d k.held → (i : ℕ) × (n ≤ i) × (i < rows) × (claim_at k i ≡ d)
  row_of d m =
      let w = in_at k.held (entry_claim []) d m in
      (length k.entries + w.0, omega (arith, loaded.entries_are), omega (arith, loaded.rows_are, loaded.entries_are, w.1), claim_datum k w.0 ∙ sym w.2)

  module _ (every : Explained limit st (everything k) → ⊥) (lefts rights : List ℕ) (bounded : Bounded k rows lefts rights) where
    left-same : (x y : ℕ) → x ≡ y → (i : ℕ) → i < rows → outside lefts rights x i ≡ not (inside y (claim_at k i))
    left-same x y e i l = left-outside k rows lefts rights bounded x i l ∙ ap (λ (z : ℕ). not (inside z (claim_at k i))) e

    left_is : (d : Datum) (i : ℕ) → i < rows → claim_at k i ≡ d → get_or lefts i 0 ≡ d.left
    left_is d i l e = bounded.left_is i l ∙ ap (λ (c : Datum). c.left) e

    module _ (end set : ℕ) (first : FirstEnd n rows lefts rights table order limit free end set) where
      pub ends-contradicted : no_set ≤ set → Contradicted ≡ exact limit st
      ends-contradicted h =
          sym (answer-none limit st every (λ d m w.
          let r = row_of d m in
          let e = left_is d r.0 r.2 r.3 in
          first.others r.0 r.1 r.2 (inl h) w.0 (explained_out lefts rights (get_or lefts r.0 0) d.left (left-same _ _ e) w)))

      module _ (some : set < no_set) (last : ℕ) (low high : List ℕ) (lows : (i : ℕ) → i < rows → get_or low i 0 ≡ last - get_or rights i 0)
          (highs : (i : ℕ) → i < rows → get_or high i 0 ≡ last - get_or lefts i 0)
          (below : (i : ℕ) → i < rows → (get_or lefts i 0 ≤ last) × (get_or rights i 0 ≤ last))
          (end' set' : ℕ) (first' : FirstEnd n rows low high table order limit free end' set') where
        right-same : (x y : ℕ) → y ≤ last → x ≡ last - y → (i : ℕ) → i < rows → outside low high x i ≡ not (inside y (claim_at k i))
        right-same x y h e i l = right-outside k rows lefts rights bounded last low high lows highs below x y i h e l

        right_is : (d : Datum) (i : ℕ) → i < rows → claim_at k i ≡ d → (get_or low i 0 ≡ last - d.right) × (d.right ≤ last)
        right_is d i l e =
            let r : get_or rights i 0 ≡ d.right = bounded.right_is i l ∙ ap (λ (c : Datum). c.right) e in
            (omega (arith, lows i l), omega (arith, (below i l).1))

        at_left : Explained limit st (needed_at end k)
        at_left =
            let f = first.found some in
            explained_in lefts rights end end (left-same end end refl) set f.4

        -- a right end is explained once a left one is
        pub ends-found : set' < no_set
        ends-found = go (dec_lt set' no_set)
          where
            go : Dec (set' < no_set) → set' < no_set
            go (yes h) = h
            go (no h) =
                let w = right_too limit st every end at_left in
                let r = row_of w.0 w.1 in
                let e = right_is w.0 r.0 r.2 r.3 in
                absurd (first'.others r.0 r.1 r.2 (inl (omega arith)) w.2.0
                (explained_out low high (get_or low r.0 0) w.0.right (right-same _ _ e.1 e.0) w.2))

        place : (i : ℕ) × (i < rows) × (end' ≡ last - get_or rights i 0) × (get_or rights i 0 ≤ last)
        place = let f = first'.found ends-found in (f.0, f.2, f.3 ∙ lows f.0 f.2, (below f.0 f.2).1)

        pub ends-room : end' ≤ last
        ends-room = let p = place in omega (arith, p.2)

        pub ends-between : Between end (last - end') ≡ exact limit st
        ends-between =
            let p = place in
            let y : ℕ = get_or rights p.0 0 in
            let back : last - end' ≡ y = omega (arith, p.2, p.3) in
            rw back (sym (answer-between limit st every end y at_left
            (λ d m l w.
            let r = row_of d m in
            let e = left_is d r.0 r.2 r.3 in
            first.others r.0 r.1 r.2 (inr (omega (arith, e))) w.0 (explained_out lefts rights (get_or lefts r.0 0) d.left (left-same _ _ e) w))
            (explained_in low high end' y (right-same end' y p.3 p.2) set' (first'.found ends-found).4)
            (λ d m l w.
            let r = row_of d m in
            let e = right_is d r.0 r.2 r.3 in
            first'.others r.0 r.1 r.2 (inr (omega (arith, e.0, e.1, p.2, p.3))) w.0
            (explained_out low high (get_or low r.0 0) d.right (right-same _ _ e.1 e.0) w))))

-- ---- the answer at limit 0

module _ (s : List ℕ) (t : T (in_form s)) where
  abbrev st : State
  st = state_of s

  pub plain_known : (n : ℕ) → n ≡ entry_count s → 0 < n → Contradicted ≡ answer 0 st
  unfolding state_of
  plain_known n e h = answer-rounded 0 st Contradicted (sym (plain-contradicted st (form-bare st (form_ok s t)) (rw length-entries (omega arith))))

  module _ (n : ℕ) (a : n ≡ entry_count s) (z : n ≤ 0) where
    pub plain_free : (h : ℕ) → h ≡ held_count s → h ≡ 0 → Open ≡ answer 0 st
    unfolding state_of
    plain_free h b e =
        answer-rounded 0 st Open
        (sym (plain_open st (form-bare st (form_ok s t)) (rw length-entries (omega arith)) (rw length-held (omega arith))))

    module _ (h : ℕ) (b : h ≡ held_count s) (some : h ≡ 0 → ⊥) (l r : End) (c : count_of l ≡ greatest_left 0 (store_of s).held)
        (d : count_of r ≡ least_right end_limit (store_of s).held) where
      ends : exact 0 st ≡ interval (count_of l) (count_of r)
      unfolding state_of
      ends =
          rw (c, d) (plain-interval st (form-bare st (form_ok s t)) (rw length-entries (omega arith)) (rw length-held (rw b at (above_zero some))) (form-right st (form_ok s t)))

      pub plain-apart : count_of r < count_of l → Contradicted ≡ answer 0 st
      plain-apart k = answer-rounded 0 st Contradicted (sym (ends ∙ rw (lt-leb (count_of l) (count_of r) k)))

      pub plain-between : Split l → count_of l ≤ count_of r → (x : ℕ) → x ≡ up (count_of r) → Between l.whole x ≡ answer 0 st
      plain-between p k x e =
          rw (e, sym (count-whole l.whole l.millionths p))
          (answer-rounded 0 st (Between (count_of l) (count_of r)) (sym (ends ∙ rw (le-leb (count_of l) (count_of r) k))))

-- ---- the ends of a state in form, in the arrays that the code fills

abbrev last : ℕ
last = last_key

module _ (s : List ℕ) (t : T (in_form s)) (n rows : ℕ) (table : Rows) (order : List ℕ) (loaded : Loaded (store_of s) n rows table)
    (complete : Complete rows order) where
  entries-count : n ≡ entry_count s
  entries-count = loaded.entries_are ∙ length-entries s

  pub rows-count : rows ≡ n + held_count s
  rows-count = loaded.rows_are ∙ ap (λ (h : ℕ). n + h) (length-held s)

  pub rows_fit : rows ≤ 48
  unfolding state_of
  rows_fit = rows_most_lem (state_of s) (form_ok s t) loaded

  -- the search over all claims
  module _ (limit free r : ℕ) (g : free ≡ others (num own_at 4 s)) (b : Best no_set limit 0 free (preds rows order table) no_set r) where
    pub asked_open : r < no_set → Open ≡ answer limit (state_of s)
    unfolding state_of head_of
    asked_open h = answer-rounded limit (state_of s) Open (open_found limit (state_of s) n rows table order loaded complete r (rw g at b) h)

    pub asked_tied : no_set ≤ r → Explained limit (state_of s) (everything (store_of s)) → ⊥
    unfolding state_of head_of
    asked_tied h = open_none limit (state_of s) n rows table order loaded complete r (rw g at b) h

  -- keys for ends
  keyed_loaded : Loaded (keyed s) n rows table
  unfolding keyed
  keyed_loaded = mapped_loaded (key_of s) (store_of s) loaded

  keyed_tied : (limit : ℕ) → (Explained limit (state_of s) (everything (store_of s)) → ⊥) → Explained limit (keyed_state s) (everything (keyed s)) → ⊥
  unfolding state_of keyed_state
  keyed_tied limit every = rw (keyed-everything s t) every

  module _ (ends : List Span) (e : ends ≡ tab rows (claim_span (key_of s) s n)) where
    abbrev l : List ℕ
    l = lefts_of ends

    abbrev r : List ℕ
    r = rights_of ends

    pub ends_bounded : Bounded (keyed s) rows l r
    ends_bounded = bounded_in s t n rows entries-count rows-count ends e

    pub ends_low : (i : ℕ) → i < rows → (get_or l i 0 ≤ last) × (get_or r i 0 ≤ last)
    ends_low = keys_low s t n rows entries-count rows-count ends e

    pub ends_ready : Ready n rows l r table order
    ends_ready = ready_in keyed_loaded rows_fit l r order ends_bounded complete (λ i h. omega (arith, (ends_low i h).0))

    -- as seen from the last end
    module _ (seen : List Span) (c : seen ≡ tab rows (mirrored ends)) where
      abbrev low : List ℕ
      low = lefts_of seen

      abbrev high : List ℕ
      high = rights_of seen

      low_is : (i : ℕ) → i < rows → get_or low i 0 ≡ last - get_or r i 0
      low_is = left-stored rows (mirrored ends) seen c

      high_is : (i : ℕ) → i < rows → get_or high i 0 ≡ last - get_or l i 0
      high_is = right-stored rows (mirrored ends) seen c

      pub mirror_ready : Ready n rows low high table order
      mirror_ready =
          let w = ends_ready in
          record {
            entries_le = w.entries_le;
            most = w.most;
            lefts-long = omega (arith, (ends-long rows (mirrored ends) seen c).0);
            rights-long = omega (arith, (ends-long rows (mirrored ends) seen c).1);
            below = λ i h. omega (arith, low_is i h);
            empty = λ i h.
                let j : i < rows = omega (arith, w.entries_le) in omega (arith, low_is i j, high_is i j, w.empty i h, ends_low i j);
            ordered = w.ordered;
            placed = w.placed;
            present = w.present;
            parted = w.parted;
          }

      module _ (limit free : ℕ) (g : free ≡ others (num own_at 4 s)) (every : Explained limit (state_of s) (everything (store_of s)) → ⊥)
          (end set end' set' : ℕ) (first : FirstEnd n rows l r table order limit free end set) (some : set < no_set)
          (first' : FirstEnd n rows low high table order limit free end' set') where
        pub mirror_found : set' < no_set
        unfolding keyed_state head_of
        mirror_found =
            ends-found limit (keyed_state s) n rows table order keyed_loaded complete (keyed_tied limit every) l r ends_bounded end set (rw g at first) some
            last low high low_is high_is ends_low end' set' (rw g at first')

        pub between-room : end' ≤ last
        unfolding keyed_state head_of
        between-room =
            ends-room limit (keyed_state s) n rows table order keyed_loaded complete (keyed_tied limit every) l r ends_bounded end set (rw g at first) some
            last low high low_is high_is ends_low end' set' (rw g at first')

        exact-between : Between end (last - end') ≡ exact limit (keyed_state s)
        unfolding keyed_state head_of
        exact-between =
            ends-between limit (keyed_state s) n rows table order keyed_loaded complete (keyed_tied limit every) l r ends_bounded end set (rw g at first) some
            last low high low_is high_is ends_low end' set' (rw g at first')

        module _ (scale : Scale) (k : scale ≡ scale_of s) where
          pub between-low : (start_of scale ≤ last_whole) × (last - end' + step_of scale ≤ 2 ^ 64)
          between-low = keyed-low s t limit scale k end (last - end') exact-between

          pub between_is : Between (down_by scale end) (up_by scale (last - end')) ≡ answer limit (state_of s)
          between_is = answer-keyed s t limit scale k (Between end (last - end')) exact-between

    pub between_none : (limit free : ℕ) → free ≡ others (num own_at 4 s) → (Explained limit (state_of s) (everything (store_of s)) → ⊥) → (end set : ℕ)
        → FirstEnd n rows l r table order limit free end set → no_set ≤ set → Contradicted ≡ answer limit (state_of s)
    unfolding keyed_state head_of
    between_none limit free g every end set first h =
        answer-keyed s t limit (scale_of s) refl Contradicted
        (ends-contradicted limit (keyed_state s) n rows table order keyed_loaded complete (keyed_tied limit every) l r ends_bounded end set (rw g at first) h)

-- no other name is beyond 28
pub free_lt : (own free : ℕ) → free ≡ others own → free < no_set
free_lt own free e = rw e (others_lt own (others own) (subset_refl (others own)))
