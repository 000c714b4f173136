-- What a taken reading tells of its words, and the way back: `Taken` holds the facts, `from_out` and `from_in`
-- join them to `read_from`, `read_out` and `read_in` to `read_plain`. `Shaped` holds those that come before the check word.
-- The idea: each refusal that did not come is a fact. Kinds fix the top bits of every word, so a taken message needs no further bound on
-- its words, and the words of kind 6 are those between the interval and the last. No contract cites this file. Assumes nothing.
use Rattle.std.proofs.Common.{◌≡◌, ℕ, zero, suc, ◌+◌, ◌-◌, ◌*◌, ◌/◌, ◌<◌, ◌≤◌, Bool, true, false, cond, not, ◌||◌, T, eqb, ltb, leb, List, [], ◌∷◌, ◌++◌, length, get_or, take, drop, sym, refl, ap, ◌∙◌, subst, append-nil, arith, eqb→eq, ltb→lt, leb→le, take-append-drop, get_or-drop, get_or-take, le-ltb, eq-eqb, ne_eqb, le-leb}
use lib.Dec.{eqb-suc-zero}
use lib.Seq.{slice, slice_empty, length-slice}
use mathlib.Core.Logic.{◌⊎◌, inl, inr}
use lib.Dec.{nltb→le}
use lib.ListN.{get_or-eq_default}
use Rattle.std.specs.Prelude.{Result, Ok, Err, IfOk}
use Rattle.refusals.specs.Refusals.{number_of}
use Rattle.std.specs.List.{list_all, filter}
use Rattle.refusals.specs.declared.Refusal.{Refusal}
use Rattle.refusals.specs.declared.Refusal.TheVariants.{Form}
use Rattle.predicates.specs.Predicates.{is_normal}
use Rattle.predicates.proofs.ListLaws.{both_l, both_r, T_true, true_T, cond_ind, split}
use Rattle.message.specs.Words.{ends_limit, terms_most, plain_words_least, plain_words_most, kind_of, payload, word, of_kind, masks}
use Rattle.message.specs.Read.{opens, sender_of, term_count, head_word_fits, is_ends, width, start, span_kinds, middle, kinds_fit, check_fits, pair}
use Rattle.message.specs.Read.{span, with_span, shape_refusal, contents, refused_or, read_from, read_plain, term_words}
use Rattle.message.specs.Read.{Interval}
use Rattle.message.specs.Read.{Span, Bad}
use Rattle.message.specs.Read.{Reading}
use Rattle.message.specs.Read.{Message, Refused}
use Rattle.message.specs.code.Told.{form_of, reading_of}
use Rattle.message.specs.declared.Message.{Message as Parts}

-- the facts of a message that is taken, whose interval begins at place `at`
pub record Taken (at : ℕ) (ends : Bool) (ws : List ℕ) (s l r n : ℕ) : Type 0 where
  pub form : is_ends at ws ≡ ends
  pub size : length ws ≡ start at ends + n + 1
  pub head : get_or ws 0 0 ≡ word 1 (s + 32 * n)
  pub sender : s ≡ sender_of (get_or ws 0 0)
  pub count : n ≡ term_count (get_or ws 0 0)
  pub sender_le : s ≤ 28
  pub count_le : n ≤ terms_most
  pub kinds : T (kinds_fit at ends ws)
  pub sum : T (check_fits ws)
  pub interval : span at ends ws ≡ Span l r
  pub left_le : l ≤ r
  pub right_lt : r < ends_limit
  pub normal : T (is_normal (masks (middle at ends ws)))

-- ---- the head

head_out : (h : ℕ) → T (head_word_fits h) → (h ≡ word 1 (sender_of h + 32 * term_count h)) × (sender_of h ≤ 28) × (term_count h ≤ terms_most)
unfolding head_word_fits
head_out h t =
    let a : T (eqb (kind_of h) 1) = search both_l depth 9 in
    let b : T (leb (sender_of h) 28) = search (both_l, both_r) depth 9 in
    let c : T (leb (term_count h) terms_most) = search (both_l, both_r) depth 9 in
    let d : T (eqb (payload h / 1024) 0) = search (both_l, both_r) depth 9 in
    omega (arith, eqb→eq, leb→le)

head_in : (h s n : ℕ) → h ≡ word 1 (s + 32 * n) → s ≤ 28 → n ≤ terms_most → head_word_fits h ≡ true
unfolding head_word_fits
head_in h s n e a b =
    rw (eq-eqb (kind_of h) 1 (omega arith), le-leb (sender_of h) 28 (omega arith), le-leb (term_count h) terms_most (omega arith), eq-eqb (payload h / 1024) 0 (omega arith))

-- ---- the kinds

-- each word of a part that is of one kind
pub kind_at : (k a b i : ℕ) (ws : List ℕ) → T (of_kind k (slice a b ws)) → a ≤ i → i < b → b ≤ length ws → kind_of (get_or ws i 0) ≡ k
unfolding of_kind
kind_at k a b i ws t p q h =
    let e : get_or (slice a b ws) (i - a) 0 ≡ get_or ws i 0 =
    get_or-drop a (take b ws) (i - a) 0 ∙ rw (get_or-take b ws (a + (i - a)) 0 (omega arith)) (ap (λ (j : ℕ). get_or ws j 0) (omega arith)) in
    ap (λ (w : ℕ). kind_of w) (sym e) ∙ at (slice a b ws) (i - a) t (omega (arith, length-slice a b ws h))
  where
    at : (l : List ℕ) (j : ℕ) → T (list_all (λ w. eqb (kind_of w) k) l) → j < length l → kind_of (get_or l j 0) ≡ k
    at [] j t h = absurd (omega arith)
    at (w ∷ l) zero t h = eqb→eq (kind_of w) k (both_l (eqb (kind_of w) k) (list_all (λ w. eqb (kind_of w) k) l) t)
    at (w ∷ l) (suc j) t h = at l j (both_r (eqb (kind_of w) k) (list_all (λ w. eqb (kind_of w) k) l) t) (omega arith)

pub start_bounds : (at : ℕ) (ends : Bool) → (at + 3 ≤ start at ends) × (start at ends ≤ at + 4)
unfolding width
start_bounds at true = omega arith
start_bounds at false = omega arith

-- ---- the interval

-- the ends of an interval that is good
abbrev Fits : Interval → Type 0
Fits Bad = Unit
Fits (Span left right) = (left ≤ right) × (right < ends_limit)

span_fits : (at : ℕ) (ends : Bool) (ws : List ℕ) → Fits (span at ends ws)
unfolding span pair
span_fits at true ws = cond_ind Fits (leb (pair ws at) (pair ws (at + 2))) _ Bad (λ t. omega (arith, leb→le)) (λ t. tt)
span_fits at false ws =
    let half = payload (get_or ws (at + 2) 0) in
    cond_ind Fits (leb half (pair ws at)) _ Bad
    (λ t. cond_ind Fits (ltb (pair ws at + half) ends_limit) _ Bad (λ u. omega (arith, leb→le, ltb→lt)) (λ u. tt)) (λ t. tt)

-- ---- the shape

-- the facts of a message that none of 12, 11, 13 and 14 refuses
pub record Shaped (at : ℕ) (ws : List ℕ) : Type 0 where
  pub head : T (head_word_fits (get_or ws 0 0))
  pub form : T (opens at ws)
  pub size : length ws ≡ start at (is_ends at ws) + term_count (get_or ws 0 0) + 1
  pub kinds : T (kinds_fit at (is_ends at ws) ws)

-- a test that would refuse has failed
fitted : (b : Bool) (k n : ℕ) → 0 < k → cond (not b) k n ≡ 0 → T b × (n ≡ 0)
fitted true k n h e = (tt, e)
fitted false k n h e = absurd (omega arith)

pub shape_out : (at : ℕ) (ws : List ℕ) → shape_refusal at ws ≡ 0 → Shaped at ws
unfolding shape_refusal
shape_out at ws e =
    let w = get_or ws 0 0 in
    let ends = is_ends at ws in
    let a = fitted (head_word_fits w) 12 _ (omega arith) e in
    let b = fitted (opens at ws) 11 _ (omega arith) a.1 in
    let c = fitted (eqb (length ws) (start at ends + term_count w + 1)) 13 _ (omega arith) b.1 in
    let d = fitted (kinds_fit at ends ws) 14 0 (omega arith) c.1 in
    record { head = a.0; form = b.0; size = eqb→eq (length ws) (start at ends + term_count w + 1) c.0; kinds = d.0 }

pub shaped_count : {at : ℕ} {ws : List ℕ} → Shaped at ws → length (middle at (is_ends at ws) ws) ≡ term_count (get_or ws 0 0)
unfolding middle
shaped_count {at} {ws} t = length-slice (start at (is_ends at ws)) (length ws - 1) ws (omega arith) ∙ omega (arith, t)

pub shape_in : {at : ℕ} {ws : List ℕ} → Shaped at ws → shape_refusal at ws ≡ 0
unfolding shape_refusal
shape_in {at} {ws} t =
    rw (
      T_true (head_word_fits (get_or ws 0 0)) t.head,
      T_true (opens at ws) t.form,
      eq-eqb (length ws) (start at (is_ends at ws) + term_count (get_or ws 0 0) + 1) t.size,
      T_true (kinds_fit at (is_ends at ws) ws) t.kinds,
    )

-- what the code is told of the form
pub record Opened (at : ℕ) (ends : Bool) (ws : List ℕ) : Type 0 where
  pub opened : opens at ws ≡ true
  pub told : ends ≡ is_ends at ws
  pub in_words : at < length ws

pub form_out : (at : ℕ) (ends : Bool) (ws : List ℕ) → form_of at ws ≡ Ok ends → Opened at ends ws
unfolding opens is_ends
form_out at ends ws e = by (opens at ws) refl e
  where
    -- behind the last word a word of kind 0 is read, which opens no form
    in_words : opens at ws ≡ true → at < length ws
    in_words o = some (split (ltb at (length ws)))
      where
        some : T (ltb at (length ws)) ⊎ T (not (ltb at (length ws))) → at < length ws
        some (inl t) = ltb→lt at (length ws) t
        some (inr t) =
            let none : get_or ws at 0 ≡ 0 = get_or-eq_default ws 0 (nltb→le at (length ws) t) in
            absurd (let z : false ≡ true = rw none at o in cc)

    by : (b : Bool) → opens at ws ≡ b → cond b (Ok (is_ends at ws)) (Err Form) ≡ Ok ends → Opened at ends ws
    by true o e = record { opened = o; told = cc; in_words = in_words o }
    by false o e = cc

pub form_none : (at : ℕ) (ws : List ℕ) (refusal : Refusal) → form_of at ws ≡ Err refusal → (opens at ws ≡ false) × (refusal ≡ Form)
form_none at ws refusal e = by (opens at ws) refl e
  where
    by : (b : Bool) → opens at ws ≡ b → cond b (Ok (is_ends at ws)) (Err Form) ≡ Err refusal → (opens at ws ≡ false) × (refusal ≡ Form)
    by true o e = cc
    by false o e = (o, cc)

-- ---- from the reading to its facts

module _ {s l r n : ℕ} where
  -- a test that would refuse has failed
  pub past : (b : Bool) (k : ℕ) (x : Reading) → cond b (Refused k) x ≡ Message s l r n → x ≡ Message s l r n
  past true k x e = cc
  past false k x e = e

  pub passed : (b : Bool) (k : ℕ) (x : Reading) → cond (not b) (Refused k) x ≡ Message s l r n → T b × (x ≡ Message s l r n)
  passed true k x e = (tt, e)
  passed false k x e = let z : ◌≡◌ {A = ℕ} 0 1 = cc in absurd (omega arith)

  -- a number that would refuse is 0
  pub passed_or : (k : ℕ) (x : Reading) → refused_or k x ≡ Message s l r n → (k ≡ 0) × (x ≡ Message s l r n)
  passed_or k x e = by (eqb k 0) (λ t. eqb→eq k 0 t) e
    where
      by : (b : Bool) → (T b → k ≡ 0) → cond b x (Refused k) ≡ Message s l r n → (k ≡ 0) × (x ≡ Message s l r n)
      by true f e = (f tt, e)
      by false f e = let z : ◌≡◌ {A = ℕ} 0 1 = cc in absurd (omega arith)

  with_span_out : (s' n' : ℕ) (ok : Bool) (i : Interval) → with_span s' n' ok i ≡ Message s l r n → (i ≡ Span l r) × T ok × (s ≡ s') × (n ≡ n')
  unfolding with_span
  with_span_out s' n' ok Bad e = let z : ◌≡◌ {A = ℕ} 0 1 = cc in absurd (omega arith)
  with_span_out s' n' true (Span a b) e = ((cc), tt, (cc), (cc))
  with_span_out s' n' false (Span a b) e = let z : ◌≡◌ {A = ℕ} 0 1 = cc in absurd (omega arith)

  -- a message of right shape whose contents are taken
  pub taken_out : (at : ℕ) (ws : List ℕ) → Shaped at ws → contents at ws ≡ Message s l r n → Taken at (is_ends at ws) ws s l r n
  unfolding contents
  taken_out at ws shaped e =
      let w = get_or ws 0 0 in
      let ends = is_ends at ws in
      let d = passed (check_fits ws) 15 _ e in
      let known = with_span_out (sender_of w) (term_count w) (is_normal (masks (middle at ends ws))) (span at ends ws) d.1 in
      let top = head_out w shaped.head in
      let good : Fits (Span l r) = subst Fits known.0 (span_fits at ends ws) in
      record {
        form = refl;
        size = omega arith;
        head = omega arith;
        sender = known.2;
        count = known.3;
        sender_le = omega arith;
        count_le = omega arith;
        kinds = shaped.kinds;
        sum = d.0;
        interval = known.0;
        left_le = good.0;
        right_lt = good.1;
        normal = known.1;
      }

  pub from_out : (at : ℕ) (ws : List ℕ) → read_from at ws ≡ Message s l r n → Taken at (is_ends at ws) ws s l r n
  unfolding read_from
  from_out at ws e =
      let both = passed_or (shape_refusal at ws) (contents at ws) e in
      taken_out at ws (shape_out at ws both.0) both.1

  pub read_out : (ws : List ℕ) → read_plain ws ≡ Message s l r n → Taken 1 (is_ends 1 ws) ws s l r n
  unfolding read_plain
  read_out ws e = from_out 1 ws (past (ltb (length ws) plain_words_least || ltb plain_words_most (length ws)) 10 _ e)

-- ---- from the facts to the reading

opens_in : (at : ℕ) (ends : Bool) (ws : List ℕ) → is_ends at ws ≡ ends → T (kinds_fit at ends ws) → at + 2 ≤ length ws → opens at ws ≡ true
unfolding opens kinds_fit span_kinds
opens_in at true ws e t h = rw e
opens_in at false ws e t h =
    let centre : T (of_kind 4 (slice at (at + 2) ws)) = search (both_l, both_r) depth 9 in
    rw (e, eq-eqb (kind_of (get_or ws at 0)) 4 (kind_at 4 at (at + 2) at ws centre (omega arith) (omega arith) h))

module _ {ends : Bool} {ws : List ℕ} {s l r n : ℕ} where
  -- such a message is of right shape, and its contents are taken
  pub taken_shaped : {at : ℕ} → Taken at ends ws s l r n → shape_refusal at ws ≡ 0
  taken_shaped {at} t =
      let known = start_bounds at ends in
      shape_in
      (record {
        head = true_T _ (head_in _ s n t.head t.sender_le t.count_le);
        form = true_T _ (opens_in at ends ws t.form t.kinds (omega arith));
        size = rw t.form (omega arith);
        kinds = rw t.form t.kinds;
      })

  pub contents_in : {at : ℕ} → Taken at ends ws s l r n → contents at ws ≡ Message s l r n
  unfolding contents with_span
  contents_in {at} t =
      rw (
        T_true (check_fits ws) t.sum,
        t.form,
        t.interval,
        T_true (is_normal (masks (middle at ends ws))) t.normal,
        ← t.sender,
        ← t.count,
      )

  pub from_in : {at : ℕ} → Taken at ends ws s l r n → read_from at ws ≡ Message s l r n
  unfolding read_from
  from_in t = rw (taken_shaped t) (contents_in t)

  pub read_in : Taken 1 ends ws s l r n → read_plain ws ≡ Message s l r n
  unfolding read_plain
  read_in t =
      let known = start_bounds 1 ends in
      rw (le-ltb (length ws) plain_words_least (omega arith), le-ltb plain_words_most (length ws) (omega arith)) (from_in t)

-- ---- the words of one kind

-- a list behind index a, cut at index b
pub drop-cut : (a b : ℕ) (l : List ℕ) → a ≤ b → drop a l ≡ slice a b l ++ drop b l
drop-cut zero b l h = sym (take-append-drop b l)
drop-cut (suc a) zero l h = absurd (omega arith)
drop-cut (suc a) (suc b) [] h = refl
drop-cut (suc a) (suc b) (x ∷ l) h = drop-cut a b l (omega arith)

-- the words of kind k
abbrev pub kept : ℕ → List ℕ → List ℕ
kept k ws = filter (λ w. eqb (kind_of w) k) ws

module _ (k : ℕ) where
  pub kept_same : (l m : List ℕ) → T (of_kind k l) → kept k (l ++ m) ≡ l ++ kept k m
  unfolding of_kind
  kept_same [] m t = refl
  kept_same (w ∷ l) m t =
      rw (T_true (eqb (kind_of w) k) (both_l (eqb (kind_of w) k) _ t), kept_same l m (both_r (eqb (kind_of w) k) _ t))

  pub kept_other : (j : ℕ) (l m : List ℕ) → eqb j k ≡ false → T (of_kind j l) → kept k (l ++ m) ≡ kept k m
  unfolding of_kind
  kept_other j [] m ne t = refl
  kept_other j (w ∷ l) m ne t =
      rw (eqb→eq (kind_of w) j (both_l (eqb (kind_of w) j) _ t), ne) (kept_other j l m ne (both_r (eqb (kind_of w) j) _ t))

  pub kept-none : (j : ℕ) (l : List ℕ) → eqb j k ≡ false → T (of_kind j l) → kept k l ≡ []
  kept-none j l ne t = ap (λ (m : List ℕ). kept k m) (sym (append-nil l)) ∙ kept_other j l [] ne t

  -- a part of another kind is passed over
  pub kept_past : (j a b : ℕ) (ws : List ℕ) → eqb j k ≡ false → a ≤ b → T (of_kind j (slice a b ws)) → kept k (drop a ws) ≡ kept k (drop b ws)
  kept_past j a b ws ne h t = rw (drop-cut a b ws h) (kept_other j (slice a b ws) (drop b ws) ne t)

  pub kept-head : (ws : List ℕ) → eqb 1 k ≡ false → kind_of (get_or ws 0 0) ≡ 1 → kept k ws ≡ kept k (drop 1 ws)
  kept-head [] ne e = refl
  kept-head (w ∷ ws) ne e = rw (e, ne)

  -- the interval is passed over where its kinds are others
  pub kept-span : (at : ℕ) (ends : Bool) (ws : List ℕ) → ((j : ℕ) → 1 < j → j < 6 → eqb j k ≡ false) → T (span_kinds at ends ws)
      → kept k (drop at ws) ≡ kept k (drop (start at ends) ws)
  unfolding span_kinds width
  kept-span at true ws ne t =
      kept_past 2 at (at + 2) ws (ne 2 (omega arith) (omega arith)) (omega arith) (search both_l)
      ∙ kept_past 3 (at + 2) (at + 4) ws (ne 3 (omega arith) (omega arith)) (omega arith) (search (both_l, both_r))
  kept-span at false ws ne t =
      kept_past 4 at (at + 2) ws (ne 4 (omega arith) (omega arith)) (omega arith) (search both_l)
      ∙ kept_past 5 (at + 2) (at + 3) ws (ne 5 (omega arith) (omega arith)) (omega arith) (search (both_l, both_r))

-- ---- the term words

-- none of the words is of kind 6
abbrev pub NoTerms : List ℕ → Type 0
NoTerms ws = kept 6 ws ≡ []

none_past : (b : Bool) (w : ℕ) (l m : List ℕ) → (NoTerms l → kept 6 (l ++ m) ≡ kept 6 m) → cond b (w ∷ kept 6 l) (kept 6 l) ≡ []
    → cond b (w ∷ kept 6 (l ++ m)) (kept 6 (l ++ m)) ≡ kept 6 m
none_past true w l m f e = let z : ◌≡◌ {A = ℕ} 0 1 = cc in absurd (omega arith)
none_past false w l m f e = f e

no_terms_past : (l m : List ℕ) → NoTerms l → kept 6 (l ++ m) ≡ kept 6 m
no_terms_past [] m e = refl
no_terms_past (w ∷ l) m e = none_past (eqb (kind_of w) 6) w l m (λ f. no_terms_past l m f) e

module _ {at : ℕ} {ends : Bool} {ws : List ℕ} {s l r n : ℕ} (t : Taken at ends ws s l r n) where
  -- the term words are those between the interval and the last word, where none stands between head and interval
  pub terms-middle-from : 0 < at → NoTerms (slice 1 at ws) → term_words (Message s l r n) ws ≡ middle at ends ws
  unfolding term_words middle kinds_fit
  terms-middle-from p none =
      let kinds = t.kinds in
      let between : T (of_kind 6 (middle at ends ws)) = search (both_l, both_r) depth 9 in
      let last = kept-none 6 7 (drop (length ws - 1) ws) refl (search (both_l, both_r) depth 9) in
      let near : kept 6 (drop 1 ws) ≡ kept 6 (drop at ws) = rw (drop-cut 1 at ws p) (no_terms_past (slice 1 at ws) (drop at ws) none) in
      kept-head 6 ws refl (omega arith) ∙ near ∙ kept-span 6 at ends ws (λ j a b. ne_eqb j 6 (λ e. omega arith)) (search both_l depth 9)
      ∙ rw (drop-cut (start at ends) (length ws - 1) ws (omega arith), kept_same 6 (middle at ends ws) _ between, last, append-nil)

  pub length-middle : length (middle at ends ws) ≡ n
  unfolding middle
  length-middle = length-slice (start at ends) (length ws - 1) ws (omega arith) ∙ omega arith

-- where the interval stands right behind the head
pub terms-middle : {ends : Bool} {ws : List ℕ} {s l r n : ℕ} → Taken 1 ends ws s l r n → term_words (Message s l r n) ws ≡ middle 1 ends ws
terms-middle {ends} {ws} t = terms-middle-from t (omega arith) (ap (λ (l : List ℕ). kept 6 l) (slice_empty 1 ws))

-- what the code hands back of a message: its term words, and no epoch words
pub parts_read : (ws : List ℕ) (got : Result Parts Refusal) → reading_of got ≡ read_plain ws
    → IfOk got (λ m. (m.terms.now ≡ middle 1 (is_ends 1 ws) ws) × (m.names.now ≡ []))
    → IfOk got (λ m. (m.terms.now ≡ term_words (read_plain ws) ws) × (m.names.now ≡ []))
parts_read ws (Ok m) e h = (h.0 ∙ rw (← e) (sym (terms-middle (read_out ws (sym e)))), h.1)
parts_read ws (Err refusal) e h = tt

-- ---- a refusal has a number above 0

pub number_above : (refusal : Refusal) → 0 < number_of refusal
number_above refusal = grind arith

unfoldable pub Above : Reading → Type 0
Above (Refused number) = 0 < number
Above (Message sender left right count) = Unit {0}

above-span : (sender count : ℕ) (normal : Bool) (i : Interval) → Above (with_span sender count normal i)
unfolding with_span Above
above-span sender count normal Bad = omega arith
above-span sender count true (Span left right) = tt
above-span sender count false (Span left right) = omega arith

pub above-cond : (b : Bool) (number : ℕ) (r : Reading) → 0 < number → Above r → Above (cond b (Refused number) r)
unfolding Above
above-cond true number r h a = h
above-cond false number r h a = a

pub above_or : (number : ℕ) (r : Reading) → Above r → Above (refused_or number r)
unfolding Above
above_or zero r a = a
above_or (suc k) r a = rw (eqb-suc-zero k) (omega arith)

pub above-contents : (at : ℕ) (ws : List ℕ) → Above (contents at ws)
unfolding contents
above-contents at ws =
    let head = get_or ws 0 0 in
    let ends = is_ends at ws in
    above-cond (not (check_fits ws)) 15 _ (omega arith)
    (above-span (sender_of head) (term_count head) (is_normal (masks (middle at ends ws))) (span at ends ws))

above : (ws : List ℕ) → Above (read_plain ws)
unfolding read_plain read_from
above ws =
    above-cond (ltb (length ws) plain_words_least || ltb plain_words_most (length ws)) 10 _ (omega arith)
    (above_or (shape_refusal 1 ws) _ (above-contents 1 ws))

pub refused-above : (ws : List ℕ) (number : ℕ) → read_plain ws ≡ Refused number → 0 < number
unfolding Above
refused-above ws number e = subst (λ (r : Reading). Above r) e (above ws)
