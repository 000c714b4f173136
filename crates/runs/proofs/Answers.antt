-- The bytes that asking and the fewest failures write are those of the answer, as C reads them, and what an answer tells of the instants.
-- The idea: each number stands in 8 bytes of its own, and fits them. An end of an answer is an instant that counts; it lies in an active datum's
-- interval, whose ends are at most 2^58 - 1, since without an active datum all instants would count and no end would be the last. A set of the fewest
-- failures has names from 0 to 28, at most 4 of them. Assumes nothing.
use Prim.Native.Nat.{ℕ, suc, ◌*◌, ◌^◌, ◌≤◌, ◌<◌}
use mathlib.Core.Path.{◌≡◌, refl, ap, subst, ◌∙◌}
use mathlib.Core.Logic.{◌↔◌, ◌⊎◌, inl, inr}
use mathlib.Core.Bool.{Bool, true, ◌&&◌}
use mathlib.Core.List.{List, [], ◌∷◌}
use native.Mathlib.Nat.{zero-add}
use native.Mathlib.Omega.{arith}
use lib.Dec.{T, ltb, ltb→lt, lt→ltb}
use lib.ListN.{length, get_or, drop}
use lib.IntN.{ℤ, pos, negsuc}
use Rattle.numbers.specs.Numbers.{num, bytes, put}
use Rattle.numbers.proofs.NumberLaws.{length-bytes, put_front, take_put, tab_ext}
use Rattle.std.specs.List.{list_all}
use Rattle.predicates.specs.Lists.{In}
use Rattle.predicates.proofs.ListLaws.{both, all_out}
use Rattle.state.specs.Model.{Datum, State, end_limit}
use Rattle.state.specs.Layout.{joined}
use Rattle.state.specs.Form.{datum_ok, state_ok}
use Rattle.state.proofs.StateLaws.{state_out}
use Rattle.state.proofs.LayoutLaws.{At, at_joined, length-joined, num_at}
use Rattle.predicates.proofs.IndexLaws.{all_get_or}
use Rattle.state.proofs.OkLaws.{ok_datum_out}
use Rattle.asking.specs.declared.Answer.{Answer}
use Rattle.asking.specs.declared.Answer.TheVariants.{Contradicted, Open, Between}
use Rattle.asking.specs.Instants.{Within, InAll, Counts, Gives}
use Rattle.ends.specs.Ends.{down, up}
use Rattle.asking.specs.Asking.{rounded, answer_numbers}
use Rattle.asking.specs.Fewest.{Fewest, Over, Few, Works, FewestOf, fewest_numbers}
use Rattle.asking.proofs.AnswerLaws.{gives_one}
use Rattle.monitor.specs.Ask.{answer_size, fewest_size, wide, wide_in, Shows}
use Rattle.runs.specs.Runs.{AtLeast, AtMost, Least, Greatest, Tells}
use Rattle.asking.proofs.InstantLaws.{Active}
use Rattle.runs.proofs.ReceiptMeaning.{inall_each, active-cases}

-- ---- numbers of 8 bytes

abbrev pub Small : ℕ → Bool
Small x = ltb x (256 ^ 8)

sized : (x : ℕ) → T (Small x) → length (bytes 8 x) ≡ 8
sized x _ = length-bytes 8 x

length-wide : (ns : List ℕ) → T (list_all Small ns) → length (wide ns) ≡ length ns * 8
unfolding wide
length-wide ns t = length-joined (bytes 8) Small 8 sized ns t

-- number i of those in front
wide-num : (ns out : List ℕ) → T (list_all Small ns) → length ns * 8 ≤ length out → (i : ℕ) → i < length ns
    → num (i * 8) 8 (put 0 (wide ns) out) ≡ get_or ns i 0
unfolding wide
wide-num ns out t h i k =
    let vs = joined (bytes 8) ns in
    let front : At 0 vs (put 0 vs out) = (drop (length ns * 8) out, put_front (length ns * 8) vs out (length-wide ns t) h) in
    num_at 8 (i * 8) (get_or ns i 0) (put 0 vs out) (ltb→lt _ (256 ^ 8) (all_get_or Small ns i 0 t k))
    (rw zero-add at (at_joined (bytes 8) Small 8 sized 0 0 i ns (put 0 vs out) t k front))

-- so they are what the output shows
pub shown : (ns out : List ℕ) → T (list_all Small ns) → length ns * 8 ≤ length out → Shows (put 0 (wide ns) out) ns
unfolding wide_in
shown ns out t h =
    record {
      read = tab_ext 0 (length ns) _ ns refl (λ i k. wide-num ns out t h i k);
      front = take_put (length ns * 8) (wide ns) out (length-wide ns t) h;
    }

-- ---- the answer in the output

-- what stands in 8 bytes, with room
abbrev Fits : Answer → Type 0
Fits Contradicted = Unit {0}
Fits Open = Unit {0}
Fits (Between l r) = (l < 2 ^ 58) × (r < 2 ^ 58)

pub answer_shown : (a : Answer) (out : List ℕ) → Fits a → answer_size ≤ length out → Shows (put 0 (wide (answer_numbers a)) out) (answer_numbers a)
unfolding answer_numbers
answer_shown Contradicted out f h = shown (0 ∷ 0 ∷ 0 ∷ []) out tt h
answer_shown Open out f h = shown (1 ∷ 0 ∷ 0 ∷ []) out tt h
answer_shown (Between l r) out f h =
    shown (2 ∷ l ∷ r ∷ []) out
    (both (Small l) (Small r && true) (lt→ltb l (256 ^ 8) (omega arith)) (both (Small r) true (lt→ltb r (256 ^ 8) (omega arith)) tt)) h

-- the rounded ends of an answer over a right state
pub answer-fits : (limit : ℕ) (st : State) → T (state_ok st) → (a : Answer) → Gives (Counts limit st) a → Fits (rounded a)
answer-fits limit st t Contradicted g = tt
answer-fits limit st t Open g = tt
answer-fits limit st t (Between l r) g =
    let low = g.2 (pos l) g.0 in
    let high = last g.1 in
    (omega arith, omega arith)
  where
    last : Counts limit st (pos r) → r < end_limit
    last (s, a, fine) = go (active-cases s st.store.held)
      where
        go : ((d : Datum) × In d st.store.held × Active s d) ⊎ ((x : ℤ) → InAll s st.store.held x) → r < end_limit
        go (inl (d, m, b)) =
            let own = st.head.own in
            let o = ok_datum_out own d (all_out (datum_ok own) st.store.held (state_out st t).held d m) in
            omega (arith, ((inall_each s (pos r) st.store.held).0 fine.1 d m b).1)
        go (inr f) = absurd (omega (arith, (g.2 (pos (suc r)) (s, a, (fine.0, f (pos (suc r))))).1))

-- ---- what the answer tells

within-ends : (l r : ℕ) (x : ℤ) → Within l r x ↔ (AtLeast l x × AtMost r x)
within-ends l r (pos n) = (λ h. h, λ h. h)
within-ends l r (negsuc n) = (λ h. absurd h, λ h. h.0)

ends_give : (P : ℤ → Type 0) (l r : ℕ) → Gives P (Between l r) ↔ (Least P l × Greatest P r)
ends_give P l r = (
  λ g. ((g.0, λ x p. ((within-ends l r x).0 (g.2 x p)).0), (g.1, λ x p. ((within-ends l r x).0 (g.2 x p)).1)),
  λ e. (e.0.0, e.1.0, λ x p. (within-ends l r x).1 (e.0.1 x p, e.1.1 x p)),
)

-- what a rounded answer was before
was_contradicted : (a : Answer) → rounded a ≡ Contradicted → a ≡ Contradicted
was_contradicted Contradicted e = refl
was_contradicted Open e = e
was_contradicted (Between m n) e = let z : ◌≡◌ {A = ℕ} 0 1 = cc in absurd (omega arith)

was_open : (a : Answer) → rounded a ≡ Open → a ≡ Open
was_open Contradicted e = e
was_open Open e = refl
was_open (Between m n) e = let z : ◌≡◌ {A = ℕ} 0 1 = cc in absurd (omega arith)

was_between : (a : Answer) (l r : ℕ) → rounded a ≡ Between l r → (m : ℕ) × (n : ℕ) × (a ≡ Between m n) × (l ≡ down m) × (r ≡ up n)
was_between Contradicted l r e = let z : ◌≡◌ {A = ℕ} 0 1 = cc in absurd (omega arith)
was_between Open l r e = let z : ◌≡◌ {A = ℕ} 0 1 = cc in absurd (omega arith)
was_between (Between m n) l r e = (m, n, refl, cc, cc)

-- one set of instants gives one answer
pub gives_tells : (P : ℤ → Type 0) (a : Answer) → Gives P a → Tells P (rounded a)
gives_tells P a g =
    record {
      contradicted = (λ e. subst (Gives P) (was_contradicted a e) g, λ h. ap rounded (gives_one P a Contradicted g h));
      unbounded = (λ e. subst (Gives P) (was_open a e) g, λ h. ap rounded (gives_one P a Open g h));
      between = λ l r. (
        λ e. let w = was_between a l r e in
            let ends = (ends_give P w.0 w.1).0 (subst (Gives P) w.2 g) in
            (w.0, w.1, ends.0, ends.1, w.3, w.4),
        λ h. ap rounded (gives_one P a (Between h.0 h.1) g ((ends_give P h.0 h.1).1 (h.2, h.3))) ∙ rw (h.4, h.5),
      );
    }

-- ---- the fewest failures

pub fewest_shown : (st : State) (a : Fewest) (out : List ℕ) → FewestOf (Works st) a → fewest_size ≤ length out
    → Shows (put 0 (wide (fewest_numbers a)) out) (fewest_numbers a)
unfolding fewest_numbers
fewest_shown st Over out f h = shown (5 ∷ 0 ∷ []) out tt h
fewest_shown st (Few n m) out f h =
    let a = f.0.0 in
    let few : n ≤ 4 = omega (arith, a.few, f.1) in
    shown (n ∷ m ∷ []) out
    (both (Small n) (Small m && true) (lt→ltb n (256 ^ 8) (omega arith)) (both (Small m) true (lt→ltb m (256 ^ 8) (omega (arith, a.names))) tt)) h

-- the fewest of the same sets
pub fewest-same : {U W : ℕ → Type 0} → ((s : ℕ) → U s ↔ W s) → (a : Fewest) → FewestOf U a → FewestOf W a
fewest-same f Over h = λ s w. h s ((f s).1 w)
fewest-same f (Few n m) h = ((f m).0 h.0, h.1, λ s w. h.2 s ((f s).1 w))
