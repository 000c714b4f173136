-- What the first tests of a call on a lent state tell: refused, the call's number is theirs; passed, the state has its size and is in form, and what
-- comes next decides. No contract cites this file. Assumes nothing.
use Prim.Native.Nat.{ℕ, ◌≤◌, ◌<◌}
use mathlib.Core.Path.{◌≡◌, refl, sym, ◌∙◌}
use mathlib.Core.Bool.{Bool, true, false, not, cond}
use mathlib.Core.List.{List}
use native.Mathlib.Omega.{arith}
use borrow.Author.Tests.{le-ltb, ltb-false, ne_eqb}
use lib.Dec.{T, ltb, eqb}
use lib.ListN.{length}
use Rattle.numbers.specs.Numbers.{put}
use Rattle.numbers.proofs.NumberLaws.{length-put}
use Rattle.state.specs.Layout.{state_size}
use Rattle.state.specs.Form.{in_form}
use Rattle.state.specs.Refusal.{refuse, lent, after}

-- a refusal that did not come: its test fails, and what comes next has let pass too
pub refuse-none : (test : Bool) (number next : ℕ) → 0 < number → refuse test number next ≡ 0 → T (not test) × (next ≡ 0)
refuse-none true number next h e = absurd (omega arith)
refuse-none false number next h e = (tt, e)

module _ (s : List ℕ) where
  pub lent_passed : (next : ℕ) → lent s next ≡ 0 → (state_size ≤ length s) × T (in_form s) × (next ≡ 0)
  unfolding lent
  lent_passed next e =
      let long = refuse-none (ltb (length s) state_size) 24 _ (omega arith) e in
      let form = refuse-none (not (in_form s)) 25 next (omega arith) long.1 in
      (short (ltb (length s) state_size) refl long.0, twice (in_form s) form.0, form.1)
    where
      short : (b : Bool) → ltb (length s) state_size ≡ b → T (not b) → state_size ≤ length s
      short true p t = absurd t
      short false p t = ltb-false (length s) state_size p

      twice : (b : Bool) → T (not (not b)) → T b
      twice true t = tt
      twice false t = absurd t

  pub lent_next : (next : ℕ) → state_size ≤ length s → T (in_form s) → lent s next ≡ next
  unfolding lent
  lent_next next h t = rw (le-ltb (length s) state_size h) (go (in_form s) t)
    where
      go : (b : Bool) → T b → ◌≡◌ {A = ℕ} (cond (not b) 25 next) next
      go true t = refl
      go false t = elim t [ ]

  pub lent-refused : (r next : ℕ) → r ≡ lent s 0 → (r ≡ 0 → ⊥) → r ≡ lent s next
  unfolding lent
  lent-refused r next e f = e ∙ go (ltb (length s) state_size) (in_form s) (λ z. f (e ∙ z))
    where
      go : (a b : Bool) → (◌≡◌ {A = ℕ} (cond a 24 (cond (not b) 25 0)) 0 → ⊥) → ◌≡◌ {A = ℕ} (cond a 24 (cond (not b) 25 0)) (cond a 24 (cond (not b) 25 next))
      go true b f = refl
      go false true f = absurd (f refl)
      go false false f = refl

-- a refused call leaves the bytes
pub after-refused : (number : ℕ) (bytes s : List ℕ) → (number ≡ 0 → ⊥) → s ≡ after number bytes s
unfolding after
after-refused number bytes s f = rw (ne_eqb number 0 f)

pub length-after : (number : ℕ) (bytes s : List ℕ) → length (after number bytes s) ≡ length s
unfolding after
length-after number bytes s = go (eqb number 0)
  where
    go : (b : Bool) → length (cond b (put 0 bytes s) s) ≡ length s
    go true = length-put 0 bytes s
    go false = refl

-- what a call answers that its first tests refuse, and what it leaves of a lent buffer
pub lent_stays : (s out bytes : List ℕ) (r next : ℕ) → r ≡ lent s 0 → (r ≡ 0 → ⊥) → (r ≡ lent s next) × (out ≡ after (lent s next) bytes out)
lent_stays s out bytes r next e f =
    let same = lent-refused s r next e f in
    (same, rw (← same) (after-refused r bytes out f))

-- what they tell of a lent state that passes them
pub lent-taken : (s : List ℕ) (r : ℕ) → r ≡ lent s 0 → r ≡ 0 → (state_size ≤ length s) × T (in_form s)
lent-taken s r e z = let p = lent_passed s 0 (sym e ∙ z) in (p.0, p.1)
