-- `state::rows::clear` meets its contract: the part that is filled has zeros alone, and where there is none the bytes stay.
use Prim.Native.Nat.{ℕ, ◌+◌, ◌-◌, ◌≤◌}
use mathlib.Core.Path.{◌≡◌, sym}
use mathlib.Core.List.{List, append_assoc}
use native.Mathlib.Omega.{arith}
use borrow.Rule.Slice.PartMut.{put_mid}
use lib.ListN.{length, take, drop, replicate, length-replicate, length-take, length-drop}
use lib.Seq.{sets, sets-eq, drop-drop}
use Rattle.numbers.specs.Numbers.{put}
use Rattle.predicates.proofs.SumLaws.{zeros_end}
use Rattle.state.proofs.rows.clear.Goals as goal

copied : (at k : ℕ) (l ys p : List ℕ) → at + length p ≤ length l → k ≡ length p → ys ≡ p → put_mid at k l ys ≡ sets l at p
copied at k l ys p h m e =
    let same : drop k (drop at l) ≡ drop (at + length p) l = rw m (drop-drop (length p) at l) in
    rw (e, same, ← append_assoc (take at l) p (drop (at + length p) l)) (sym (sets-eq p l at h))

pub returns-then-from-to : goal.returns-then-from-to
unfolding put
returns-then-from-to c =
    let a = c.args in
    let long = length-replicate {A = ℕ} (a.to - a.from) 0 in
    let part : length (take (a.to - a.from) (drop a.from a.s.now)) ≡ a.to - a.from = simp (length-take, length-drop) (omega arith) in
    copied a.from (a.to - a.from) a.s.now _ (replicate (a.to - a.from) 0) (omega (arith, long)) (sym long) (rw part at (c.fill.ensures.after (λ y e. e)))

pub returns-else-from-to : goal.returns-else-from-to
unfolding put
returns-else-from-to c = sym (zeros_end c.args.s.now c.args.from c.args.to c.if-from-to.false)
