-- `numbers::put_num` meets its contract: each turn stores the least byte of what is left of x (`bytes_next`). Assumes nothing.
use Prim.Native.Nat.{ℕ, ◌-◌, ◌<◌}
use mathlib.Core.Path.{◌≡◌, sym, ◌∙◌}
use mathlib.Core.List.{append-nil}
use native.Mathlib.Omega.{arith}
use lib.ListN.{length, length-take, length-drop}
use lib.Seq.{take_all}
use Rattle.numbers.specs.Numbers.{bytes}
use Rattle.numbers.proofs.NumberLaws.{bytes_next, put-lent, length-bytes}
use Rattle.numbers.proofs.put_num.Goals as goal

pub loop-b-preserved : goal.loop-b-preserved
loop-b-preserved c =
    let a = c.args in
    let at = c.loop-b in
    let few : at.b-index < a.n = omega (arith, length-take {A = ℕ}, length-drop {A = ℕ}) in
    bytes_next a.n at.b-index at.rest at.b-items (bytes a.n a.x) few (omega arith) at.invariant

pub returns : goal.returns
unfolding bytes
returns c =
    let a = c.args in
    let at = c.loop-b in
    let long : length at.b-items ≡ a.n = omega (arith, length-take {A = ℕ}, length-drop {A = ℕ}) in
    let done : a.n - at.b-index ≡ 0 = omega arith in
    let all = sym (append-nil at.b-items) ∙ (rw (take_all at.b-index at.b-items (omega arith), done) at at.invariant) in
    put-lent a.at _ a.s.now at.b-items (bytes a.n a.x) (omega (arith, length-bytes a.n a.x)) (omega (arith, length-bytes a.n a.x)) all
