-- `numbers::put32` meets its contract: the library's bytes of a number are its bytes (`bytes-le`). Assumes nothing.
use mathlib.Core.Path.{◌≡◌, ap, ◌∙◌}
use Prim.Native.Nat.{◌/◌}
use native.Mathlib.Omega.{arith}
use Rattle.numbers.specs.Numbers.{bytes}
use Rattle.numbers.proofs.NumberLaws.{put-lent, bytes-le, length-bytes}
use Rattle.numbers.proofs.put32.Goals as goal

pub returns : goal.returns
returns c =
    let a = c.args in
    let whole : a.x / 1 ≡ a.x = omega arith in
    let stored = c.copy_from_slice.ensures.after ∙ c.to_le_bytes.ensures ∙ bytes-le 4 0 a.x ∙ ap (bytes 4) whole in
    put-lent a.at _ a.s.now _ (bytes 4 a.x) (omega (arith, length-bytes 4 a.x)) (omega (arith, length-bytes 4 a.x)) stored
