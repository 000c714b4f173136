-- `claims::keys::parts_of` meets its contract: the millionths, and zeros behind them.
use Prim.Native.Nat.{◌*◌, ◌≤◌}
use lib.Seq.{length-take-le}
use mathlib.Core.Path.{◌≡◌, sym}
use lib.ListN.{length, take}
use Rattle.state.specs.Layout.{zeros}
use Rattle.claims.specs.code.Keys.{parts_most}
use native.Mathlib.Omega.{arith}
use Rattle.claims.proofs.KeyLaws.{parts-made}
use Rattle.claims.proofs.keys.parts_of.Goals as goal

pub overflow_mul-parts : goal.overflow_mul-parts
overflow_mul-parts c = omega (arith, c.held.ensures.in_range c.args.s.sound)

pub slice_bounds-parts-end : goal.slice_bounds-parts-end
slice_bounds-parts-end c = omega (arith, c.held.ensures.in_range c.args.s.sound)

pub slice_bounds-get_parts-end : goal.slice_bounds-get_parts-end
slice_bounds-get_parts-end c = sym (length-take-le _ _ (omega (arith, c.held.ensures.in_range c.args.s.sound)))

pub get_parts-requires : goal.get_parts-requires
get_parts-requires c =
    let few : c.held.result ≤ 16 = omega (arith, c.held.ensures.in_range c.args.s.sound) in
    let long : length (take (c.held.result * 2) (zeros parts_most)) ≡ c.held.result * 2 = length-take-le (c.held.result * 2) (zeros parts_most) (omega arith) in
    (c.args.s.long, omega (arith, long))

pub returns : goal.returns
returns c = parts-made _ _ _ c.held.ensures.value (c.held.ensures.in_range c.args.s.sound) c.get_parts.ensures
