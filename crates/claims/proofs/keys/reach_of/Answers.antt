-- `claims::keys::reach_of` meets its contract: one datum's ends after the other are compared.
use mathlib.Core.Path.{◌≡◌, refl}
use native.Mathlib.Omega.{arith}
use Rattle.state.specs.Layout.{held_count}
use Rattle.claims.specs.code.Keys.{least_whole, base_of, greatest_whole, top_of}
use Rattle.claims.proofs.KeyLaws.{least_next, greatest_next, base_last}
use Rattle.claims.proofs.keys.reach_of.Goals as goal

pub loop-i-init : goal.loop-i-init
unfolding least_whole greatest_whole
loop-i-init c = (refl, refl, c.held-h.ensures.in_range c.args.s.sound)

pub loop-i-preserved : goal.loop-i-preserved
loop-i-preserved c =
    let inv = c.loop-i.invariant in (
      least_next _ _ _ _ _ inv.0 c.get64.ensures.0 c.min-first.ensures,
      greatest_next _ _ _ _ _ inv.1 c.get64-in-loop-i.ensures.0 c.max-last.ensures,
      inv.2,
    )

pub returns : goal.returns
unfolding base_of top_of
returns c =
    let head = c.loop-i in
    let s = c.args.s.bytes.now in
    let end : head.i ≡ held_count s = omega (arith, c.held-h.ensures.value, c.loop-i-test.false) in
    let least : head.first ≡ least_whole (held_count s) s = rw end at head.invariant.0 in
    (least, rw end at head.invariant.1, omega (arith, least, base_last s))
