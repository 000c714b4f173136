-- `claims::keys::put_keys` meets its contract: an entry's keys are fixed, a datum's are made of its ends.
use Prim.Native.Nat.{◌<◌}
use native.Mathlib.Omega.{arith}
use lib.ListN.{length}
use Rattle.state.proofs.StateLaws.{held_count_le}
use Rattle.claims.specs.code.Keys.{key_of}
use Rattle.claims.specs.code.Tables.{claim_span}
use Rattle.claims.proofs.KeyLaws.{entry-span, datum-span}
use Rattle.claims.proofs.TableLaws.{filled-array, filled-next}
use Rattle.claims.proofs.keys.put_keys.Goals as goal
use Rattle.claims.proofs.keys.put_keys.Goals.{then-i-n, else-i-n}

pub get-held-requires : goal.get-held-requires
get-held-requires g c = (c.args.s.long, omega (arith, held_count_le _ c.args.s.sound, c.requires.room))

pub loop-i-preserved : goal.loop-i-preserved
loop-i-preserved g c =
    let i = c.loop-i.i in
    let f = key_of c.args.s.bytes.now in
    let room : i < length c.loop-i.ends = omega arith in
    elim c.if-i-n.branch [
      | then-i-n w ↦
          rw w.ends-is
          (filled-next _ (claim_span f c.args.s.bytes.now c.args.n) i _ c.loop-i.ends room (entry-span f _ _ i _ w.if-i-n.true w.entry_keys.ensures) c.loop-i.invariant)
      | else-i-n w ↦
          rw w.ends-is
          (filled-next _ (claim_span f c.args.s.bytes.now c.args.n) i _ c.loop-i.ends room
          (datum-span f _ _ i _ _ _ w.if-i-n.false w.get-held.ensures (c.requires.keyed _ _ w.key.ensures) (c.requires.keyed _ _ w.key-else-i-n.ensures))
          c.loop-i.invariant)
    ]

pub returns : goal.returns
returns g c = filled-array _ _ _ _ c.loop-i.auto.ends (λ k h. c.loop-i.invariant k (omega arith))
