-- `claims::degrees::get_singles` meets its contract: turn i stores the mask of datum i.
use Prim.Native.Nat.{◌+◌, ◌<◌}
use native.Mathlib.Omega.{arith}
use lib.ListN.{length}
use Rattle.predicates.specs.code.Marks.{singles}
use Rattle.state.specs.Layout.{store_of}
use Rattle.claims.specs.code.Tables.{claim_at}
use Rattle.claims.proofs.DegreeLaws.{claim_placed, claim_few, claim_singles}
use Rattle.claims.proofs.TableLaws.{filled-array, filled-next}
use Rattle.claims.proofs.degrees.get_singles.Goals as goal

pub overflow_add-n : goal.overflow_add-n
overflow_add-n c = omega (arith, claim_placed _ c.args.s.sound _ c.requires.0 (c.args.n + c.loop-i.i) (omega arith))

pub place-requires : goal.place-requires
place-requires c = claim_placed _ c.args.s.sound _ c.requires.0 (c.args.n + c.loop-i.i) (omega arith)

pub single_names-requires : goal.single_names-requires
single_names-requires c =
    (claim_few _ c.args.s.sound _ c.requires.0 (c.args.n + c.loop-i.i) (omega arith) _ c.place.ensures.0, omega arith)

pub loop-i-preserved : goal.loop-i-preserved
loop-i-preserved c =
    let head = c.loop-i in
    let told = claim_singles _ c.args.s.sound _ c.requires.0 (c.args.n + head.i) (omega arith) _ c.place.ensures.0 _ c.single_names.ensures in
    let room : head.i < length head.masks = omega arith in
    filled-next 0 (λ k. singles (claim_at (store_of c.args.s.bytes.now) (c.args.n + k)).terms) head.i _ head.masks room told head.invariant

pub returns : goal.returns
returns c = filled-array 0 _ _ _ c.loop-i.auto.masks (λ k h. c.loop-i.invariant k (omega arith))
