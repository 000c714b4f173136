-- A call that is made again uses up a try, and takes no byte. The mathematics is `read_less`, `repeated_takes` and `last_takes` of `proofs.SystemLaws`.
use Rattle.std.proofs.Common.{sym, ◌∙◌}
use Rattle.std.proofs.KnownBytes.{Consumes-nil}
use Rattle.listing.proofs.SystemLaws.{read_most, read_takes, after_got, none_tries, repeated_tries, read_less, repeated_takes, last_takes}
use Rattle.listing.proofs.system.receive.Goals as goal

pub loop-last-init : goal.loop-last-init
loop-last-init g c = record { tries = none_tries _ c.none-last.ensures; none = Consumes-nil _ }

pub followed_by-last-requires : goal.followed_by-last-requires
followed_by-last-requires g c = c.loop-last.invariant.tries

pub returns-then-not-is_repeated-clause-call : goal.returns-then-not-is_repeated-clause-call
returns-then-not-is_repeated-clause-call g c =
    let got = after_got _ _ _ c.followed_by-last.ensures in
    (read_most _ c.followed_by-last.result _ got c.read.ensures.bound, rw (sym c.is_repeated.ensures ∙ c.if-not-is_repeated.true) tt)

pub returns-then-not-is_repeated-clause-bytes : goal.returns-then-not-is_repeated-clause-bytes
returns-then-not-is_repeated-clause-bytes g c =
    let got = after_got _ _ _ c.followed_by-last.ensures in
    last_takes _ _ _ _ _ c.loop-last.invariant.none (read_takes _ _ _ c.followed_by-last.result _ got c.read.ensures.bytes)

pub loop-last-smaller : goal.loop-last-smaller
loop-last-smaller g c = read_less _ _ _ c.followed_by-last.ensures (sym c.is_repeated.ensures ∙ c.if-not-is_repeated.false)

pub loop-last-preserved : goal.loop-last-preserved
loop-last-preserved g c =
    let got = after_got _ _ _ c.followed_by-last.ensures in
    let again = sym c.is_repeated.ensures ∙ c.if-not-is_repeated.false in
    record {
      tries = repeated_tries _ again;
      none = repeated_takes _ _ _ _ _ again c.loop-last.invariant.none (read_takes _ _ _ c.followed_by-last.result _ got c.read.ensures.bytes);
    }
