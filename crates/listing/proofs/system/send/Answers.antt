-- A call either writes a part of the rest or uses up a try. The mathematics is `write_less`, `write_next` and `tells_more` of `proofs.SystemLaws`.
use Rattle.std.proofs.Common.{◌≡◌, ◌+◌, ◌-◌, ◌≤◌, ℕ, List, true, sym, ◌∙◌, ltb, length, take, drop, length-drop, arith}
use Rattle.std.proofs.Math.Seq.{take_all}
use Rattle.std.proofs.KnownBytes.{Appends-nil}
use Rattle.predicates.proofs.ListLaws.{or_r}
use Rattle.listing.specs.System.{goes_on, moved_by}
use Rattle.listing.proofs.SystemLaws.{moved_most, write_tells, after_got, none_on, on_tries, write_less, write_next, write-whole, tells_more}
use Rattle.listing.proofs.system.send.Goals as goal

-- the rest of a text, and how long it is
rest : (at : ℕ) (text : List ℕ) → take (length text - at) (drop at text) ≡ drop at text
rest at text = take_all (length text - at) (drop at text) (omega (arith, length-drop at text))

rest_length : (at : ℕ) (text : List ℕ) → length (take (length text - at) (drop at text)) ≡ length text - at
rest_length at text = rw rest (length-drop at text)

pub loop-at-init : goal.loop-at-init
loop-at-init g c =
    record {
      within = omega arith;
      next = or_r (ltb 0 (length c.args.text.now)) _ (none_on _ c.none-last.ensures);
      bytes = Appends-nil _;
    }

pub followed_by-last-requires : goal.followed_by-last-requires
followed_by-last-requires g c = on_tries _ (sym c.goes_on.ensures ∙ c.if-goes_on.true)

pub overflow_add-at : goal.overflow_add-at
overflow_add-at g c =
    let got = after_got _ _ _ c.followed_by-last.ensures in
    let most = moved_most _ c.followed_by-last.result (length (take (length c.args.text.now - c.loop-at.at) (drop c.loop-at.at c.args.text.now))) got c.write.ensures.bound in
    let within : c.loop-at.at + c.moved-at.result ≤ length c.args.text.now = omega (arith, most, rest_length c.loop-at.at c.args.text.now, c.moved-at.ensures) in
    omega arith

pub loop-at-smaller : goal.loop-at-smaller
loop-at-smaller g c =
    let going : goes_on c.loop-at.last ≡ true = sym c.goes_on.ensures ∙ c.if-goes_on.true in
    let got = after_got _ _ _ c.followed_by-last.ensures in
    let most = moved_most _ c.followed_by-last.result (length (take (length c.args.text.now - c.loop-at.at) (drop c.loop-at.at c.args.text.now))) got c.write.ensures.bound in
    let within : c.loop-at.at + moved_by c.followed_by-last.result.got ≤ length c.args.text.now = omega (arith, most, rest_length c.loop-at.at c.args.text.now) in
    rw c.moved-at.ensures (write_less _ _ _ _ _ c.followed_by-last.ensures going within)

pub loop-at-preserved : goal.loop-at-preserved
loop-at-preserved g c =
    let text = c.args.text.now in
    let going : goes_on c.loop-at.last ≡ true = sym c.goes_on.ensures ∙ c.if-goes_on.true in
    let got = after_got _ _ _ c.followed_by-last.ensures in
    let most = moved_most _ c.followed_by-last.result (length (take (length text - c.loop-at.at) (drop c.loop-at.at text))) got c.write.ensures.bound in
    let within : c.loop-at.at + c.moved-at.result ≤ length c.args.text.now = omega (arith, most, rest_length c.loop-at.at text, c.moved-at.ensures) in
    let told = write_tells _ _ _ c.followed_by-last.result _ got c.write.ensures.bytes in
    record {
      within = within;
      next = rw c.moved-at.ensures (write_next _ _ _ _ _ c.followed_by-last.ensures going c.loop-at-test.true);
      bytes = rw c.moved-at.ensures (tells_more _ _ _ _ _ _ _ (rest c.loop-at.at text) c.loop-at.invariant.bytes told);
    }

pub returns-else-goes_on-clause-bytes : goal.returns-else-goes_on-clause-bytes
returns-else-goes_on-clause-bytes g c = c.loop-at.invariant.bytes

pub returns-after-loop-at-clause-written : goal.returns-after-loop-at-clause-written
returns-after-loop-at-clause-written g c = c.loop-at.invariant.within

pub returns-after-loop-at-clause-bytes : goal.returns-after-loop-at-clause-bytes
returns-after-loop-at-clause-bytes g c = c.loop-at.invariant.bytes

pub returns-after-loop-at-clause-whole : goal.returns-after-loop-at-clause-whole
returns-after-loop-at-clause-whole g c = write-whole _ _ _ c.loop-at-test.false c.loop-at.invariant.next
