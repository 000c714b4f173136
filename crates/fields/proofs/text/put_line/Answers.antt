-- `fields::text::put_line` meets its contract: each text stands behind the one before (`text_then` of `proofs.DecimalLaws`). Assumes nothing.
use Rattle.std.proofs.Common.{◌≡◌, ◌+◌, ◌*◌, ◌≤◌, ◌<◌, ◌++◌, List, ℕ, [], ◌∷◌, length, take, length-append, length-take, append-nil, arith}
use Rattle.fields.specs.code.Lines.{spaced}
use Rattle.fields.proofs.DecimalLaws.{text_then, line_next, line-end, spaced-length}
use Rattle.fields.proofs.text.put_line.Goals as goal

-- the numbers so far leave room for the next
room : (word ns : List ℕ) (i end : ℕ) → end ≡ length (word ++ spaced (take i ns)) → i < length ns → end + 22 ≤ length word + 21 * length ns + 1
room word ns i end e h =
    let long = spaced-length (take i ns) in
    let part : length (take i ns) ≤ i = omega (arith, length-take i ns) in
    omega (arith, length-append word (spaced (take i ns)))

-- and at the end for the line feed
room-end : (word ns : List ℕ) (i end : ℕ) → end ≡ length (word ++ spaced (take i ns)) → end + 1 ≤ length word + 21 * length ns + 1
room-end word ns i end e =
    let long = spaced-length (take i ns) in
    let part : length (take i ns) ≤ length ns = omega (arith, length-take i ns) in
    omega (arith, length-append word (spaced (take i ns)))

pub loop-number-init : goal.loop-number-init
loop-number-init c =
    let word = c.args.word.now in
    record { place = simp append-nil (omega arith); stands = simp append-nil c.put_text-end.ensures.out_after }

pub put_text-end-requires-in-loop-number : goal.put_text-end-requires-in-loop-number
put_text-end-requires-in-loop-number c =
    omega (arith, room _ _ _ _ c.loop-number.invariant.place c.loop-number-test.true)

pub put_decimal-end-requires : goal.put_decimal-end-requires
put_decimal-end-requires c = omega (arith, room _ _ _ _ c.loop-number.invariant.place c.loop-number-test.true)

pub loop-number-preserved : goal.loop-number-preserved
loop-number-preserved c =
    let word = c.args.word.now in
    let ns = c.args.numbers.now in
    let i = c.loop-number.number-index in
    let head = c.loop-number.invariant in
    let space = c.put_text-end-in-loop-number.ensures in
    let number = c.put_decimal-end.ensures in
    let first = text_then 0 _ _ (word ++ spaced (take i ns)) (32 ∷ []) _ _ _ (omega arith) head.stands space.value space.out_after in
    let both = text_then 0 _ _ _ _ _ _ _ first.0 first.1 number.value.0 number.out_after in
    let next = line_next word ns i c.loop-number-test.true in
    record { place = rw next (omega (arith, both.0)); stands = rw next both.1 }

pub put_text-requires : goal.put_text-requires
put_text-requires c = omega (arith, room-end _ _ _ _ c.loop-number.invariant.place)

pub returns : goal.returns
returns c =
    let head = c.loop-number.invariant in
    let feed = c.put_text.ensures in
    let line = text_then 0 _ _ _ (10 ∷ []) _ _ _ (omega arith) head.stands feed.value feed.out_after in
    let whole = line-end c.args.word.now c.args.numbers.now c.loop-number.number-index c.loop-number-test.false in
    record { value = rw (← whole) (omega (arith, line.0)); out_after = rw (← whole) line.1 }
