-- `monitor::calls::datum_words` meets its contract: own name and row are read from the bytes, the names from the epochs, and what `write` makes of
-- them are the words of the held datum (`words-written`). A state in form gives the ranges that `write` asks.
use Rattle.std.proofs.Common.{◌≡◌, ◌≤◌, ℕ, List, length, take, sym, ap, ◌∙◌, arith}
use Rattle.numbers.specs.Numbers.{num}
use Rattle.numbers.proofs.NumberLaws.{take_put}
use Rattle.epochs.specs.Epochs.{epochs_in}
use Rattle.radio.specs.Names.{wanted, names_of}
use Rattle.state.specs.Layout.{own_at, epochs_at, datum_at}
use Rattle.state.specs.code.Tables.{ends_at, terms_of}
use Rattle.monitor.proofs.CallLaws.{Held, held_out, row_ends, row_count, row_terms, given-told, length-written, right_split, left_down, right-up, ends_lt, words-written}
use Rattle.monitor.proofs.calls.datum_words.Goals as goal
use Rattle.monitor.proofs.calls.datum_words.Goals.{Start, After-get_datum-datum, After-terms-terms, After-known_names-given}

-- the datum at the position is right
held : (c : Start) → Held c.args.state.bytes.now c.args.position
held c = held_out _ c.args.state.sound _ c.requires.0

-- its ends, its count and its terms
ends : (c : After-get_datum-datum) → c.get_datum-datum.result.ends ≡ ends_at c.args.state.bytes.now c.args.position
ends c = rw c.get_datum-datum.ensures (row_ends _ _)

few : (c : After-get_datum-datum) → Held c.args.state.bytes.now c.args.position → c.get_datum-datum.result.count ≤ 8
few c f = rw c.get_datum-datum.ensures (omega (arith, f.few, f.count, row_count c.args.state.bytes.now c.args.position))

terms : (c : After-terms-terms) → c.terms-terms.result.now ≡ (datum_at c.args.state.bytes.now c.args.position).terms
terms c = c.terms-terms.ensures ∙ ap (λ r. terms_of r) c.get_datum-datum.ensures ∙ row_terms _ _

-- the names in use are those that were put at the front
front : (c : After-known_names-given) → take c.known_names-given.result c.known_names-given.new.names
    ≡ names_of (epochs_in epochs_at c.args.state.bytes.now) c.wanted-mask.result
front c =
    let told = c.known_names-given.ensures in
    ap (λ (l : List ℕ). take c.known_names-given.result l) told.names_after ∙ take_put _ _ _ (sym told.value.0) (omega (arith, told.value.1))

-- and those that it gives
names : (c : After-known_names-given) → let a = c.args in Held a.state.bytes.now a.position
    → c.terms-terms.result.now ≡ (datum_at a.state.bytes.now a.position).terms
    → take c.known_names-given.result c.known_names-given.new.names
    ≡ names_of (epochs_in epochs_at a.state.bytes.now) (wanted (num own_at 4 a.state.bytes.now) (datum_at a.state.bytes.now a.position).terms)
names c holds masks = given-told _ _ holds _ _ _ _ c.own-own.ensures.value masks c.wanted-mask.ensures (front c)

-- and so many
counted : (c : After-known_names-given) → c.known_names-given.result ≡ length (take c.known_names-given.result c.known_names-given.new.names)
counted c = c.known_names-given.ensures.value.0 ∙ sym (ap length (front c))

pub round_up-right-requires : goal.round_up-right-requires
round_up-right-requires c =
    let at = goal.at.round_up-right-requires c in
    right_split _ _ (held at.Start) _ (ends at.After-get_datum-datum)

pub terms-terms-requires : goal.terms-terms-requires
terms-terms-requires c = let at = goal.at.terms-terms-requires c in few at.After-get_datum-datum (held at.Start)

pub write-requires-clause-sender_bound : goal.write-requires-clause-sender_bound
write-requires-clause-sender_bound c =
    let at = goal.at.write-requires-clause-sender_bound c in
    let f = held at.Start in
    let read = ends at.After-get_datum-datum in
    let both = ends_lt _ _ f _ _ (left_down _ _ f _ read) (right-up _ _ f _ read _ c.round_up-right.ensures) in
    (omega (arith, f.own_le, c.own-own.ensures.value), both.0, both.1, omega (arith, ap length (terms at.After-terms-terms), f.few))

pub returns : goal.returns
returns c =
    let at = goal.at.returns c in
    let f = held at.Start in
    let read = ends at.After-get_datum-datum in
    let masks = terms at.After-terms-terms in
    let said = names at.After-known_names-given f masks in
    let right = right-up _ _ f _ read _ c.round_up-right.ensures in
    let same = words-written _ _ f _ _ _ _ _ c.own-own.ensures.value (left_down _ _ f _ read) right said masks in
    record {
      value = (
        omega (arith, length-written _ _ f, ap length said, counted at.After-known_names-given, ap length masks, f.count),
        omega (arith, ap length masks, f.few, c.known_names-given.ensures.value.1),
      );
      words_after = rw same at c.write.ensures;
    }
