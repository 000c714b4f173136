-- The epoch words of a message that is taken are names of identifiers that rise (`Named` of crate `epochs`), which is what hearing them asks.
-- No contract cites this file. Assumes nothing.
use Prim.Native.Nat.{ℕ, zero, suc, ◌<◌}
use mathlib.Core.Bool.{Bool}
use mathlib.Core.List.{List, [], ◌∷◌}
use native.Mathlib.Omega.{arith}
use lib.Dec.{T, ltb, ltb→lt}
use lib.ListN.{length, get_or}
use Rattle.std.specs.List.{list_all}
use Rattle.predicates.proofs.ListLaws.{both_l, both_r}
use Rattle.predicates.proofs.IndexLaws.{all_get_or, at_in}
use Rattle.message.specs.Words.{masks}
use Rattle.message.specs.Read.{term_words}
use Rattle.message.proofs.MessageLaws.{masks_lt}
use Rattle.message.specs.Read.{Message}
use Rattle.epochs.specs.Epochs.{name_limit, identifier_of}
use Rattle.epochs.specs.code.Known.{Named}
use Rattle.radio.specs.Names.{wanted, rises, names_fit}
use Rattle.radio.specs.Read.{epoch_words}
use Rattle.radio.proofs.NameLaws.{wanted_lt, fit_identifier}
use Rattle.radio.proofs.ReadLaws.{Live, epochs_part, terms-middle, epochs-below, epochs_rise}

rises_at : (ws : List ℕ) → T (rises ws) → (i j : ℕ) → i < j → j < length ws → identifier_of (get_or ws i 0) < identifier_of (get_or ws j 0)
unfolding rises
rises_at [] t i j h k = absurd (omega (arith, k))
rises_at (w ∷ ws) t i zero h k = absurd (omega (arith, h))
rises_at (w ∷ ws) t zero (suc j) h k =
    ltb→lt (identifier_of w) (identifier_of (get_or ws j 0))
    (all_get_or (λ v. ltb (identifier_of w) (identifier_of v)) ws j 0 (both_l (list_all (λ v. ltb (identifier_of w) (identifier_of v)) ws) _ t) (omega (arith, k)))
rises_at (w ∷ ws) t (suc i) (suc j) h k =
    rises_at ws (both_r (list_all (λ v. ltb (identifier_of w) (identifier_of v)) ws) (rises ws) t) i j (omega (arith, h)) (omega (arith, k))

pub heard-names : {ends : Bool} {ws : List ℕ} {s l r n : ℕ} → Live ends ws s l r n → Named (epoch_words (Message s l r n) ws)
heard-names {ends} {ws} {s} {l} {r} {n} live =
    let names = epoch_words (Message s l r n) ws in
    let terms = masks (term_words (Message s l r n) ws) in
    let fit : T (names_fit (wanted s terms) names) = rw (epochs_part live, terms-middle live) live.fit in
    record {
      small = λ i h. ltb→lt (get_or names i 0) name_limit (all_get_or (λ w. ltb w name_limit) names i 0 (epochs-below live) h);
      few = λ i h.
          fit_identifier (wanted s terms) names fit (wanted_lt s terms live.taken.sender_le (masks_lt (term_words (Message s l r n) ws)))
          (get_or names i 0) (at_in names 0 i h);
      rising = rises_at names (epochs_rise live);
    }
