-- Laws of setting up: the refusals, and what the writers leave.
-- The idea: the bytes are taken as parts, whatever they hold, and each part is stored in its place (`part_stored`).
-- No contract cites this file. Assumes nothing.
use Prim.Native.Nat.{ℕ, ◌+◌, ◌*◌, ◌≤◌, ◌<◌}
use mathlib.Core.Path.{◌≡◌, refl, ◌∙◌}
use mathlib.Core.List.{List, []}
use native.Mathlib.Omega.{arith}
use borrow.Author.Tests.{lt-ltb, le-ltb, lt-leb, le-leb}
use lib.ListN.{length, set, replicate, length-set, length-replicate}
use Rattle.clocks.specs.Clocks.{nothing}
use Rattle.clocks.specs.Places.{place_size, saved_bytes}
use Rattle.numbers.specs.Numbers.{bytes, put}
use Rattle.numbers.proofs.NumberLaws.{length-bytes, put-set}
use Rattle.epochs.specs.Epochs.{epoch_most, epochs_most}
use Rattle.state.specs.Model.{name_most, reading_limit}
use Rattle.clocks.specs.Clocks.{drift_most}
use Rattle.state.specs.Layout.{state_size, own_at, drift_at, reading_at, held_at, known_at, data_at, data_most, datum_size, entries_at, entries_most, entry_size, clocks_at, clocks_most, epochs_at, zeros, joined, data_bytes, entries_bytes, parts, state_bytes}
use Rattle.state.proofs.PartLaws.{cut_from, begins-any, part_stored}
use Rattle.engine.specs.Calls.{Setup, begun, set_up}
use Rattle.engine.specs.Refusals.{set_up_refusal}

-- ---- the refusals

module _ (u : Setup) where
  pub own-refused : name_most < u.own → set_up_refusal u ≡ 1
  unfolding set_up_refusal
  own-refused h = rw (lt-ltb name_most u.own h)

  module _ (own : u.own ≤ name_most) where
    pub epoch-refused : epoch_most < u.epoch → set_up_refusal u ≡ 41
    unfolding set_up_refusal
    epoch-refused h = rw (le-ltb name_most u.own own, lt-ltb epoch_most u.epoch h)

    module _ (epoch : u.epoch ≤ epoch_most) where
      pub drift-refused : drift_most < u.drift → set_up_refusal u ≡ 2
      unfolding set_up_refusal
      drift-refused h = rw (le-ltb name_most u.own own, le-ltb epoch_most u.epoch epoch, lt-ltb drift_most u.drift h)

      module _ (drift : u.drift ≤ drift_most) where
        pub reading-refused : reading_limit ≤ u.reading → set_up_refusal u ≡ 3
        unfolding set_up_refusal
        reading-refused h =
            rw (le-ltb name_most u.own own, le-ltb epoch_most u.epoch epoch, le-ltb drift_most u.drift drift, le-leb reading_limit u.reading h)

        pub set_up-taken : u.reading < reading_limit → set_up_refusal u ≡ 0
        unfolding set_up_refusal
        set_up-taken h =
            rw (le-ltb name_most u.own own, le-ltb epoch_most u.epoch epoch, le-ltb drift_most u.drift drift, lt-leb reading_limit u.reading h)

-- ---- the bytes

-- places that are all unused
length_no_data : length (data_bytes []) ≡ data_most * datum_size
unfolding data_bytes joined
length_no_data = length-replicate {A = ℕ} (data_most * datum_size) 0

length_no_entries : length (entries_bytes []) ≡ entries_most * entry_size
unfolding entries_bytes joined
length_no_entries = length-replicate {A = ℕ} (entries_most * entry_size) 0

-- nothing saved of any clock
no_clocks : joined saved_bytes (replicate clocks_most nothing) ≡ zeros (clocks_most * place_size)
unfolding joined saved_bytes
no_clocks = refl

-- the own epoch, put where all are zero
own-epoch : (own epoch : ℕ) (g x y : List ℕ) → own ≤ name_most → x ≡ put epochs_at (zeros epochs_most) g → y ≡ set x (epochs_at + own) epoch
    → y ≡ put epochs_at (set (zeros epochs_most) own epoch) g
own-epoch own epoch g x y h p q = q ∙ rw p (put-set epochs_at own epoch (zeros epochs_most) g (omega arith))

-- the parts are stored one after the other, in bytes that hold anything
pub fresh-put : (u : Setup) (s a b c d e f g x y : List ℕ) → state_size ≤ length s → u.own ≤ name_most
    → a ≡ put own_at (bytes 4 u.own) s → b ≡ put drift_at (bytes 4 u.drift) a
    → c ≡ put reading_at (bytes 8 u.reading) b → d ≡ put held_at (bytes 4 0) c → e ≡ put data_at (data_bytes []) d
    → f ≡ put known_at (bytes 4 0) (put entries_at (entries_bytes []) e) → g ≡ put clocks_at (zeros (clocks_most * place_size)) f
    → x ≡ put epochs_at (zeros epochs_most) g → y ≡ set x (epochs_at + u.own) u.epoch → y ≡ put 0 (state_bytes (set_up u)) s
unfolding state_bytes parts cut_from set_up begun
fresh-put u s a b c d e f g x y h o p q r k l m n v w =
    let own = part_stored 0 _ _ _ _ _ (omega arith) (length-bytes 4 _) p (begins-any s h) in
    let drift = part_stored 1 _ _ _ _ _ (omega arith) (length-bytes 4 _) q own in
    let reading = part_stored 2 _ _ _ _ _ (omega arith) (length-bytes 8 _) r drift in
    let held = part_stored 3 _ _ _ _ _ (omega arith) (length-bytes 4 _) k reading in
    let none = part_stored 5 _ _ _ _ _ (omega arith) length_no_data l held in
    let entries = part_stored 6 _ _ _ _ _ (omega arith) length_no_entries refl none in
    let known = part_stored 4 _ _ _ _ _ (omega arith) (length-bytes 4 _) m entries in
    let clocks = part_stored 7 (zeros (clocks_most * place_size)) _ _ _ _ (omega arith) (length-replicate {A = ℕ} (clocks_most * place_size) 0) n known in
    let epochs = part_stored 8 (set (zeros epochs_most) u.own u.epoch) _ _ _ _ (omega arith) (length-set (zeros epochs_most) u.own u.epoch)
    (own-epoch u.own u.epoch g x y o v w) clocks in
    rw no_clocks epochs.stored
