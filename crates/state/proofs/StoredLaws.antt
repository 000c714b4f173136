-- A state stored where another stood, told by its parts: where the parts from one on are the same, so are the bytes from there on, and likewise those
-- before. No contract cites this file. Assumes nothing.
use Prim.Native.Nat.{ℕ, zero, suc, ◌+◌, ◌≤◌}
use mathlib.Core.Path.{◌≡◌, refl, sym, ap, ◌∙◌}
use mathlib.Core.List.{List, [], ◌∷◌, ◌++◌, append_assoc}
use native.Mathlib.Nat.{zero-add, suc-add}
use lib.Dec.{T}
use lib.ListN.{length, take, drop, take-append-drop}
use lib.Seq.{length-take-le}
use native.Mathlib.Omega.{arith}
use Rattle.numbers.specs.Numbers.{Bytes, put}
use Rattle.numbers.proofs.NumberLaws.{put_front, length-put}
use Rattle.state.specs.Model.{State}
use Rattle.state.specs.Layout.{state_size, joined, parts, state_bytes, state_of}
use Rattle.state.specs.Form.{in_form, state_ok}
use Rattle.state.proofs.PartLaws.{Sized, place_in, together, part_sizes}
use Rattle.state.proofs.StateLaws.{parts_sized, length-state, form_ok, form_split}

drop_past : (p r : List ℕ) (k : ℕ) → drop (length p + k) (p ++ r) ≡ drop k r
drop_past [] r k = rw (zero-add k)
drop_past (x ∷ p) r k = rw (suc-add (length p) k) (drop_past p r k)

take_past : (p r : List ℕ) (k : ℕ) → take (length p + k) (p ++ r) ≡ p ++ take k r
take_past [] r k = rw (zero-add k)
take_past (x ∷ p) r k = rw (suc-add (length p) k) (ap (λ (l : List ℕ). x ∷ l) (take_past p r k))

-- from part k on, and before it
drop-parts : (k : ℕ) (ns : List ℕ) (ps : List (List ℕ)) (r : List ℕ) → Sized ns ps
    → drop (place_in ns k) (together ps ++ r) ≡ together (drop k ps) ++ r
unfolding joined
drop-parts zero ns ps r z = refl
drop-parts (suc k) [] [] r z = refl
drop-parts (suc k) [] (p ∷ ps) r z = absurd z
drop-parts (suc k) (n ∷ ns) [] r z = absurd z
drop-parts (suc k) (n ∷ ns) (p ∷ ps) r z =
    rw (append_assoc p (together ps) r, ← z.0) (drop_past p (together ps ++ r) (place_in ns k) ∙ drop-parts k ns ps r z.1)

take-parts : (k : ℕ) (ns : List ℕ) (ps : List (List ℕ)) (r : List ℕ) → Sized ns ps
    → take (place_in ns k) (together ps ++ r) ≡ together (take k ps)
unfolding joined
take-parts zero ns ps r z = refl
take-parts (suc k) [] [] r z = refl
take-parts (suc k) [] (p ∷ ps) r z = absurd z
take-parts (suc k) (n ∷ ns) [] r z = absurd z
take-parts (suc k) (n ∷ ns) (p ∷ ps) r z =
    rw (append_assoc p (together ps) r, ← z.0) (take_past p (together ps ++ r) (place_in ns k)
    ∙ ap (λ (l : List ℕ). p ++ l) (take-parts k ns ps r z.1))

-- ---- a state stored where another stood

module _ (s : List ℕ) (b : Bytes s) (t : T (in_form s)) (h : state_size ≤ length s) (st : State) (ok : T (state_ok st)) where
  -- both, as parts and what lies beyond
  old : s ≡ together (parts (state_of s)) ++ drop state_size s
  unfolding state_bytes
  old = form_split s t b h

  new : put 0 (state_bytes st) s ≡ together (parts st) ++ drop state_size s
  unfolding state_bytes
  new = put_front state_size (state_bytes st) s (length-state st ok) h

  pub behind-same : (k : ℕ) → drop k (parts st) ≡ drop k (parts (state_of s))
      → drop (place_in part_sizes k) (put 0 (state_bytes st) s) ≡ drop (place_in part_sizes k) s
  behind-same k e =
      let r = drop state_size s in
      ap (λ (l : List ℕ). drop (place_in part_sizes k) l) new ∙ drop-parts k part_sizes (parts st) r (parts_sized st ok)
      ∙ ap (λ (ps : List (List ℕ)). together ps ++ r) e
      ∙ sym (drop-parts k part_sizes (parts (state_of s)) r (parts_sized (state_of s) (form_ok s t)))
      ∙ ap (λ (l : List ℕ). drop (place_in part_sizes k) l) (sym old)

  pub before_same : (k : ℕ) → take k (parts st) ≡ take k (parts (state_of s))
      → take (place_in part_sizes k) (put 0 (state_bytes st) s) ≡ take (place_in part_sizes k) s
  before_same k e =
      let r = drop state_size s in
      ap (λ (l : List ℕ). take (place_in part_sizes k) l) new ∙ take-parts k part_sizes (parts st) r (parts_sized st ok)
      ∙ ap together e
      ∙ sym (take-parts k part_sizes (parts (state_of s)) r (parts_sized (state_of s) (form_ok s t)))
      ∙ ap (λ (l : List ℕ). take (place_in part_sizes k) l) (sym old)

-- bytes of the front put back: the parts behind them were the same all along
module _ (s : List ℕ) (b : Bytes s) (t : T (in_form s)) (h : state_size ≤ length s) (st : State) (ok : T (state_ok st)) where
  pub front_back : (u : List ℕ) (k n : ℕ) → n ≡ place_in part_sizes k → n ≤ length s → drop k (parts st) ≡ drop k (parts (state_of s)) → u ≡ put 0 (state_bytes st) s
      → put 0 (take n s) u ≡ s
  front_back u k n p l e q =
      let long : length (take n s) ≡ n = length-take-le n s l in
      let same : length u ≡ length s = ap length q ∙ length-put 0 (state_bytes st) s in
      put_front n (take n s) u long (omega arith)
      ∙ ap (λ (x : List ℕ). take n s ++ x) (rw (q, p) (behind-same s b t h st ok k e))
      ∙ take-append-drop n s
