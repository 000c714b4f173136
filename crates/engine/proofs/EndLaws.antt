-- "30 an end would pass 2^58 − 1": testing both ends of every datum is testing the right ends alone, as the code does.
-- The idea: an ageing and a receipt leave left at most right, so a left end never passes where the right one does not. No contract cites this file.
-- Assumes nothing.
use Prim.Native.Nat.{ℕ, ◌+◌, ◌≤◌, ◌<◌}
use mathlib.Core.Path.{◌≡◌, refl, ap, ◌∙◌}
use mathlib.Core.Bool.{Bool, true, false, ◌||◌}
use mathlib.Core.List.{List, [], ◌∷◌, map}
use native.Mathlib.Omega.{arith}
use borrow.Author.Tests.{lt-leb, leb-false}
use lib.Dec.{T, leb}
use Rattle.std.specs.List.{list_any, list_all}
use Rattle.predicates.proofs.ListLaws.{both_l, both_r}
use Rattle.state.specs.Model.{Datum, State, end_limit}
use Rattle.state.specs.Form.{datum_ok, state_ok}
use Rattle.state.proofs.OkLaws.{ok_datum_out}
use Rattle.state.proofs.StateLaws.{state_out}
use Rattle.engine.specs.Ageing.{slow, fast, widened, aged}
use Rattle.engine.specs.Receiving.{Delivery, grown}
use Rattle.engine.specs.Refusals.{an_end_passes, passes_end, ages_past, grows_past}
use Rattle.engine.proofs.CallLaws.{slow-fast, Heard, grown-ends}

pub right_decides : (d : Datum) → d.left ≤ d.right → an_end_passes d ≡ leb end_limit d.right
right_decides d h = go (leb end_limit d.right) refl
  where
    go : (b : Bool) → leb end_limit d.right ≡ b → leb end_limit d.left || b ≡ b
    go true e = or_true (leb end_limit d.left)
      where
        or_true : (a : Bool) → a || true ≡ true
        or_true true = refl
        or_true false = refl
    go false e =
        let below : d.right < end_limit = leb-false end_limit d.right e in
        rw (lt-leb end_limit d.left (omega arith))

-- ---- ageing

-- data that are widened
widened_decides : (own lo hi : ℕ) (ds : List Datum) → lo ≤ hi → T (list_all (datum_ok own) ds)
    → list_any an_end_passes (map (widened lo hi) ds) ≡ list_any (λ d. leb end_limit d.right) (map (widened lo hi) ds)
unfolding widened
widened_decides own lo hi [] l t = refl
widened_decides own lo hi (d ∷ ds) l t =
    let o = ok_datum_out own d (both_l (datum_ok own d) (list_all (datum_ok own) ds) t) in
    ap (λ (b : Bool). b || list_any an_end_passes (map (widened lo hi) ds)) (right_decides (widened lo hi d) (omega arith))
    ∙ ap (λ (b : Bool). leb end_limit (d.right + hi) || b) (widened_decides own lo hi ds l (both_r (datum_ok own d) (list_all (datum_ok own) ds) t))

-- of a state in form
pub ages_right : (st : State) (reading : ℕ) → T (state_ok st)
    → ages_past st reading ≡ list_any (λ d. leb end_limit d.right) (aged (slow st.head reading) (fast st.head reading) st.store).held
unfolding passes_end aged
ages_right st reading t =
    widened_decides st.head.own (slow st.head reading) (fast st.head reading) st.store.held (slow-fast st.head reading)
    (state_out st t).held

-- ---- receiving: a message that was read, with delays that fit

pub grows_right : (st : State) (g : Delivery) → Heard g → grows_past st g ≡ leb end_limit (grown st.head g).right
grows_right st g h = right_decides (grown st.head g) (grown-ends st.head g h)
