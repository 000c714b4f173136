-- `state::store::move_entry` meets its contract: the row that was read into a fresh array is that of place i.
use Prim.Native.Nat.{ℕ, ◌≤◌}
use mathlib.Core.Path.{◌≡◌, sym, ap, ◌∙◌}
use mathlib.Core.List.{List}
use native.Mathlib.Omega.{arith}
use lib.ListN.{length, take}
use lib.Seq.{length-take-le}
use Rattle.numbers.specs.Numbers.{put}
use Rattle.state.specs.Layout.{entry_terms, entry_bytes, masks_at}
use Rattle.state.proofs.StoreLaws.{length-masks}
use borrow.Author.Rules.{rules}
use Rattle.state.proofs.store.move_entry.Goals as goal

module _ (at count : ℕ) (s row : List ℕ) (e : row ≡ masks_at entry_terms at s) where
  -- as many terms as were asked for
  long : count ≤ entry_terms → length (take count row) ≡ count
  long h = length-take-le count row (omega (arith, ap length e, length-masks entry_terms at s))

  moved : (k : ℕ) (u : List ℕ) → u ≡ put k (entry_bytes (take count row)) s → u ≡ put k (entry_bytes (take count (masks_at entry_terms at s))) s
  moved k u p = p ∙ ap (λ (l : List ℕ). put k (entry_bytes (take count l)) s) e

pub slice_bounds-put_entry-end : goal.slice_bounds-put_entry-end
unfolding masks_at
slice_bounds-put_entry-end c = sym (long _ _ _ _ c.get_words.ensures (search rules))

pub put_entry-requires : goal.put_entry-requires
unfolding masks_at
put_entry-requires c =
    let few = long _ c.args.count _ _ c.get_words.ensures (search rules) in
    (search rules, omega (arith, few), search rules)

pub returns : goal.returns
unfolding masks_at
returns c =
    moved _ c.args.count _ _ c.get_words.ensures _ _ c.put_entry.ensures
