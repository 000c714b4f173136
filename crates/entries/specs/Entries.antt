-- Entries of the failure knowledge (document 01, "Receiving", step 1): what they imply, how one is placed, and what is left of them when names
-- count as failed.
-- Assumes nothing: these are definitions.
use Rattle.std.specs.Prelude.{ℕ, Bool, not, cond, List, [], ◌∷◌, ◌++◌, map}
use Rattle.std.specs.List.{list_any, filter}
use Rattle.predicates.specs.Predicates.{implies, is_true}
use Rattle.epochs.specs.Epochs.{withdraw}

-- some entry implies p
unfoldable pub explained : List (List ℕ) → List ℕ → Bool
explained es p = list_any (λ e. implies e p) es

-- "If an entry there implies it, it is not added. Else the entries that it implies go, and it stands last."
unfoldable pub learn : List ℕ → List (List ℕ) → List (List ℕ)
learn e es = cond (explained es e) es (filter (λ f. not (implies e f)) es ++ (e ∷ []))

-- the names of r are withdrawn (document 02, W-204): "it counts as failed in all held data and entries, and those that become true go; the rest are
-- put in normal form, no more"
unfoldable pub withdrawn_entries : ℕ → List (List ℕ) → List (List ℕ)
withdrawn_entries r es = filter (λ e. not (is_true e)) (map (withdraw r) es)
