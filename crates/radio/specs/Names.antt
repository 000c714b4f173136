-- The epoch words of a message (document 02, W-204): "one word of kind 0 for the sender and for each identifier in its terms, rising: identifier
-- in bits 0–4, epoch in bits 5–8, the rest zero". A word of kind 0 is its payload, a name. Assumes nothing: these are definitions.
use Rattle.std.specs.Prelude.{ℕ, ◌^◌, Bool, true, ◌&&◌, List, [], ◌∷◌, map, ltb, eqb, get_or}
use Rattle.names.specs.Sets.{set_union, has}
use Rattle.std.specs.List.{list_all, filter}
use Rattle.numbers.specs.Numbers.{tab}
use Rattle.epochs.specs.Epochs.{identifier_of, name, name_limit, epochs_most}

-- the identifiers that names have, as a mask
unfoldable pub named : List ℕ → ℕ
named [] = 0
named (w ∷ ws) = set_union (2 ^ identifier_of w) (named ws)

-- "the sender and each identifier in its terms", as a mask
unfoldable pub wanted : ℕ → List ℕ → ℕ
wanted sender [] = 2 ^ sender
wanted sender (t ∷ ts) = set_union t (wanted sender ts)

-- "rising"
unfoldable pub rises : List ℕ → Bool
rises [] = true
rises (w ∷ ws) = list_all (λ v. ltb (identifier_of w) (identifier_of v)) ws && rises ws

-- what 42 denies, "epoch words missing, unordered, too many or ill formed": the names are those of the identifiers in the mask, one each, rising
unfoldable pub names_fit : ℕ → List ℕ → Bool
names_fit mask names = list_all (λ w. ltb w name_limit) names && (rises names && eqb (named names) mask)

-- the names of the identifiers in a mask, rising, under the epochs ks, each at its identifier's place
unfoldable pub names_of : List ℕ → ℕ → List ℕ
names_of ks mask = map (λ n. name n (get_or ks n 0)) (filter (λ n. has n mask) (tab epochs_most (λ n. n)))
