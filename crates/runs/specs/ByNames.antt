-- Demand 3 with its sets of names spelt out (document 02, W-204): "Two names are equal only if identifier and epoch are equal", so a set of failed
-- names is any set of pairs of an identifier and an epoch; of these only the ones current at the run's end count. Beside it the law that the
-- instants possible so are those of demand 3. Assumes nothing: these are definitions.
use Rattle.std.specs.Prelude.{ℕ, ◌≤◌, ◌≡◌, ◌⊎◌, ◌↔◌, Bool, List, [], ◌∷◌, T, get_or, ℤ, pos, ◌+ℤ◌}
use Rattle.names.specs.Sets.{has}
use Rattle.asking.specs.Instants.{Within, Allowed}
use Rattle.runs.specs.Book.{Line, advanced, heard, blames, Book, Possible}

-- a set of failed names: whether it has the name of an identifier under an epoch
abbrev pub Names : Type 0
Names = ℕ → ℕ → Bool

-- "a set of failed names makes a predicate true when it contains one of its terms": each identifier of the term, under the line's epochs, has failed
abbrev pub TermFails : Names → List ℕ → ℕ → Type 0
TermFails F es t = (n : ℕ) → T (has n t) → T (F n (get_or es n 0))

abbrev pub Makes : Names → List ℕ → List ℕ → Type 0
Makes F es [] = ⊥
Makes F es (t ∷ p) = TermFails F es t ⊎ Makes F es p

-- a path that agrees with the failed names and the book, as `Walk` of `specs.Book`
abbrev pub NameWalk : Names → List Line → ℤ → ℤ → Type 0
NameWalk F [] y x = y ≡ x
NameWalk F (advanced lo hi ∷ ls) y x = (a : ℕ) × (lo ≤ a) × (a ≤ hi) × NameWalk F ls (y +ℤ pos a) x
NameWalk F (heard es d ∷ ls) y x = (Within d.left d.right y ⊎ Makes F es d.terms) × NameWalk F ls y x
NameWalk F (blames es n ∷ ls) y x = T (F n (get_or es n 0)) × NameWalk F ls y x

-- "An explaining set now counts current names only, failed old ones being free": s has the identifier of each failed name that is not older than
-- the known epochs ks
abbrev pub Counted : Names → List ℕ → ℕ → Type 0
Counted F ks s = (n e : ℕ) → T (F n e) → get_or ks n 0 ≤ e → T (has n s)

-- some set of failed names, of which at most the limit's count is current, without the own one, and some path agree with the book and end on x
abbrev pub PossibleByNames : ℕ → Book → ℤ → Type 0
PossibleByNames limit b x =
    (F : Names) × (s : ℕ) × Allowed limit b.head.own s × Counted F b.head.epochs s × ((y : ℤ) × NameWalk F b.lines y x)

-- both agree
unfoldable pub ByNames : Type 0
ByNames = (limit : ℕ) (b : Book) (x : ℤ) → PossibleByNames limit b x ↔ Possible limit b x
