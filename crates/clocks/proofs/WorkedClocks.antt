-- Each worked case of the sender's clock comes out as it says, by computation. Assumes nothing.
use mathlib.Core.Path.{◌≡◌, refl}
use mathlib.Core.List.{List, [], ◌∷◌}
use Rattle.clocks.specs.Clocks.{strays, violates, saving, saved_of, ahead_of, behind_of, nothing}
use Rattle.clocks.specs.Worked.{Row, rows}

-- a row is true
abbrev pub Comes : Row → Type 0
Comes r = (violates r.drifts (saved_of nothing r.given) r.new ≡ r.violation) × (saving (saved_of nothing r.given) r.new ≡ r.saved)

abbrev pub Each : List Row → Type 0
Each [] = Unit {0}
Each (r ∷ rs) = Comes r × Each rs

pub worked : Each rows
unfolding strays violates saving saved_of ahead_of behind_of
worked = ((refl, refl), ((refl, refl), ((refl, refl), ((refl, refl), ((refl, refl), ((refl, refl), ((refl, refl), ((refl, refl), ((refl, refl), ((refl, refl), ((refl, refl), ((refl, refl), ((refl, refl), ((refl, refl), ((refl, refl), ((refl, refl), ((refl, refl), ((refl, refl), ((refl, refl), tt)))))))))))))))))))
