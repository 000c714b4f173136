-- What a monitor holds (document 01, "Instants, names, predicates" and "Receiving"), as numbers and lists, oldest first.
-- Assumes nothing: these are definitions.
use Rattle.std.specs.Prelude.{ℕ, ◌+◌, ◌-◌, ◌*◌, ◌^◌, List}
use Rattle.ends.specs.Ends.{million}
use Rattle.clocks.specs.Clocks.{Saved}

-- "A datum is an interval (left at most right) and a predicate: true time is in the interval, or the predicate is true." Its
-- ends are counts of millionths of a microsecond (document 02, W-205).
pub record Datum : Type 0 where
  pub left : ℕ
  pub right : ℕ
  pub terms : List ℕ

abbrev pub datum : ℕ → ℕ → List ℕ → Datum
datum left right terms = record { left = left; right = right; terms = terms }

-- what setting up enters, and what calls change of it by their arguments alone
pub record Head : Type 0 where
  pub own : ℕ
  pub drift : ℕ
  pub reading : ℕ
  -- what is saved of each name's clock readings, by name (document 02, W-201)
  pub clocks : List Saved
  -- the known epoch of each identifier, "the own one among them" (document 02, W-204)
  pub epochs : List ℕ

-- the head with other clocks
abbrev pub with_clocks : Head → List Saved → Head
with_clocks h cs = record { own = h.own; drift = h.drift; reading = h.reading; clocks = cs; epochs = h.epochs }

-- the held data and the failure knowledge, a list of predicates
pub record Store : Type 0 where
  pub held : List Datum
  pub entries : List (List ℕ)

pub record State : Type 0 where
  pub head : Head
  pub store : Store

-- "A name is 0 to 28."
abbrev pub name_most : ℕ
name_most = 28

-- the last whole microsecond that can be stored: "Stored ends lie from 0 to 2^58 − 1"
abbrev pub last_whole : ℕ
last_whole = 2 ^ 58 - 1

-- the first end, in millionths, that cannot be stored: "an end of 2^58 − 1 with a fraction above 0" (document 02, W-205)
abbrev pub end_limit : ℕ
end_limit = last_whole * million + 1

-- the first reading that cannot be stored: "reading below 2^58"
abbrev pub reading_limit : ℕ
reading_limit = 2 ^ 58
