-- The numbers of the refusals (document 01, "Who can cause which refusal"; 40 to 42 are document 02's). Assumes nothing: these are definitions.
use Rattle.std.specs.Prelude.{ℕ, Result, Ok, Err}
use Rattle.refusals.specs.declared.Refusal.{Refusal}
use Rattle.refusals.specs.declared.Refusal.TheVariants.{OwnName, Drift, Reading, WordCount, Form, Head, Length, Kind, Check, Interval, Terms, Sender}
use Rattle.refusals.specs.declared.Refusal.TheVariants.{Backwards, Delay, Limit, Position, Buffer, StateForm, End, TermCount, TooMany, Readings}
use Rattle.refusals.specs.declared.Refusal.TheVariants.{OwnEpoch, Epochs}

abbrev pub number_of : Refusal → ℕ
number_of OwnName = 1
number_of Drift = 2
number_of Reading = 3
number_of WordCount = 10
number_of Form = 11
number_of Head = 12
number_of Length = 13
number_of Kind = 14
number_of Check = 15
number_of Interval = 16
number_of Terms = 17
number_of Sender = 18
number_of Backwards = 20
number_of Delay = 21
number_of Limit = 22
number_of Position = 23
number_of Buffer = 24
number_of StateForm = 25
number_of End = 30
number_of TermCount = 31
number_of TooMany = 32
number_of Readings = 40
number_of OwnEpoch = 41
number_of Epochs = 42

-- "A refusal is its number alone. 0 means taken."
abbrev pub number : Result (Unit {0}) Refusal → ℕ
number (Ok taken) = 0
number (Err refusal) = number_of refusal
