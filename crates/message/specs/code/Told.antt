-- Definitions that serve the code alone: no statement of document 01 cites this file.
-- What the code hands back, in document 01's words. Assumes nothing: these are definitions.
use Rattle.std.specs.Prelude.{ℕ, Bool, cond, List, length, Option, Some, None, Result, Ok, Err}
use Rattle.refusals.specs.declared.Refusal.{Refusal}
use Rattle.refusals.specs.declared.Refusal.TheVariants.{Form}
use Rattle.refusals.specs.Refusals.{number_of}
use Rattle.message.specs.declared.read.Ends.{Ends}
use Rattle.message.specs.declared.Message.{Message as Parts}
use Rattle.message.specs.Read.{Interval, Span, Bad, Reading, Message, Refused, opens, is_ends}

-- the interval, or none
abbrev pub interval_of : Option Ends → Interval
interval_of (Some ends) = Span ends.left ends.right
interval_of None = Bad

-- whether the word at place `at` opens ends form; 11 where it opens no form
abbrev pub form_of : ℕ → List ℕ → Result Bool Refusal
form_of at ws = cond (opens at ws) (Ok (is_ends at ws)) (Err Form)

-- the reading, as which document 01 knows a message or its refusal
abbrev pub reading_of : Result Parts Refusal → Reading
reading_of (Ok m) = Message m.sender m.left m.right (length m.terms.now)
reading_of (Err refusal) = Refused (number_of refusal)
