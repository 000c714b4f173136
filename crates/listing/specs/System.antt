-- What the program makes of the calls of the system: `read` and `write` return how many bytes they moved, or an error where they failed, whose number
-- says why. Assumes nothing: these are definitions.
use Rattle.std.specs.Prelude.{ℕ, ◌-◌, ◌^◌, ◌<◌, Bool, true, false, ◌&&◌, ◌||◌, List, length, take, T, eqb, ltb, ℤ, pos, negsuc}
use Rattle.std.specs.Prelude.{Option, None, Some, Result, Ok, Err}
use Rattle.std.specs.Io.KnownBytes.{Consumes, IsAtEnd}
use Rattle.std.specs.IoError.{raw_os_error, error_kind}
use Rattle.std.specs.declared.io.Error.{Error}
use Rattle.std.specs.declared.io.ErrorKind.{ErrorKind}
use Rattle.std.specs.declared.io.ErrorKind.TheVariants.{Interrupted, WouldBlock}
use Rattle.listing.specs.declared.system.Call.{Call}

-- ---- what was returned

-- so many bytes were moved
abbrev pub moved_by : Result ℕ ℤ → ℕ
moved_by (Ok n) = n
moved_by (Err e) = 0

-- by `read`: the input has ended
abbrev pub is_end : Result ℕ ℤ → Bool
is_end (Ok n) = eqb n 0
is_end (Err e) = false

-- the call failed
abbrev pub is_failure : Result ℕ ℤ → Bool
is_failure (Ok n) = false
is_failure (Err e) = true

-- the error numbers of a call that may go well the next time: a signal came (EINTR, 4), or no byte can be moved yet (EAGAIN, 11)
abbrev pub is_passing : ℤ → Bool
is_passing (pos n) = eqb n 4 || eqb n 11
is_passing (negsuc n) = false

-- the number that a kind of error stands for where the program asks for it, and else 0
abbrev pub number_of_kind : ErrorKind → ℤ
number_of_kind Interrupted = pos 4
number_of_kind WouldBlock = pos 11
number_of_kind _ = pos 0

-- the number of an error: the system's own, or for an error that has none the number of its kind
abbrev pub error_number : Error → ℤ
error_number e = elim (raw_os_error e) [ None ↦ number_of_kind (error_kind e) | Some n ↦ n ]

-- what a call returned, with the number of its error
abbrev pub returned : Result ℕ Error → Result ℕ ℤ
returned (Ok n) = Ok n
returned (Err e) = Err (error_number e)

-- a call that returned this may go well the next time
abbrev pub tries_again : Result ℕ ℤ → Bool
tries_again (Ok n) = false
tries_again (Err e) = is_passing e

-- ---- one call after the other

-- so many calls for the same bytes may move nothing: a proved loop has to end, and nothing says that the signals do
abbrev pub tries_most : ℕ
tries_most = 2 ^ 64 - 1

-- a call is made again
unfoldable pub is_repeated : Call → Bool
is_repeated c = ltb c.tries tries_most && tries_again c.got

-- the bytes that are left are tried: the call moved some, or is made again
unfoldable pub goes_on : Call → Bool
goes_on c = ltb c.tries tries_most && (ltb 0 (moved_by c.got) || tries_again c.got)

-- ---- the bytes that a call moves, where they are known

-- a read put the bytes that it moved at the start of buf. They are taken from the reader's known bytes, which end where the read found the end
pub record Takes (old new : Option (List ℕ)) (c : Call) (buf : List ℕ) : Type 0 where
  pub taken : Consumes old new (take (moved_by c.got) buf)
  pub ended : T (is_end c.got) → 0 < length buf → IsAtEnd new
