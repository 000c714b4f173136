-- What a run of the listing has done. No contract can say what the system gave or took, so the program counts the bytes that it read, those that it
-- handed on to be written and those that `write` took, and the counts are tied to the definitions and to the last calls.
-- Assumes nothing: these are definitions.
use Rattle.std.specs.Prelude.{ℕ, ◌≤◌, ◌^◌, ◌≡◌, Bool, ◌||◌, not, cond, Option, List, [], T, ltb, length, take}
use Rattle.std.specs.Io.KnownBytes.{Consumes, Appends, IsAtEnd}
use Rattle.stream.specs.Listing.{listing_of}
use Rattle.stream.specs.Kept.{Kept, nothing_kept, kept_after, text_after}
use Rattle.listing.specs.declared.count.Tally.{Tally}
use Rattle.listing.specs.System.{is_end, is_failure, is_repeated, goes_on}

-- a run reads no further than so many bytes, which no run reaches: a proved loop has to end, and nothing says that the input does
abbrev pub read_most : ℕ
read_most = 2 ^ 56

-- ---- the listing

-- of an input of as many bytes as were read, k is what is kept behind it, and as many bytes were handed on as it prints
pub record Went (read handed : ℕ) (k : Kept) : Type 0 where
  pub input : List ℕ
  pub came : read ≡ length input
  pub keeps : k ≡ kept_after nothing_kept input
  pub prints : handed ≡ length (text_after nothing_kept input)

-- the same at the end of a run: where the input has ended, the whole listing was handed on
pub record Ran (read handed : ℕ) (ended : Bool) : Type 0 where
  pub input : List ℕ
  pub came : read ≡ length input
  pub prints : handed ≡ length (cond ended (listing_of input) (text_after nothing_kept input))

-- ---- the bytes, where a reader's and a writer's are known

-- the run so far: the bytes that were read are taken from the reader's, which end where the input has ended, and of what they print as much as was
-- written is behind the writer's
pub record Passed (reader reader' writer writer' : Option (List ℕ)) (t : Tally) (k : Kept) : Type 0 where
  pub input : List ℕ
  pub came : t.read ≡ length input
  pub keeps : k ≡ kept_after nothing_kept input
  pub prints : t.handed ≡ length (text_after nothing_kept input)
  pub taken : Consumes reader reader' input
  pub ended : T (is_end t.input.got) → IsAtEnd reader'
  pub told : Appends writer writer' (take t.written (text_after nothing_kept input))

-- the same at the end of a run: where the input has ended, the whole listing was handed on
pub record Listed (reader reader' writer writer' : Option (List ℕ)) (t : Tally) : Type 0 where
  pub input : List ℕ
  pub came : t.read ≡ length input
  pub prints : t.handed ≡ length (cond (is_end t.input.got) (listing_of input) (text_after nothing_kept input))
  pub taken : Consumes reader reader' input
  pub ended : T (is_end t.input.got) → IsAtEnd reader'
  pub told : Appends writer writer' (take t.written (cond (is_end t.input.got) (listing_of input) (text_after nothing_kept input)))

-- ---- the last calls

-- output is lost: not all that was handed on is written
abbrev pub is_lost : Tally → Bool
is_lost t = ltb t.written t.handed

-- a run goes no further: the input has ended or cannot be read, or output is lost
abbrev pub stopped : Tally → Bool
stopped t = is_end t.input.got || (is_failure t.input.got || is_lost t)

-- the last read is none that is made again, and output is lost exactly where the last write moved nothing and is not made again
pub record CallsTell (t : Tally) : Type 0 where
  pub tried : T (not (is_repeated t.input))
  pub within : t.written ≤ t.handed
  pub lost : is_lost t ≡ not (goes_on t.output)

-- what a run says at its end: the sentence for lost output, or else for input that could not be read to its end, or nothing
unfoldable pub complaint_of : Tally → List ℕ → List ℕ → List ℕ
complaint_of t unwritten unread = cond (is_lost t) unwritten (cond (is_end t.input.got) [] unread)
