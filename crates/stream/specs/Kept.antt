-- The listing byte by byte: what is kept between two bytes, and what each prints. The statements about a run of the program cite it, since a run
-- takes its input in pieces; law `listing_streamed` of `proofs.ListingLaws` joins it to `specs.Listing`. Assumes nothing: these are definitions.
use Rattle.std.specs.Prelude.{ℕ, ◌+◌, Bool, false, cond, List, [], ◌∷◌, ◌++◌, eqb, length, take, replicate}
use Rattle.state.specs.Layout.{state_size}
use Rattle.lines.specs.Lines.{line_most, LineResult, line_result}

-- what is kept between two bytes: whether a `set` was taken, the state, and the bytes of the line so far
pub record Kept : Type 0 where
  pub begun : Bool
  pub state : List ℕ
  pub line : List ℕ

abbrev pub kept : Bool → List ℕ → List ℕ → Kept
kept begun state line = record { begun = begun; state = state; line = line }

-- before the first byte: no `set` was taken, the state's bytes are zero, and no byte of a line has come
unfoldable pub nothing_kept : Kept
nothing_kept = kept false (replicate state_size 0) []

-- what the line so far gives when it ends
unfoldable pub result_of : Kept → LineResult
result_of k = line_result k.line k.begun k.state

-- what is kept behind a byte: a line feed ends the line. A line above 600 bytes is bad however it goes on, so one byte more is kept
unfoldable pub kept_next : Kept → ℕ → Kept
kept_next k b =
    cond (eqb b 10) (kept (result_of k).begun (result_of k).state []) (kept k.begun k.state (take (line_most + 1) (k.line ++ (b ∷ []))))

-- what a byte prints
unfoldable pub text_next : Kept → ℕ → List ℕ
text_next k b = cond (eqb b 10) (result_of k).text []

-- what is kept behind a list of bytes
unfoldable pub kept_after : Kept → List ℕ → Kept
kept_after k [] = k
kept_after k (b ∷ bs) = kept_after (kept_next k b) bs

-- what the bytes print, one after the other
unfoldable pub text_after : Kept → List ℕ → List ℕ
text_after k [] = []
text_after k (b ∷ bs) = text_next k b ++ text_after (kept_next k b) bs

-- what the end of the input prints: "a last one without a line feed counts if it has bytes"
unfoldable pub last_text : Kept → List ℕ
last_text k = cond (eqb (length k.line) 0) [] (result_of k).text
