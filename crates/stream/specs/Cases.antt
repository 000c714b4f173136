-- Inputs and what they must print: how an input is cut into lines, and what its end yields. Each row is an equation with a text that is written out.
-- Assumes nothing: these are definitions.
use Prim.Native.String.{String}
use Rattle.std.specs.Prelude.{◌≡◌, List, [], ◌∷◌}
use Rattle.predicates.specs.Lists.{In}
use Rattle.lines.specs.Cases.{ascii}
use Rattle.stream.specs.Listing.{listing_of}

-- an input, and all that it must print
pub record InputCase : Type 0 where
  pub input : String
  pub prints : String

abbrev pub input_case : String → String → InputCase
input_case input prints = record { input = input; prints = prints }

abbrev pub InputComes : InputCase → Type 0
InputComes c = listing_of (ascii c.input) ≡ ascii c.prints

-- no line; empty lines; last lines with and without a line feed. No `set` is taken here: behind one each line would be computed on the 5,393 bytes of
-- a state, which takes too long; what the lines of document 01's listing answer is a table of `runs`, computed on the states that the bytes hold
unfoldable pub inputs : List InputCase
inputs =
    input_case "" ""
    ∷ input_case "\n" "bad line\n"
    ∷ input_case "x" "bad line\n"
    ∷ input_case "x\n" "bad line\n"
    ∷ input_case "\n\nx" "bad line\nbad line\nbad line\n"
    ∷ input_case "ask 0\nfewest" "bad line\nbad line\n"
    ∷ []

-- each input prints its text
unfoldable pub EachInput : Type 0
EachInput = (c : InputCase) → In c inputs → InputComes c
