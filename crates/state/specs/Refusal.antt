-- Refusals of the calls on lent bytes (document 01, "Who can cause which refusal"): a refusal is its number, and the number says what becomes of the
-- bytes. Assumes nothing: these are definitions.
use Rattle.std.specs.Prelude.{ℕ, Bool, not, cond, List, ltb, eqb, length}
use Rattle.numbers.specs.Numbers.{put}
use Rattle.state.specs.Layout.{state_size}
use Rattle.state.specs.Form.{in_form}

-- a test that fails gives its number; else what comes next decides
abbrev pub refuse : Bool → ℕ → ℕ → ℕ
refuse test number next = cond test number next

-- what every call on a lent state tests first, "24 buffer too short; 25 state out of form"; then what comes next decides
unfoldable pub lent : List ℕ → ℕ → ℕ
lent s next = refuse (ltb (length s) state_size) 24 (refuse (not (in_form s)) 25 next)

-- "A refusal is its number alone; state and output stay as they were. 0 means taken.", and then the bytes are stored at the front of the lent ones;
-- "Bytes beyond the state or a written message are untouched."
unfoldable pub after : ℕ → List ℕ → List ℕ → List ℕ
after number bytes s = cond (eqb number 0) (put 0 bytes s) s
