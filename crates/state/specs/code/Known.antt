-- Definitions that serve the code alone: no statement of document 01 cites this file.
-- The failure knowledge as the struct of flat arrays (document 01, "Which language form to use"). Assumes nothing: these are definitions.
use Rattle.std.specs.Prelude.{◌*◌}
use Rattle.state.specs.Layout.{zeros, entries_most, entry_terms}
use Rattle.state.specs.declared.knowledge.Knowledge.{Knowledge}

-- "the 512 entry masks of a fresh state are all zero"
unfoldable pub nothing_known : Knowledge
nothing_known = record { count = 0; counts = zeros entries_most; masks = zeros (entries_most * entry_terms) }
