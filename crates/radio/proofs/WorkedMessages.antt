-- Each worked case of the live message comes out as it says, by computation. Assumes nothing.
use mathlib.Core.Path.{◌≡◌, refl}
use mathlib.Core.List.{List, [], ◌∷◌}
use Rattle.names.specs.Sets.{subset, set_union}
use Rattle.predicates.specs.Predicates.{is_normal}
use Rattle.message.specs.Words.{of_kind, masks, word_sum, check}
use Rattle.message.specs.Read.{head_word_fits, is_ends, opens, width, span_kinds, middle, kinds_fit, check_fits, pair, span, with_span}
use Rattle.message.specs.Read.{shape_refusal, contents}
use Rattle.message.specs.Write.{end_words}
use Rattle.radio.specs.Names.{named, wanted, rises, names_fit}
use Rattle.radio.specs.Read.{leading, epoch_count, epoch_part, epoch_words_fit, read_words}
use Rattle.radio.specs.Worked.{Row, rows}

-- a row is true
abbrev pub Comes : Row → Type 0
Comes r = read_words r.words ≡ r.reading

abbrev pub Each : List Row → Type 0
Each [] = Unit {0}
Each (r ∷ rs) = Comes r × Each rs

pub worked : Each rows
unfolding subset set_union is_normal of_kind masks word_sum check head_word_fits is_ends opens width span_kinds middle kinds_fit check_fits pair span with_span
    shape_refusal contents end_words named wanted rises names_fit leading epoch_count epoch_part epoch_words_fit read_words
worked =
    (refl, (refl, (refl, (refl, (refl, (refl, (refl, (refl, (refl, (refl, (refl, (refl, (refl, (refl, (refl, (refl, (refl, (refl, tt))))))))))))))))))
