-- Rewriting a live message in ends form (document 02, W-204): "rewriting keeps the epoch words". Assumes nothing: these are definitions.
use Rattle.std.specs.Prelude.{ℕ, List, []}
use Rattle.message.specs.Words.{masks}
use Rattle.message.specs.Read.{term_words}
use Rattle.message.specs.Write.{message_words}
use Rattle.message.specs.Read.{Reading}
use Rattle.message.specs.Read.{Message, Refused}
use Rattle.radio.specs.Read.{read_words, epoch_words}

-- "takes a message and writes it in ends form with the sender, interval and terms it has", and its epoch words; nothing of a refused one
unfoldable pub rewritten_as : Reading → List ℕ → List ℕ
rewritten_as (Refused number) ws = []
rewritten_as (Message sender left right count) ws =
    let got = Message sender left right count in
    message_words sender (epoch_words got ws) left right (masks (term_words got ws))

unfoldable pub rewritten : List ℕ → List ℕ
rewritten ws = rewritten_as (read_words ws) ws
