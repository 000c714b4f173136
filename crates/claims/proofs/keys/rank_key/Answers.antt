-- `claims::keys::rank_key` meets its contract: a rank lies below a microsecond's step.
use Rattle.claims.proofs.KeyLaws.{key_made}
use Rattle.claims.proofs.keys.rank_key.Goals as goal

pub returns : goal.returns
returns c = key_made _ c.args.e _ c.requires.0 c.rank.ensures.0
