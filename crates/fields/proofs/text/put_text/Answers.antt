-- `fields::text::put_text` meets its contract: the text stands in place of as many bytes (`copied` of `proofs.DecimalLaws`). Assumes nothing.
use Rattle.std.proofs.Common.{arith}
use Rattle.fields.proofs.DecimalLaws.{copied}
use Rattle.fields.proofs.text.put_text.Goals as goal

pub returns-clause-out_after : goal.returns-clause-out_after
returns-clause-out_after c = copied _ _ _ _ _ (omega arith) c.copy_from_slice.ensures.after c.requires
