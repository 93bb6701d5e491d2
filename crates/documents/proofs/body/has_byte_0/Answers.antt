use Rattle.documents.proofs.LineLemmas.{has_byte_0-memchr}
use Rattle.std.proofs.Common.{◌∙◌}
use Rattle.documents.proofs.body.has_byte_0.Goals as goal

pub returns : goal.returns
returns c = c.is_some.ensures ∙ has_byte_0-memchr c.args.bytes.now c.memchr.result c.memchr.ensures
