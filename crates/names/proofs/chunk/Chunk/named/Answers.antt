use Rattle.std.proofs.Common.{sym}
use Rattle.names.proofs.chunk.Chunk.named.Goals as goal

pub returns : goal.returns
returns c = λ d i. (c.name.ensures d i, sym (c.content.ensures d) i)
