use Rattle.std.proofs.Common.{◌∙◌, ap}
use Rattle.std.specs.Prelude.{vec_len}
use Rattle.names.specs.declared.chunk.Body.{Body}
use Rattle.names.proofs.ChunkLemmas.{chunk_count}
use Rattle.names.proofs.chunk.Chunk.len.Goals as goal

pub returns-clause-len : goal.returns-clause-len
returns-clause-len c =
    c.len.ensures ∙ (ap (λ (b : Body). vec_len b.contents) c.deref.ensures ∙ chunk_count c.self.inside c.args.self.now c.self.invariant.chunk c.self.view_is)
