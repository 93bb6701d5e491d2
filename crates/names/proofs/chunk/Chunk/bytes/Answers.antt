use Rattle.std.proofs.Common.{ap, ◌∙◌}
use Rattle.std.specs.Arc.{arc_value}
use Rattle.names.specs.declared.chunk.Body.{Body}
use Rattle.names.proofs.PairLemmas.{view_bytes}
use Rattle.names.proofs.ChunkLemmas.{names_of}
use Rattle.names.proofs.chunk.Chunk.bytes.Goals as goal

pub returns : goal.returns
returns c =
    let body = arc_value c.self.inside.body in
    ap (λ (b : Body). b.bytes) c.deref.ensures
    ∙ view_bytes (names_of c.self.inside) body.contents body.bytes c.args.self.now c.self.invariant.chunk c.self.view_is
