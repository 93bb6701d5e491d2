use Rattle.std.proofs.Common.{◌<◌, get_or, ◌∙◌, ap, sym, subst, arith}
use Rattle.std.specs.Prelude.{vec_len}
use Rattle.names.specs.declared.chunk.Body.{Body}
use Rattle.names.proofs.ChunkLemmas.{chunk_count, chunk_content}
use Rattle.names.proofs.chunk.Chunk.content.Goals as goal

pub index-requires : goal.index-requires
index-requires c =
    let count = chunk_count c.self.inside c.args.self.now c.self.invariant.chunk c.self.view_is in
    subst (λ (b : Body). c.args.at < vec_len b.contents) (sym c.deref.ensures) (omega (arith, count))

pub returns : goal.returns
returns c = λ d.
    c.index.ensures
    ∙ (ap (λ (b : Body). get_or b.contents.items c.args.at c.index.result.now) c.deref.ensures
    ∙ sym (chunk_content c.self.inside c.args.self.now c.self.invariant.chunk c.self.view_is c.args.at d c.index.result.now c.requires))
