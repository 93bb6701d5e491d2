use Rattle.std.proofs.Common.{◌<◌, ◌++◌, [], length, get_or, ◌∙◌, ap, sym, subst}
use Rattle.std.specs.Arc.{arc_value}
use Rattle.names.specs.declared.chunk.Body.{Body}
use Rattle.names.proofs.ChunkLemmas.{chunk_suffix, chunk_name}
use Rattle.names.proofs.chunk.Chunk.name.Goals as goal

pub at-requires : goal.at-requires
at-requires c =
    subst (λ (b : Body). c.args.at < length b.suffixes) (sym c.deref.ensures)
    (chunk_suffix c.self.inside c.args.self.now c.self.invariant.chunk c.self.view_is c.args.at c.requires)

pub returns : goal.returns
returns c = λ d.
    chunk_name c.self.inside c.args.self.now c.self.invariant.chunk c.self.view_is c.args.at d c.requires
    ∙ (ap (λ p. p ++ get_or (arc_value c.self.inside.body).suffixes c.args.at []) (sym c.as_slice.ensures.value)
    ∙ ap (λ s. c.as_slice.result.now ++ s) (sym (c.at.ensures ∙ ap (λ (b : Body). get_or b.suffixes c.args.at []) c.deref.ensures)))
