use Rattle.std.proofs.Common.{◌++◌, [], get_or, sym, ◌∙◌, ap}
use Rattle.std.specs.Arc.{arc_value}
use Rattle.prefixes.specs.Under.{is_under_one}
use Rattle.names.proofs.ChunkLemmas.{chunk_name}
use Rattle.names.proofs.chunk.Chunk.is_under.Goals as goal

pub returns : goal.returns
returns c = λ yes at d inside.
    ap (is_under_one c.args.under.now)
    (chunk_name c.self.inside c.args.self.now c.self.invariant.chunk c.self.view_is at d inside
    ∙ ap (λ p. p ++ get_or (arc_value c.self.inside.body).suffixes at []) (sym c.as_slice.ensures.value))
    ∙ c.has_all.ensures yes (get_or (arc_value c.self.inside.body).suffixes at [])
