use Rattle.std.proofs.Common.{arith}
use Rattle.std.specs.Arc.{arc_value}
use Rattle.names.proofs.PairLemmas.{view_length}
use Rattle.names.proofs.ChunkLemmas.{names_of}
use Rattle.names.proofs.chunk.Chunk.first.Goals as goal

pub returns-clause-inside : goal.returns-clause-inside
returns-clause-inside c =
    let body = arc_value c.self.inside.body in
    let some = c.self.invariant.chunk.some in
    omega (arith, some, view_length (names_of c.self.inside) body.contents body.bytes c.args.self.now c.self.invariant.chunk c.self.view_is)
