use Rattle.names.specs.Contents.{is_one_of}
use Rattle.names.proofs.NumberLemmas.{same_chosen}
use Rattle.names.proofs.chunk.Chunk.near.Goals as goal

pub returns-clause-same : goal.returns-clause-same
returns-clause-same c =
    same_chosen (is_one_of c.between.result.now) (is_one_of c.args.numbers.now) c.range-oldest.result.0 c.range-oldest.result.1 c.args.self.now c.range-oldest.ensures
    c.between.ensures.same
