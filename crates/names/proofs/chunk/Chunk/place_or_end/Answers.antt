use Rattle.names.specs.Private.Entries.{passes}
use Rattle.names.proofs.PartLemmas.{all_before}
use Rattle.names.proofs.chunk.Chunk.place_or_end.Goals as goal

pub returns-then-last_is_before : goal.returns-then-last_is_before
returns-then-last_is_before c =
    all_before (passes c.args.edge c.args.text.now) c.args.self.now c.len.result c.requires c.if-last_is_before.ensures c.len.ensures.len
