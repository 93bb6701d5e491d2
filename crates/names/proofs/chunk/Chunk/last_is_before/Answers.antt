use Rattle.std.proofs.Common.{◌-◌, arith}
use Rattle.names.specs.Private.Entries.{passes}
use Rattle.names.proofs.PartLemmas.{last_pass}
use Rattle.names.proofs.chunk.Chunk.last_is_before.Goals as goal

pub returns : goal.returns
returns c =
    let len = c.len.ensures.len in
    let some = c.len.ensures.some in
    last_pass (passes c.args.edge c.args.text.now) c.args.self.now (c.len.result - 1) c.is_before.result (omega (arith, len, some)) (omega (arith, len)) c.is_before.ensures
