use Rattle.std.proofs.Common.{◌<◌, length, arith}
use Rattle.names.specs.Contents.{entry_of}
use Rattle.names.proofs.NamedLemmas.{entries_next}
use Rattle.names.proofs.chunk.Chunk.push_entries.Goals as goal

pub loop-at-preserved : goal.loop-at-preserved
loop-at-preserved c =
    let before = c.loop-at-test.true in
    let long = c.len-at-end.ensures.len in
    let inside : c.loop-at.at < length c.args.self.now = omega (arith, before, long) in
    entries_next c.args.found.now.items c.loop-at.found.items c.push.new.self.items c.named-named.result c.args.self.now c.loop-at.at inside c.loop-at.invariant
    c.in_ok-push.ensures.items (c.named-named.ensures (entry_of c.named-named.result))
