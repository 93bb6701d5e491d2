use Rattle.std.proofs.Common.{◌-◌, length, take, drop, ap, ◌∙◌}
use Rattle.names.specs.Private.Entries.{joined}
use Rattle.names.proofs.PartLemmas.{joined-push}
use Rattle.names.proofs.BuilderLemmas.{add_step}
use Rattle.names.proofs.builder.push_all.Goals as goal

pub loop-chunk-preserved : goal.loop-chunk-preserved
loop-chunk-preserved c =
    add_step (joined c.reserve.new.self.items) (joined c.loop-chunk.chunks.items) (joined c.push-in-loop-chunk.new.self.items)
    (take (length c.args.more.now - 1) (drop 1 c.args.more.now)) c.loop-chunk.chunk-index c.chunk-item.result c.in_ok-own.own c.loop-chunk-test.true c.chunk-item.is
    c.loop-chunk.invariant c.in_ok-own.ensures (ap joined c.in_ok-push-2.ensures.items ∙ joined-push c.loop-chunk.chunks.items c.in_ok-own.own)
