use Rattle.transcript.proofs.WriteLemmas.{rest_dropped, written_more}
use Rattle.transcript.proofs.output.write_whole.Goals as goal

pub loop-preserved : goal.loop-preserved
loop-preserved g c = rw rest_dropped (written_more _ _ _ c.args.bytes.now c.loop.rest.now c.in-Ok.count c.loop.invariant c.in-Ok.ensures.ok)
