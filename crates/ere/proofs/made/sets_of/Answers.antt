use Rattle.ere.proofs.LiteralLemmas.{sets_more}
use Rattle.ere.proofs.made.sets_of.Goals as goal

pub loop-byte-preserved : goal.loop-byte-preserved
loop-byte-preserved c =
    sets_more c.args.case c.args.text.now c.loop-byte.byte-index c.loop-byte.sets.items c.push.new.self.items c.single_in.result c.loop-byte-test.true
    c.loop-byte.invariant c.single_in.ensures c.in_ok-push.ensures.items
