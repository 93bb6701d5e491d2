use Rattle.matcher.proofs.Joining.{none_since}
use Rattle.matcher.proofs.words.first_held.Goals as goal

pub loop-i-preserved : goal.loop-i-preserved
loop-i-preserved g c = none_since c.args.words.now c.args.first c.loop-i.i c.loop-i.invariant c.if-words-i-ne0.false
