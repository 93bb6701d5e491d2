use Rattle.matcher.proofs.Shifting.{step_is}
use Rattle.matcher.proofs.words.step.Goals as goal

pub returns : goal.returns
returns c = step_is c.args.line.now c.args.members.now c.args.from.now c.shift.new.words c.shift.ensures.moved
