use Rattle.matcher.proofs.Flooding.{has_flooded}
use Rattle.matcher.proofs.words.flooded.Goals as goal

pub returns : goal.returns
returns c = λ b inside. has_flooded c.args.word c.args.passing b inside
