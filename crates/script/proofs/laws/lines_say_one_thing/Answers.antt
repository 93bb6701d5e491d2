use Rattle.script.proofs.OneReading.{one_saying}
use Rattle.script.proofs.laws.lines_say_one_thing.Goals as goal

pub returns : goal.returns
returns c = one_saying
