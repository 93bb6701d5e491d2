use Rattle.script.proofs.OneReading.{one_reading}
use Rattle.script.proofs.laws.items_are_one.Goals as goal

pub returns : goal.returns
returns c = one_reading
