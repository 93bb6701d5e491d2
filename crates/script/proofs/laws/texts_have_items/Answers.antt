use Rattle.script.proofs.EveryTextLemmas.{some_items}
use Rattle.script.proofs.laws.texts_have_items.Goals as goal

pub returns : goal.returns
returns c = some_items
