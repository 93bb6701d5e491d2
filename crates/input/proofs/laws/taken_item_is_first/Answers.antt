use Rattle.input.proofs.LawLemmas.{first_item}
use Rattle.input.proofs.laws.taken_item_is_first.Goals as goal

pub returns : goal.returns
returns c = first_item
