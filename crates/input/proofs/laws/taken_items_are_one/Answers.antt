use Rattle.input.proofs.LawLemmas.{has_an_item, one_item, one_next_line}
use Rattle.input.proofs.laws.taken_items_are_one.Goals as goal

pub returns-clause-item : goal.returns-clause-item
returns-clause-item c = one_item

pub returns-clause-next : goal.returns-clause-next
returns-clause-next c = one_next_line

pub returns-clause-some : goal.returns-clause-some
returns-clause-some c = has_an_item
