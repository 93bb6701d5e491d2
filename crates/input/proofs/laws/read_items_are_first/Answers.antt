use Rattle.input.proofs.ReadLawLemmas.{all_items, first_items}
use Rattle.input.proofs.laws.read_items_are_first.Goals as goal

pub returns-clause-first : goal.returns-clause-first
returns-clause-first c = first_items

pub returns-clause-all : goal.returns-clause-all
returns-clause-all c = all_items
