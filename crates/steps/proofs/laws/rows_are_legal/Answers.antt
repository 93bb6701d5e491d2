use Rattle.steps.proofs.StepLemmas.{each_is_legal, are_in_turn}
use Rattle.steps.proofs.laws.rows_are_legal.Goals as goal

pub returns-clause-legal : goal.returns-clause-legal
returns-clause-legal g c = λ limits readers s rows are. each_is_legal g.H.Holding.holds limits readers s rows are

pub returns-clause-in_turn : goal.returns-clause-in_turn
returns-clause-in_turn g c = λ limits readers s rows are. are_in_turn g.H.Holding.holds limits readers s rows are
