use Rattle.steps.proofs.EarlierLemmas.{earlier_items, earlier_lines}
use Rattle.steps.proofs.laws.earlier_items_come_first.Goals as goal

pub returns-clause-taken : goal.returns-clause-taken
returns-clause-taken g c =
    λ limits readers from items entries s first run before search after e front entry back e' its.
    earlier_items g.H.Holding.holds limits readers from first run before search after e front entry back e' its

pub returns-clause-lines : goal.returns-clause-lines
returns-clause-lines g c =
    λ limits readers from items entries s first run before search after e front entry back e' its.
    earlier_lines g.H.Holding.holds limits readers from before front
    (earlier_items g.H.Holding.holds limits readers from first run before search after e front entry back e' its)
