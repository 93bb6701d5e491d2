use Rattle.posting.specs.Postings.{is_listed}
use Rattle.posting.specs.Private.Parts.{Moves, is_left}
use Rattle.posting.proofs.filling.fill_in_turn.Given as goal

abbrev pub invariant-loop-range : goal.invariant-loop-range
invariant-loop-range l = Moves l.first l.initial.parts l.parts (is_listed l.entries) (is_left l.lefts.items)
