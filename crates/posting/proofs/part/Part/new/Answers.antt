use Rattle.posting.proofs.Widening.{IsSound-none, holds-none}
use Rattle.posting.proofs.part.Part.new.Goals as goal

pub invariant_of-result : goal.invariant_of-result
invariant_of-result c = rw c.new-2.ensures.items (IsSound-none c.new.result c.new.ensures)

pub returns : goal.returns
returns c = holds-none c.new.result c.new-2.result.items c.new.ensures
