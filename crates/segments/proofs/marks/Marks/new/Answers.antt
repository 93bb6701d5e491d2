use Rattle.std.proofs.Common.{refl}
use Rattle.segments.proofs.Marking.{made_clear}
use Rattle.segments.proofs.marks.Marks.new.Goals as goal

pub invariant_of-result : goal.invariant_of-result
invariant_of-result c = made_clear c.in_ok-bytes.bytes.items 2097152 refl c.in_ok-bytes.ensures

pub returns : goal.returns
returns c = made_clear c.in_ok-bytes.bytes.items 2097152 refl c.in_ok-bytes.ensures
