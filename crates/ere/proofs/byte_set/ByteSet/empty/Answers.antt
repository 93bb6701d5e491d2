use Rattle.ere.proofs.SetWords.{AreLineBytes-none, values_of_none}
use Rattle.ere.proofs.byte_set.ByteSet.empty.Goals as goal

pub invariant_of-result : goal.invariant_of-result
invariant_of-result c = AreLineBytes-none

pub returns : goal.returns
returns c = values_of_none
