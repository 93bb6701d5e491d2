use Rattle.std.proofs.Common.{refl}
use Rattle.steps.proofs.WrittenLemmas.{memory_refusal}
use Rattle.steps.proofs.laws.memory_is_taken.Goals as goal

pub returns : goal.returns
returns g c = λ limits readers s item line s' step. memory_refusal g.H.Holding.holds limits readers s item _ s' line refl step
