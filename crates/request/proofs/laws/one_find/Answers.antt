use Rattle.request.proofs.Refusals.{one_find}
use Rattle.request.proofs.laws.one_find.Goals as goal

pub returns : goal.returns
returns c = one_find
