use Rattle.request.proofs.Refusals.{one_first_fault}
use Rattle.request.proofs.laws.one_first_fault.Goals as goal

pub returns : goal.returns
returns c = one_first_fault
