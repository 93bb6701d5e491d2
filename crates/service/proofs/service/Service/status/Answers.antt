use Rattle.std.proofs.Common.{arith}
use Rattle.service.proofs.service.Service.status.Goals as goal

pub overflow_cast-result : goal.overflow_cast-result
overflow_cast-result g c = omega (arith, c.len.ensures, c.self.invariant.3.few, c.self.ranges.0)
