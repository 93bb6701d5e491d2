use Rattle.std.proofs.Common.{refl}
use Rattle.service.proofs.service.Service.set_aside.Goals as goal

pub returns-then-is_some : goal.returns-then-is_some
returns-then-is_some g c = rw (← c.self.view_is) (record { still = c.set_aside.ensures; left = refl })
