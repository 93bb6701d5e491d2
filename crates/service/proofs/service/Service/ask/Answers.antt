use Rattle.std.proofs.Common.{subst}
use Rattle.service.specs.Private.Closing.{IsAsked, refused}
use Rattle.service.proofs.service.Service.ask.Goals as goal

pub returns-in-Ok : goal.returns-in-Ok
returns-in-Ok g c = subst (λ i. IsAsked i c.args.self.now c.open.result c.open.new.self) c.in-Ok.ensures.ok c.open.ensures

pub returns-in-Err : goal.returns-in-Err
returns-in-Err g c = refused c.in-Err.reason c.in-Err.ensures.err c.refuse.ensures
