use Rattle.service.proofs.ServiceLemmas.{gives_memory}
use Rattle.service.proofs.service.Service.answer_anew.Goals as goal

pub returns-in_default-clause-gives : goal.returns-in_default-clause-gives
returns-in_default-clause-gives g c = gives_memory c.args.place c.args.self.now c.refuse_at.result c.refuse_at.new.self c.refuse_at.ensures

pub returns-clause-gives : goal.returns-clause-gives
returns-clause-gives g c = gives_memory c.args.place c.args.self.now c.refuse_at-in-Err.result c.refuse_at-in-Err.new.self c.refuse_at-in-Err.ensures
