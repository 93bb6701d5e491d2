use Rattle.service.proofs.ServiceLemmas.{gives_after, gives_memory}
use Rattle.service.proofs.service.Service.close_here.Goals as goal

pub returns-in-None-clause-gives : goal.returns-in-None-clause-gives
returns-in-None-clause-gives g c =
    gives_after _ _ _ _ c.in-None.ensures.none (gives_memory c.args.place _ c.refuse_at.result c.refuse_at.new.self c.refuse_at.ensures)
