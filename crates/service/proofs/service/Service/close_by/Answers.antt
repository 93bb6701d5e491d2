use Rattle.service.proofs.ServiceLemmas.{gives_after}
use Rattle.service.proofs.service.Service.close_by.Goals as goal

pub returns-in-None-clause-gives : goal.returns-in-None-clause-gives
returns-in-None-clause-gives g c = gives_after _ _ _ _ c.in-None.ensures.none c.answer_anew.ensures.gives
