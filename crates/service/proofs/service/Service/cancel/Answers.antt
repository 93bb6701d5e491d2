use Rattle.std.proofs.Common.{◌∙◌, ap, subst}
use Rattle.service.specs.Private.Closing.{IsPlaceOf}
use Rattle.service.proofs.ServiceLemmas.{cancelled_at}
use Rattle.service.proofs.service.Service.cancel.Goals as goal

pub returns-in-Some-clause-cancelled : goal.returns-in-Some-clause-cancelled
returns-in-Some-clause-cancelled g c =
    cancelled_at c.args.line c.args.number c.in-Some.place c.args.self.now c.refuse_at.result c.refuse_at.new.self
    (subst (λ l. IsPlaceOf l c.args.number c.in-Some.place) (c.deref.ensures.value ∙ ap (λ s. s.awaited) c.self.view_is) c.in-Some.ensures.some)
    c.refuse_at.ensures
