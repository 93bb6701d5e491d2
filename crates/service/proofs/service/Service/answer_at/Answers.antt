use Rattle.std.proofs.Common.{◌∙◌, ◌<◌, Some, ap, length, subst, sym}
use Rattle.std.proofs.lemmas.Option.{slice_get-get_or}
use Rattle.service.proofs.ServiceLemmas.{last_can_stand, gives_memory}
use Rattle.service.proofs.service.Service.answer_at.Goals as goal

pub close_here-requires-clause-closes : goal.close_here-requires-clause-closes
close_here-requires-clause-closes g c =
    let within : c.args.place < length c.self.inside.awaited.items = subst (λ s. c.args.place < length s.awaited) (sym c.self.view_is) c.requires in
    last_can_stand _ c.index.result.now c.args.place c.in-Ok.answer c.request.inside.question c.request.inside.prepared c.self.invariant.3
    (slice_get-get_or c.self.inside.awaited.items c.args.place c.index.result.now within ∙ ap Some (sym c.index.ensures))
    (c.if-not-is_same.ensures ∙ ap (λ s. s.item) c.behind-self.view_is) c.request.invariant c.in-Ok.ensures.answer

pub returns-then-not-is_same-clause-gives : goal.returns-then-not-is_same-clause-gives
returns-then-not-is_same-clause-gives g c = gives_memory c.args.place c.args.self.now c.refuse_at.result c.refuse_at.new.self c.refuse_at.ensures

pub returns-in-Ok-clause-gives : goal.returns-in-Ok-clause-gives
returns-in-Ok-clause-gives g c = rw (← c.self.view_is) c.close_here.ensures.gives

pub returns-in-Err-clause-gives : goal.returns-in-Err-clause-gives
returns-in-Err-clause-gives g c = rw (← c.self.view_is) c.give_up.ensures.gives
