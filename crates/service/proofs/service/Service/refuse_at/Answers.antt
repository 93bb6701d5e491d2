use Rattle.std.proofs.Common.{◌<◌, ap, length, sym, subst}
use Rattle.service.proofs.ServiceLemmas.{is_refused, after_is_service}
use Rattle.service.proofs.service.Service.refuse_at.Goals as goal

pub returns : goal.returns
returns g c =
    rw (← c.self.view_is)
    (is_refused _ c.args.place _ (subst (λ s. c.args.place < length s.awaited) (sym c.self.view_is) c.requires) c.remove-search.result
    c.remove-search.ensures.value (ap (λ s. s.number) c.search.view_is) _ c.remove-search.ensures.by_index.2 c.give_back.new.self c.args.reason
    c.give_back.ensures)

pub invariant_of-self : goal.invariant_of-self
invariant_of-self g c = (
  c.self.invariant.0,
  c.self.invariant.1,
  c.self.invariant.2,
  after_is_service _ c.args.place _ (subst (λ s. c.args.place < length s.awaited) (sym c.self.view_is) c.requires) c.remove-search.result
      c.remove-search.ensures.value (ap (λ s. s.number) c.search.view_is) _ c.remove-search.ensures.by_index.2 c.give_back.new.self c.self.invariant.3,
  c.self.invariant.4,
)
