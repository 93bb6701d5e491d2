use Rattle.std.proofs.Common.{◌≡◌, true, rules, subst}
use Rattle.std.specs.Prelude.{is_some}
use Rattle.service.proofs.ServiceLemmas.{gives_memory, gives_too_slow}
use Rattle.service.proofs.service.Service.give_up.Goals as goal

pub returns-then-is_some-clause-gives : goal.returns-then-is_some-clause-gives
returns-then-is_some-clause-gives g c =
    let timed : is_some c.self.inside.search_ms ≡ true = search rules in
    gives_too_slow c.args.place c.args.self.now c.refuse_at.result c.refuse_at.new.self
    (subst (λ s. s.limits.timed ≡ true) c.self.view_is timed) c.refuse_at.ensures

pub returns-clause-gives : goal.returns-clause-gives
returns-clause-gives g c = gives_memory c.args.place c.args.self.now _ _ c.refuse_at-2.ensures
