use Rattle.std.proofs.Common.{◌≡◌, true, rules, subst}
use Rattle.std.specs.Prelude.{is_some}
use Rattle.service.proofs.ServiceLemmas.{gives_too_slow}
use Rattle.service.proofs.service.Service.answered.Goals as goal

pub returns-in-None-clause-some : goal.returns-in-None-clause-some
returns-in-None-clause-some g c =
    let timed : is_some c.self.inside.search_ms ≡ true = search rules in
    gives_too_slow c.in_ok-place.place c.args.self.now c.refuse_at.result c.refuse_at.new.self
    (subst (λ s. s.limits.timed ≡ true) c.self.view_is timed) c.refuse_at.ensures
