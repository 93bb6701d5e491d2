use Rattle.std.proofs.Common.{refl, ap, subst, List}
use mathlib.Core.List.{IsPrefix}
use Rattle.history.proofs.Beginnings.{begins_by}
use Rattle.history.proofs.Front.begins.Goals as goal

pub returns : goal.returns
returns g c =
    let both = c.learn.new.self.log in
    let this : IsPrefix c.self.inside.seen.log both = subst (λ l. IsPrefix l both) (ap (λ s. s.log) c.again-both.ensures) c.learn.ensures.2 in
    rw (← c.self.view_is, ← c.other.view_is)
    (begins_by c.self.inside.seen.log c.other.inside.seen.log both c.self.inside.count c.other.inside.count this c.learn.ensures.3
    c.self.invariant c.other.invariant _ refl)
