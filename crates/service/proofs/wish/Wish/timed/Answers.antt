use Rattle.std.proofs.Common.{subst, sym}
use Rattle.views.specs.ShownOf.{IsShownOf}
use Rattle.service.proofs.wish.Wish.timed.Goals as goal

pub returns-in-Some : goal.returns-in-Some
returns-in-Some g c = λ state request is.
    subst (IsShownOf state request) (sym c.with_times.ensures) (c.times_show_nothing.ensures state request _ c.in-Some.times is)

pub returns-in-None : goal.returns-in-None
returns-in-None g c = λ state request is. is
