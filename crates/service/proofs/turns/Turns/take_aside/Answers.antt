use Rattle.std.proofs.Common.{◌<◌, length, subst, sym}
use Rattle.service.proofs.TurnsLemmas.{removed_still, removed_gives}
use Rattle.service.proofs.turns.Turns.take_aside.Goals as goal

pub returns-clause-gives : goal.returns-clause-gives
returns-clause-gives c =
    rw (← c.self.view_is)
    (removed_gives _ c.in_ok-place.place
    (subst (λ t. c.in_ok-place.place < length t.aside) (sym c.self.view_is) c.in_ok-place.ensures) c.remove-aside.result
    c.remove-aside.ensures.value _ c.remove-aside.ensures.by_index.2)

pub returns-clause-still : goal.returns-clause-still
returns-clause-still c =
    rw (← c.self.view_is)
    (removed_still _ c.in_ok-place.place
    (subst (λ t. c.in_ok-place.place < length t.aside) (sym c.self.view_is) c.in_ok-place.ensures) c.remove-aside.result
    c.remove-aside.ensures.value _ c.remove-aside.ensures.by_index.2)
