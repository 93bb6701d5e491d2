use Rattle.std.proofs.lemmas.List.Elements.{All-rest}
use Rattle.views.specs.Places.{IsPlaced}
use Rattle.views.proofs.places.LinesIterator.next.Goals as goal

pub invariant_of-self : goal.invariant_of-self
invariant_of-self c =
    All-rest (IsPlaced c.self.inside.documents.now) c.in_ok-place.place.now c.in_ok-place.others.now c.self.inside.places.now
    c.in_ok-place.ensures.cases.0 c.self.invariant
