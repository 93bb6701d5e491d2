use Rattle.std.proofs.Common.{sym, ◌∙◌}
use Rattle.segments.proofs.Searching.{numbers_below-none, numbers_below-more}
use Rattle.segments.proofs.within.places_below.Goals as goal

pub loop-place-init : goal.loop-place-init
loop-place-init g c = c.in_ok-places.ensures.items ∙ sym numbers_below-none

pub loop-place-preserved : goal.loop-place-preserved
loop-place-preserved g c = rw (c.in_ok-push.ensures.items, c.loop-place.invariant, numbers_below-more c.loop-place.place)
