use Rattle.std.proofs.Common.{length}
use Rattle.versions.proofs.fresh.+segments_of.Given as goal

abbrev pub decreases-segments_of : goal.decreases-segments_of
decreases-segments_of = λ l. length l.places.now
