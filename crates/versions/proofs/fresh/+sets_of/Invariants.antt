use Prim.Native.Nat.{◌+◌, ◌*◌}
use Rattle.versions.proofs.fresh.+sets_of.Given as goal

abbrev pub decreases-sets_of : goal.decreases-sets_of
decreases-sets_of g l = 2 * l.parts

abbrev pub decreases-one : goal.decreases-one
decreases-one g l = 2 * l.low + 1

abbrev pub decreases-other : goal.decreases-other
decreases-other g l = 2 * l.high + 1
