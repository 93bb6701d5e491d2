use Prim.Native.Nat.{◌+◌, ◌*◌}
use Rattle.posting.proofs.filling.+fill_parts.Given as goal

abbrev pub decreases-fill_parts : goal.decreases-fill_parts
decreases-fill_parts g l = 2 * l.threads

abbrev pub decreases-below : goal.decreases-below
decreases-below g l = 2 * l.low + 1

abbrev pub decreases-above : goal.decreases-above
decreases-above g l = 2 * l.high + 1
