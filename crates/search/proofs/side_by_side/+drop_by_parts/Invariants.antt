use Prim.Native.Nat.{◌+◌, ◌*◌}
use Rattle.search.proofs.side_by_side.+drop_by_parts.Given as goal

abbrev pub decreases-drop_by_parts : goal.decreases-drop_by_parts
decreases-drop_by_parts g l = 2 * l.parts

abbrev pub decreases-front : goal.decreases-front
decreases-front g l = 2 * l.low + 1

abbrev pub decreases-back : goal.decreases-back
decreases-back g l = 2 * l.high + 1
