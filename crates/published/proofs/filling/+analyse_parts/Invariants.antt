use Prim.Native.Nat.{◌+◌, ◌*◌}
use Rattle.published.proofs.filling.+analyse_parts.Given as goal

abbrev pub decreases-analyse_parts : goal.decreases-analyse_parts
decreases-analyse_parts g l = 2 * l.parts

abbrev pub decreases-front : goal.decreases-front
decreases-front g l = 2 * l.low + 1

abbrev pub decreases-back : goal.decreases-back
decreases-back g l = 2 * l.high + 1
