use Prim.Native.Nat.{◌+◌, ◌*◌}
use Rattle.views.proofs.text.+form_lines.Given as goal

abbrev pub decreases-form_lines : goal.decreases-form_lines
decreases-form_lines g l = 2 * l.parts

abbrev pub decreases-front : goal.decreases-front
decreases-front g l = 2 * l.low + 1

abbrev pub decreases-back : goal.decreases-back
decreases-back g l = 2 * l.high + 1
