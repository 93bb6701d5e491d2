use Rattle.std.proofs.Common.{◌≡◌, Some, All, length}
use Rattle.left_right.specs.Sides.{view}
use Rattle.desk.proofs.opening.readings.Given as goal

-- The copies stay as they are, and each reading has seen what the front has.
abbrev pub invariant-loop : goal.invariant-loop
invariant-loop l =
    (view l.both.desk.place ≡ Some l.front)
    × (l.both.desk.shown ≡ l.initial.both.desk.shown)
    × (l.both.desk.spare ≡ l.initial.both.desk.spare)
    × (length l.readings.items ≡ l.counter)
    × All (λ reading. reading ≡ l.front) l.readings.items
