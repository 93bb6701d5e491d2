use Rattle.std.proofs.Common.{◌≤◌, take}
use Rattle.std.specs.Prelude.{All}
use Rattle.versions.proofs.merging.least_of.Given as goal

abbrev pub invariant-loop-at : goal.invariant-loop-at
invariant-loop-at l = All (λ n. l.least ≤ n) (take l.at l.numbers) × (l.least ≤ l.other)
