use Rattle.std.proofs.Common.{ℕ, length}
use Rattle.std.specs.Prelude.{Contains}
use Rattle.service.proofs.service.forget_below.Given as goal

abbrev pub invariant-loop-version : goal.invariant-loop-version
invariant-loop-version l = (version : ℕ) → Contains l.kept.items version → Contains l.fn.kept.items version

abbrev pub decreases-loop-version : goal.decreases-loop-version
decreases-loop-version l = length l.kept.items
