-- All lines so far have been skipped. Each raises the number, which fits in 32 bits.
use Rattle.std.proofs.Common.{ℕ, ◌-◌, List}
use Rattle.std.specs.Io.KnownBytes.{Consumes}
use Rattle.input.specs.Private.Lines.{Skips}
use Rattle.input.proofs.line.next_line.Given as goal

abbrev pub invariant-loop-closed : goal.invariant-loop-closed
invariant-loop-closed g l =
    (skipped : List ℕ) × Consumes (g.I.Read.remaining l.initial.input) (g.I.Read.remaining l.input) skipped × Skips l.first skipped l.line

abbrev pub decreases-loop-closed : goal.decreases-loop-closed
decreases-loop-closed g l = 4294967296 - l.line
