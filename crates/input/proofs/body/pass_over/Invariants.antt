-- What has been passed over so far is counted, and is no more than is to be passed over.
use Rattle.std.proofs.Common.{ℕ, ◌≤◌, List}
use Rattle.std.specs.Io.KnownBytes.{Consumes}
use Rattle.input.specs.Private.Bytes.{Counts}
use Rattle.input.proofs.body.pass_over.Given as goal

abbrev pub invariant-loop : goal.invariant-loop
invariant-loop g l =
    (bytes : List ℕ) × Consumes (g.I.Read.remaining l.initial.input) (g.I.Read.remaining l.input) bytes × Counts l.passed bytes
    × (l.passed.count ≤ l.size)
