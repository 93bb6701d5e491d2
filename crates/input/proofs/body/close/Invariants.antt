-- Nothing has been taken so far.
use Rattle.std.proofs.Common.{[]}
use Rattle.std.specs.Io.KnownBytes.{Consumes}
use Rattle.input.proofs.body.close.Given as goal

abbrev pub invariant-loop : goal.invariant-loop
invariant-loop g l = Consumes (g.I.Read.remaining l.initial.input) (g.I.Read.remaining l.input) []
