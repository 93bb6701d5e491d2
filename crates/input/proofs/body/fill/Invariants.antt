-- The body is what has been read so far, and is no longer than `size`.
use Rattle.std.proofs.Common.{◌≤◌, length}
use Rattle.std.specs.Io.KnownBytes.{Consumes}
use Rattle.input.proofs.body.fill.Given as goal

abbrev pub invariant-loop : goal.invariant-loop
invariant-loop g l = record {
  within : length l.body.items ≤ l.size;
  taken : Consumes (g.I.Read.remaining l.initial.input) (g.I.Read.remaining l.input) l.body.items;
}
