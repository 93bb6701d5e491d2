-- The text is what has been taken so far, and has no line feed.
use Rattle.std.specs.Io.KnownBytes.{Consumes}
use Rattle.script.specs.Items.{IsLine}
use Rattle.input.proofs.line.take_line.Given as goal

abbrev pub invariant-loop : goal.invariant-loop
invariant-loop g l = record {
  line : IsLine l.text.items;
  taken : Consumes (g.I.Read.remaining l.initial.input) (g.I.Read.remaining l.input) l.text.items;
}
