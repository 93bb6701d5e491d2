use Rattle.std.proofs.Common.{All}
use Rattle.index.specs.Private.Copying.{IsCopy}
use Rattle.index.proofs.copying.some_copies.Given as goal

abbrev pub invariant-loop-name : goal.invariant-loop-name
invariant-loop-name l = All (IsCopy l.from l.to l.numbers) l.copies.items
