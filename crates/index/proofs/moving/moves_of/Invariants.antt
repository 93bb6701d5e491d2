use Rattle.std.proofs.Common.{All}
use Rattle.index.specs.Private.Moving.{IsMove}
use Rattle.index.proofs.moving.moves_of.Given as goal

abbrev pub invariant-loop-name : goal.invariant-loop-name
invariant-loop-name l = All (IsMove l.from l.to l.numbers) l.moves.items
