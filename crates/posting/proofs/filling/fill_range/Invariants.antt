use Rattle.std.proofs.Common.{◌≡◌, ◌++◌}
use Rattle.std.specs.Vec.Iter.{into_iter_items}
use Rattle.posting.specs.Private.Parts.{Moves, is_left}
use Rattle.posting.proofs.filling.fill_range.Given as goal

abbrev pub invariant-loop-left : goal.invariant-loop-left
invariant-loop-left l = record {
  passed : l.fn.lefts.items ≡ l.yielded ++ into_iter_items l.left-iterator;
  moved : Moves l.first l.initial.parts l.parts (is_left l.yielded) (is_left l.rest.items);
}
