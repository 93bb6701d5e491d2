use Rattle.std.proofs.Common.{◌≡◌, ◌++◌}
use Rattle.std.specs.Vec.Iter.{into_iter_items}
use Rattle.posting.specs.Private.Parts.{Grows, Fills, is_left}
use Rattle.posting.proofs.filling.fill_rest.Given as goal

abbrev pub invariant-loop-left : goal.invariant-loop-left
invariant-loop-left l = record {
  passed : l.fn.lefts.items ≡ l.yielded ++ into_iter_items l.left-iterator;
  grown : Grows l.first l.initial.parts l.parts (is_left l.yielded);
  filled : Fills l.first l.parts (is_left l.yielded);
}
