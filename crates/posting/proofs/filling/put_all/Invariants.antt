use Rattle.std.proofs.Common.{◌≡◌, ◌++◌, ◌&&◌, ◌==◌}
use Rattle.posting.specs.ListValue.{has}
use Rattle.posting.specs.Private.Parts.{Grows, Fills}
use Rattle.posting.proofs.filling.put_all.Given as goal

abbrev pub invariant-loop-trigram : goal.invariant-loop-trigram
invariant-loop-trigram l = record {
  passed : l.fn.left.trigrams ≡ l.yielded ++ l.trigram-iterator;
  grown : Grows l.first l.initial.parts l.parts (λ t n. has l.yielded t && l.number == n);
  filled : Fills l.first l.parts (λ t n. has l.yielded t && l.number == n);
}
