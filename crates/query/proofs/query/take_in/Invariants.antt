use Rattle.std.proofs.Common.{map}
use Rattle.std.specs.Vec.Iter.{into_iter_items}
use Rattle.query.specs.Query.{formula_of}
use Rattle.query.proofs.QueryLemmas.{IsTakingIn}
use Rattle.query.proofs.query.take_in.Given as goal

abbrev pub invariant-loop-member : goal.invariant-loop-member
invariant-loop-member l =
    IsTakingIn l.fn.connective (map formula_of l.fn.members.items) (map formula_of l.fn.further.items) (map formula_of l.members.items)
    (map formula_of (into_iter_items l.member-iterator))
