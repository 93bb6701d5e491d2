use Rattle.std.proofs.Common.{map, drop}
use Rattle.query.specs.Query.{formula_of}
use Rattle.query.proofs.QueryLemmas.{IsJoinedSoFar}
use Rattle.query.proofs.query.+simplified.Given as goal

abbrev pub invariant-all_simplified-loop-member : goal.invariant-all_simplified-loop-member
invariant-all_simplified-loop-member l =
    IsJoinedSoFar l.connective (map formula_of l.members) (map formula_of (drop l.member-index l.members)) (formula_of l.whole)
