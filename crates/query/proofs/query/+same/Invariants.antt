use Rattle.std.proofs.Common.{◌≡◌, map, take}
use Rattle.query.specs.Query.{formula_of}
use Rattle.query.proofs.query.+same.Given as goal

abbrev pub invariant-are_same-loop-i : goal.invariant-are_same-loop-i
invariant-are_same-loop-i l = map formula_of (take l.i l.ones) ≡ map formula_of (take l.i l.others)
