use Rattle.std.proofs.Common.{map, ap, arith}
use Rattle.std.proofs.lemmas.List.{nil_from_length}
use Rattle.std.specs.Vec.Iter.{into_iter_items}
use Rattle.query.specs.Query.{formula_of}
use Rattle.query.proofs.QueryLemmas.{IsTakingIn-step, IsTakingIn-all, first_parts}
use Rattle.query.proofs.query.take_in.Goals as goal

pub add-requires-clause-further : goal.add-requires-clause-further
add-requires-clause-further c =
    let rest = ap (map formula_of) c.in-Some.ensures.steps.0 in
    first_parts c.args.connective (formula_of c.in-Some.member) (map formula_of (into_iter_items c.next.new.self))
    (rw rest at c.loop-member.invariant.rest_parts)

pub loop-member-preserved : goal.loop-member-preserved
loop-member-preserved c =
    let rest = ap (map formula_of) c.in-Some.ensures.steps.0 in
    IsTakingIn-step c.args.connective (map formula_of c.args.members.now.items) (map formula_of c.args.further.items)
    (map formula_of c.loop-member.members.items) (map formula_of c.add.new.members.items)
    (map formula_of (into_iter_items c.next.new.self)) (formula_of c.in-Some.member) (rw rest at c.loop-member.invariant)
    c.in_ok-add.ensures

pub returns : goal.returns
returns c =
    let rest =
    ap (map formula_of)
    (nil_from_length (into_iter_items c.loop-member.member-iterator)
    (omega (arith, c.loop-member.member-iterator.rest.ok.0, c.in-None.ensures.steps.0))) in
    IsTakingIn-all c.args.connective (map formula_of c.args.members.now.items) (map formula_of c.args.further.items)
    (map formula_of c.loop-member.members.items) (rw rest at c.loop-member.invariant)
