use Rattle.std.proofs.Common.{map}
use Rattle.std.proofs.lemmas.List.{map_push}
use Rattle.query.specs.Query.{formula_of}
use Rattle.query.proofs.QueryLemmas.{HasTakenIn-push, HasTakenIn-again}
use Rattle.query.proofs.query.add.Goals as goal

pub returns-then-is_repeated : goal.returns-then-is_repeated
returns-then-is_repeated c =
    HasTakenIn-again c.args.connective (map formula_of c.args.members.now.items) (formula_of c.args.member) c.requires.old
    (rw c.as_slice.ensures.value at (c.is_repeated.ensures c.if-is_repeated.true))

pub returns : goal.returns
returns c =
    rw (c.in_ok-push.ensures.items, map_push formula_of c.args.members.now.items c.args.member)
    (HasTakenIn-push c.args.connective (map formula_of c.args.members.now.items) (formula_of c.args.member) c.requires.old
    c.requires.further)
