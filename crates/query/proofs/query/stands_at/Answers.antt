use Rattle.std.proofs.Common.{map, ap, sym, ◌∙◌, arith}
use Rattle.std.proofs.lemmas.List.{length-map, get_or-map, get_or_read}
use Rattle.query.specs.Query.{formula_of}
use Rattle.query.proofs.QueryLemmas.{stands_already}
use Rattle.query.proofs.query.stands_at.Goals as goal

pub returns-then-place-members : goal.returns-then-place-members
returns-then-place-members c = λ yes set.
    stands_already (map formula_of c.args.members.now) c.args.place (formula_of c.args.query.now)
    (omega (arith, length-map c.args.members.now formula_of, c.if-place-members.true))
    (get_or-map formula_of c.args.members.now c.args.place c.args.query.now (formula_of c.args.query.now) c.if-place-members.true
    ∙ ap formula_of
    (sym (get_or_read c.args.members.now c.args.place c.index-members-place.result c.if-place-members.true c.index-members-place.is
    c.args.query.now)) ∙ c.is_same.ensures yes) set
