use Rattle.std.proofs.Common.{map, ap, sym, ◌∙◌}
use Rattle.std.proofs.lemmas.Result.{IfOk-weaker}
use Rattle.query.proofs.Forms.{formula_of-Any, formula_of-None, formula_of-Has, formula_of-Pairs, formula_of-And, formula_of-Or}
use Rattle.query.specs.Query.{formula_of}
use Rattle.query.specs.Pairs.{texts_in}
use Rattle.query.specs.Private.Joining.{is_of}
use Rattle.query.proofs.QueryLemmas.{members_itself, members_of_and, members_of_or, not_of_always, not_of_never, not_of_has, not_of_texts}
use Rattle.query.proofs.query.members_of.Goals as goal

pub returns-then-not-is_of : goal.returns-then-not-is_of
returns-then-not-is_of c =
    IfOk-weaker c.only.result _ _ (λ members e.
    rw e (members_itself c.args.connective (formula_of c.args.query) c.requires (sym c.is_of.ensures ∙ c.if-not-is_of.true)))
    c.only.ensures

pub returns-in-And : goal.returns-in-And
returns-in-And c =
    let form = ap formula_of c.in-And.is ∙ formula_of-And c.in-And.members in
    rw form
    (members_of_and c.args.connective (map formula_of c.in-And.members.items) (rw form at c.requires)
    (ap (is_of c.args.connective) (sym form) ∙ sym c.is_of.ensures ∙ c.if-not-is_of.false))

pub returns-in-Or : goal.returns-in-Or
returns-in-Or c =
    let form = ap formula_of c.in-Or.is ∙ formula_of-Or c.in-Or.members in
    rw form
    (members_of_or c.args.connective (map formula_of c.in-Or.members.items) (rw form at c.requires)
    (ap (is_of c.args.connective) (sym form) ∙ sym c.is_of.ensures ∙ c.if-not-is_of.false))

pub returns-in-Any : goal.returns-in-Any
returns-in-Any c =
    absurd
    (not_of_always c.args.connective
    (ap (is_of c.args.connective) (sym (ap formula_of c.in-Any.is ∙ formula_of-Any)) ∙ sym c.is_of.ensures ∙ c.if-not-is_of.false))

pub returns-in-None : goal.returns-in-None
returns-in-None c =
    absurd
    (not_of_never c.args.connective
    (ap (is_of c.args.connective) (sym (ap formula_of c.in-None.is ∙ formula_of-None)) ∙ sym c.is_of.ensures
    ∙ c.if-not-is_of.false))

pub returns-in-Has : goal.returns-in-Has
returns-in-Has c =
    absurd
    (not_of_has c.args.connective c.in-Has.field-0
    (ap (is_of c.args.connective) (sym (ap formula_of c.in-Has.is ∙ formula_of-Has c.in-Has.field-0)) ∙ sym c.is_of.ensures
    ∙ c.if-not-is_of.false))

pub returns-in-Pairs : goal.returns-in-Pairs
returns-in-Pairs c =
    absurd
    (not_of_texts c.args.connective (texts_in c.in-Pairs.pairs.value)
    (ap (is_of c.args.connective) (sym (ap formula_of c.in-Pairs.is ∙ formula_of-Pairs c.in-Pairs.pairs)) ∙ sym c.is_of.ensures
    ∙ c.if-not-is_of.false))
