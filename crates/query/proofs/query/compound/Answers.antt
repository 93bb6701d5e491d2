use Rattle.std.proofs.Common.{map, ap, sym, ◌∙◌, arith, subst}
use Rattle.std.proofs.lemmas.List.{length-map, get_or-map}
use Rattle.query.specs.declared.query.Connective.{Connective}
use Rattle.query.proofs.Forms.{formula_of-And, formula_of-Or}
use Rattle.query.specs.Query.{AreReducedParts, formula_of, formulas_of}
use Rattle.query.specs.Private.Joining.{is_of}
use Rattle.query.proofs.QueryLemmas.{compound_and, compound_or, compound_one}
use Rattle.query.proofs.query.compound.Goals as goal

pub returns-then-len-eq1 : goal.returns-then-len-eq1
returns-then-len-eq1 c =
    compound_one c.args.connective (map formula_of c.args.members.items) (formula_of c.remove.result) c.requires.parts
    (omega (arith, length-map c.args.members.items formula_of, c.args.members.ok.0))
    (ap formula_of c.remove.ensures.value
    ∙ sym (get_or-map formula_of c.args.members.items 0 c.remove.result (formula_of c.remove.result) (omega arith)))

pub returns-in-And : goal.returns-in-And
returns-in-And c =
    rw (c.in-And.is, formula_of-And c.args.members)
    (compound_and (map formula_of c.args.members.items)
    (subst (λ (k : Connective). AreReducedParts (is_of k) (formulas_of (map formula_of c.args.members.items))) c.in-And.is
    c.requires.parts) (omega (arith, length-map c.args.members.items formula_of))
    (λ one. c.if-len-eq1.false (omega (arith, length-map c.args.members.items formula_of, c.args.members.ok.0))))

pub returns-in-Or : goal.returns-in-Or
returns-in-Or c =
    rw (c.in-Or.is, formula_of-Or c.args.members)
    (compound_or (map formula_of c.args.members.items)
    (subst (λ (k : Connective). AreReducedParts (is_of k) (formulas_of (map formula_of c.args.members.items))) c.in-Or.is
    c.requires.parts) (omega (arith, length-map c.args.members.items formula_of))
    (λ one. c.if-len-eq1.false (omega (arith, length-map c.args.members.items formula_of, c.args.members.ok.0))))
