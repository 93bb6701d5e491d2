use Rattle.std.proofs.Common.{ap, ◌∙◌, ◌&&◌, arith}
use Rattle.std.proofs.lemmas.Result.{IfOk-weaker}
use Rattle.query.specs.Query.{formula_of, is_met}
use Rattle.trigram.specs.Texts.{has_all_of_one}
use Rattle.trigram.specs.Private.Values.{texts_of}
use Rattle.trigram.proofs.AnalysisLemmas.{both_loose_stands}
use Rattle.trigram.proofs.analysis.both_loose.Goals as goal

pub returns : goal.returns
returns c =
    IfOk-weaker c.settle_loose.result _ _ (λ ends h.
    both_loose_stands c.args.left.nullable c.args.right.nullable _ (texts_of c.args.left.prefixes.items)
    (texts_of c.args.left.suffixes.items) (texts_of c.args.right.prefixes.items) (texts_of c.args.right.suffixes.items)
    (texts_of c.in_ok-prefixes.prefixes.items) (texts_of c.in_ok-suffixes.suffixes.items) (is_met (formula_of c.args.left.condition))
    (is_met (formula_of c.args.right.condition)) (is_met (formula_of c.in_ok-condition.condition)) ends (grind arith) (grind arith)
    (grind arith) (λ set.
    c.in_ok-condition.ensures.met set
    ∙ ap (λ b. is_met (formula_of c.args.left.condition) set && b)
    (c.in_ok-after.ensures.met set
    ∙ ap (λ b. is_met (formula_of c.args.right.condition) set && b)
    (c.in_ok-across.ensures.met set ∙ ap (λ ts. has_all_of_one ts set) (grind arith)))) h)
    c.settle_loose.ensures
