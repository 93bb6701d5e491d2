use Rattle.std.proofs.Common.{◌≤◌, arith}
use Rattle.std.proofs.lemmas.Bool.Decides.{nat_tests}
use Rattle.std.proofs.lemmas.Result.{IfOk-weaker}
use Rattle.query.specs.Query.{formula_of, is_met}
use Rattle.trigram.specs.Private.Values.{texts_of}
use Rattle.trigram.proofs.AnalysisLemmas.{stands_same, repeated-loose}
use Rattle.trigram.proofs.analysis.at_least.Goals as goal

pub returns-in-Loose : goal.returns-in-Loose
returns-in-Loose c =
    let two : 2 ≤ c.args.least = grind (arith, nat_tests) in
    rw c.in-Loose.is
    (IfOk-weaker c.copies_of.result _ _ (λ analysis h.
    stands_same _ _ analysis
    (repeated-loose c.in-Loose.ends.nullable (texts_of c.in-Loose.ends.prefixes.items) (texts_of c.in-Loose.ends.suffixes.items)
    (is_met (formula_of c.in-Loose.ends.condition)) c.args.least two) h) c.copies_of.ensures)
