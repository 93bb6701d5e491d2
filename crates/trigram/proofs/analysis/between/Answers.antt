use Rattle.std.proofs.Common.{arith}
use Rattle.std.proofs.lemmas.Bool.Decides.{nat_tests}
use Rattle.std.proofs.lemmas.Result.{IfOk-weaker}
use Rattle.trigram.specs.Private.Values.{shown_analysis}
use Rattle.trigram.proofs.AnalysisLemmas.{between_stands}
use Rattle.trigram.proofs.analysis.between.Goals as goal

pub returns : goal.returns
returns c =
    IfOk-weaker c.both.result _ _ (λ analysis h.
    between_stands (shown_analysis c.args.one) c.args.least c.args.most c.saturating_sub.result c.in_ok-copy.copy c.in_ok-prefix.prefix
    c.in_ok-suffix.suffix analysis (grind (arith, nat_tests)) (grind (arith, nat_tests)) (grind arith) c.in_ok-copy.ensures
    c.in_ok-prefix.ensures c.in_ok-suffix.ensures h) c.both.ensures
