use Rattle.tsearch.proofs.EndLemmas.{never_begun}
use Rattle.tsearch.proofs.serving.serve_as.Goals as goal

pub returns-in_default-clause-err : goal.returns-in_default-clause-err
returns-in_default-clause-err g c = never_begun _ c.args.options _ _ _
