use Rattle.tsearch.proofs.EndLemmas.{never_begun}
use Rattle.tsearch.proofs.serving.serve.Goals as goal

pub returns-in-Err-clause-err : goal.returns-in-Err-clause-err
returns-in-Err-clause-err g c = never_begun _ c.args.options _ _ _
