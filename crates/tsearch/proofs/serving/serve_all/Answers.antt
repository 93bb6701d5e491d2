use Rattle.std.proofs.Common.{ap}
use Rattle.tsearch.proofs.EndLemmas.{is_served, is_broken}
use Rattle.tsearch.proofs.serving.serve_all.Goals as goal

pub returns-in-Ok-clause-ok : goal.returns-in-Ok-clause-ok
returns-in-Ok-clause-ok g c =
    is_served _ c.args.options _ _ (λ w. w.stats) (λ w. w.marks) g.O.Write.contents _ _ _ (ap (λ s. s.limits) c.requires.first) c.new-written.ensures.stats
    c.new-written.ensures.marks _ _ _ _ _ c.status.ensures c.in-Ok.ensures.ok

pub returns-clause-err : goal.returns-clause-err
returns-clause-err g c =
    is_broken _ c.args.options _ _ (λ w. w.stats) (λ w. w.marks) g.O.Write.contents _ _ _ (ap (λ s. s.limits) c.requires.first) c.new-written.ensures.stats
    c.new-written.ensures.marks _ _ _ c.in-Err.ensures.err
