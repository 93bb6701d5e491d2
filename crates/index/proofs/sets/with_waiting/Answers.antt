use Rattle.std.proofs.Common.{refl, arith, None}
use Rattle.index.proofs.PieceLemmas.{waits_alone, waits_beside, none_before}
use Rattle.index.proofs.sets.with_waiting.Goals as goal

pub returns-in-None-clause-waits : goal.returns-in-None-clause-waits
returns-in-None-clause-waits c = λ t n whole. waits_alone c.args.waiting.now c.args.number t n None c.in-None.is whole

pub returns-in-None-clause-none_left : goal.returns-in-None-clause-none_left
returns-in-None-clause-none_left c = λ t n. none_before c.args.number t n

pub returns-in-Some-clause-waits : goal.returns-in-Some-clause-waits
returns-in-Some-clause-waits c = λ t n whole.
    waits_beside c.args.waiting.now c.in-Some.others c.first.result c.min.result c.args.number t n c.in-Some.is c.first.ensures (omega arith) (omega arith)
    whole

pub returns-in-Some-clause-none_left : goal.returns-in-Some-clause-none_left
returns-in-Some-clause-none_left c = λ t n. refl
