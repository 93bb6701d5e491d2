use Rattle.tsearch.proofs.AheadLemmas.{begun_more, begun_in_part}
use Rattle.event_loop.proofs.ServingLemmas.{on_err}
use Rattle.tsearch.proofs.written.WrittenSink.begin.Goals as goal

pub returns-in_err-write_last-clause-err : goal.returns-in_err-write_last-clause-err
returns-in_err-write_last-clause-err g c =
    on_err c.from_residual.result _
    (λ first start entry one is.
    begun_in_part c.args.ahead _ _ _ is.2 c.as_slice-beginning.result.now c.as_slice-beginning.ensures c.in_err-write_last.ensures.err first.stats entry one)

pub returns-clause-ok : goal.returns-clause-ok
returns-clause-ok g c = λ first start is. (
  is.0,
  is.1,
  begun_more c.args.ahead _ _ _ is.2 c.as_slice-beginning.result.now c.as_slice-beginning.ensures c.in_ok-write_last.ensures.ok,
)
