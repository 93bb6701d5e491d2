use Rattle.prepare.specs.Tests.{test_of}
use Rattle.prepare.proofs.RequestLemmas.{any_query, plain_query}
use Rattle.prepare.proofs.requested.query_of.Goals as goal

pub returns-then-line-clause-ok : goal.returns-then-line-clause-ok
returns-then-line-clause-ok c = any_query (test_of c.args.line.now) c.if-line.true

pub returns-in-Ok-clause-ok : goal.returns-in-Ok-clause-ok
returns-in-Ok-clause-ok c = plain_query (test_of c.args.line.now) c.in-Ok.query c.if-line.false c.in-Ok.ensures
