use Rattle.prepare.specs.Tests.{test_of}
use Rattle.search.proofs.TestLemmas.{passes_found, passes_not_found}
use Rattle.search.proofs.way.passes.Goals as goal

pub returns-then-test-clause-passes : goal.returns-then-test-clause-passes
returns-then-test-clause-passes g c =
    passes_not_found (test_of c.args.test.now) c.in_ok-found.found c.args.line.now c.if-test.true c.in_ok-found.ensures.found

pub returns-clause-passes : goal.returns-clause-passes
returns-clause-passes g c =
    passes_found (test_of c.args.test.now) c.in_ok-found.found c.args.line.now c.if-test.false c.in_ok-found.ensures.found
