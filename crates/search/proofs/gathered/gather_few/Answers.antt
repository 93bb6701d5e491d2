use Rattle.std.proofs.Common.{arith}
use Rattle.ere.specs.Tree.{form}
use Rattle.search.proofs.WayLemmas.{finds_by_matcher}
use Rattle.search.proofs.gathered.gather_few.Goals as goal

pub gather_by-requires-clause-way : goal.gather_by-requires-clause-way
gather_by-requires-clause-way g c =
    finds_by_matcher (form c.args.wanted.now.prepared.now.line.tree) (c.few_documents-few.ensures.quick (omega (arith, c.if-few-eq0.false)))
