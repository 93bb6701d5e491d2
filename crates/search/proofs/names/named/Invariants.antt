use Rattle.search.specs.Selects.{Selects, IsNamedForAll}
use Rattle.prepare.proofs.TestLemmas.{first_tests}
use Rattle.search.proofs.names.named.Given as goal

abbrev pub invariant-loop-test : goal.invariant-loop-test
invariant-loop-test g l = Selects (IsNamedForAll (first_tests l.prepared.names.items l.test-index)) l.initial.kept.items l.kept.items
