use Rattle.std.proofs.Common.{map}
use Rattle.prepare.specs.Front.{IsFrontOf}
use Rattle.prepare.specs.Tests.{test_of}
use Rattle.prepare.proofs.FrontLemmas.{AreNoLonger}
use Rattle.prepare.proofs.TestLemmas.{first_tests}
use Rattle.prepare.proofs.front.front_of.Given as goal

abbrev pub invariant-loop-test : goal.invariant-loop-test
invariant-loop-test l = record {
  begins : IsFrontOf (map test_of l.tests) l.longest.items;
  longest : AreNoLonger (first_tests l.tests l.test-index) l.longest.items;
}
