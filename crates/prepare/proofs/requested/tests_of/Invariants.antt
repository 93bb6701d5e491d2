use Rattle.std.proofs.Common.{map, take}
use Rattle.request.specs.Shown.{shown_options}
use Rattle.prepare.specs.Request.{AreTestsOf}
use Rattle.prepare.specs.Tests.{test_of}
use Rattle.prepare.proofs.requested.tests_of.Given as goal

abbrev pub invariant-loop-at : goal.invariant-loop-at
invariant-loop-at l = AreTestsOf l.options.name_case (take l.at (shown_options l.options).names) (map test_of l.tests.items)
