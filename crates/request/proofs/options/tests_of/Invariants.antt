use Rattle.std.proofs.Common.{◌≡◌, map, take}
use Rattle.std.specs.List.{filter_map}
use Rattle.request.specs.Find.{test_in}
use Rattle.request.specs.Private.Kept.{shown_argument}
use Rattle.request.specs.Shown.{shown_test}
use Rattle.request.proofs.options.tests_of.Given as goal

abbrev pub invariant-loop-setting : goal.invariant-loop-setting
invariant-loop-setting l =
    map shown_test l.tests.items ≡ filter_map (λ s. test_in s.name (shown_argument s.argument)) (take l.setting-index l.settings)
