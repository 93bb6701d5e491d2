use Rattle.std.proofs.Common.{◌≡◌, [], take}
use Rattle.std.specs.List.{filter_map}
use Rattle.request.specs.Find.{lane_in}
use Rattle.request.specs.Private.Kept.{shown_argument}
use Rattle.request.proofs.options.lane_of.Given as goal

abbrev pub invariant-loop-setting : goal.invariant-loop-setting
invariant-loop-setting l = filter_map (λ s. lane_in s.name (shown_argument s.argument)) (take l.setting-index l.settings) ≡ []
