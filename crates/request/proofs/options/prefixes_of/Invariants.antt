use Rattle.std.proofs.Common.{◌≡◌, map, take}
use Rattle.std.specs.List.{filter_map}
use Rattle.request.specs.Find.{prefix_in}
use Rattle.request.specs.Private.Kept.{shown_argument}
use Rattle.request.proofs.options.prefixes_of.Given as goal

abbrev pub invariant-loop-setting : goal.invariant-loop-setting
invariant-loop-setting l =
    map (λ prefix. prefix.now) l.prefixes.items ≡ filter_map (λ s. prefix_in l.of s.name (shown_argument s.argument)) (take l.setting-index l.settings)
