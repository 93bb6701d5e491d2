use Rattle.std.proofs.Common.{◌≡◌, ◌+◌, map}
use Rattle.std.specs.Prelude.{sum}
use Rattle.index.specs.Private.Contents.{names_count}
use Rattle.index.proofs.catalog.count_names.Given as goal

abbrev pub invariant-loop-number : goal.invariant-loop-number
invariant-loop-number g l =
    l.count + sum (map (names_count l.groups) l.number-iterator) ≡ sum (map (names_count l.groups) l.chosen.members)
