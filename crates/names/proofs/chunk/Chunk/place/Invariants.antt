use Rattle.std.proofs.Common.{◌-◌}
use Rattle.names.specs.Private.Entries.{passes}
use Rattle.names.proofs.PartLemmas.{Narrows}
use Rattle.names.proofs.chunk.Chunk.place.Given as goal

abbrev pub invariant-loop-low : goal.invariant-loop-low
invariant-loop-low l = Narrows (passes l.edge l.text) l.self l.low l.high

abbrev pub decreases-loop-low : goal.decreases-loop-low
decreases-loop-low l = l.high - l.low
