use Rattle.std.proofs.Common.{take}
use Rattle.segments.specs.Private.Known.{AddsKnown}
use Rattle.segments.proofs.keys.push_keys.Given as goal

abbrev pub invariant-loop-trigram : goal.invariant-loop-trigram
invariant-loop-trigram l = AddsKnown (take l.trigram-index l.trigrams) l.place l.initial.keys.items l.keys.items
