use Rattle.std.proofs.Common.{arith}
use Rattle.segments.proofs.PlaceLemmas.{spelled_gaps}
use Rattle.segments.proofs.places.Places.list.Goals as goal

pub push_numbers-requires : goal.push_numbers-requires
push_numbers-requires g c =
    spelled_gaps c.self.inside.count c.self.inside.bytes.now c.self.invariant (omega (arith, c.if-self-width.true, c.width.ensures))
