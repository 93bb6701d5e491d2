use Rattle.std.proofs.Common.{◌≡◌, ◌+◌, All, length, vec_len}
use Rattle.std.specs.Vec.Iter.{into_iter_items, into_iter_len}
use Rattle.service.proofs.opening.readers_of.Given as goal

-- The readers made and the readings left are together as many as the readings at the start, and all are of the opening.
abbrev pub invariant-loop-reading : goal.invariant-loop-reading
invariant-loop-reading g l =
    (vec_len l.readers + into_iter_len l.reading-iterator ≡ length l.fn.readings.items)
    × All (λ reading. reading.opening ≡ g.J.Naming.book) (into_iter_items l.reading-iterator)
