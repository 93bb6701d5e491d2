use Rattle.std.proofs.Common.{◌+◌, rules}
use Rattle.service.proofs.opening.readers_of.Goals as goal

pub loop-reading-preserved : goal.loop-reading-preserved
loop-reading-preserved g c =
    let was = c.loop-reading.invariant in
    let step = c.in-Some.ensures.steps in (
      search rules,
      λ k d below. let h = was.1 (k + 1) d in grind rules,
    )
