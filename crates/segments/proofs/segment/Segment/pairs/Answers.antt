use Rattle.std.proofs.Common.{ap, ◌∙◌}
use Rattle.std.specs.Prelude.{min}
use Rattle.segments.specs.Contents.{pairs_in}
use Rattle.segments.proofs.Counting.{pairs_counted}
use Rattle.segments.proofs.segment.Segment.pairs.Goals as goal

pub returns : goal.returns
returns c =
    let inside = c.self.inside in
    c.pairs.ensures
    ∙ ap (λ n. min n 18446744073709551615)
    (pairs_counted inside.numbers.items inside.table c.self.invariant.rising c.self.invariant.below ∙ ap pairs_in c.self.view_is)
