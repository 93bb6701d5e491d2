use Rattle.std.proofs.Common.{◌++◌, ◌∙◌, ap}
use Rattle.segments.proofs.segment.Segment.push_numbers.Goals as goal

pub returns : goal.returns
returns c = c.in_ok-extend_from_slice.ensures.items ∙ ap (λ ns. c.args.numbers.now.items ++ ns) c.numbers.ensures
