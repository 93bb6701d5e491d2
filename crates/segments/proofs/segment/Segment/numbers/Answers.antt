use Rattle.std.proofs.Common.{sym, ap, ◌∙◌}
use Rattle.segments.specs.Contents.{numbers_of}
use Rattle.segments.proofs.Views.{numbers-contents_at}
use Rattle.segments.proofs.segment.Segment.numbers.Goals as goal

pub returns : goal.returns
returns c =
    let inside = c.self.inside in
    c.as_slice.ensures.value ∙ sym (numbers-contents_at inside.numbers.items inside.table) ∙ ap numbers_of c.self.view_is
