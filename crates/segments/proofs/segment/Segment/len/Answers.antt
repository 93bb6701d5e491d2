use Rattle.std.proofs.Common.{sym, ap, ◌∙◌, length}
use Rattle.segments.proofs.Views.{length-contents_at}
use Rattle.segments.proofs.segment.Segment.len.Goals as goal

pub returns : goal.returns
returns c =
    let inside = c.self.inside in
    c.len.ensures ∙ inside.numbers.ok.0 ∙ sym (length-contents_at inside.numbers.items inside.table) ∙ ap length c.self.view_is
