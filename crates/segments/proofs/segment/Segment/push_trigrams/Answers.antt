use Rattle.std.proofs.lemmas.Result.{on_ok_weaker}
use Rattle.segments.proofs.Joining.{adds_trigrams}
use Rattle.segments.proofs.segment.Segment.push_trigrams.Goals as goal

pub returns : goal.returns
returns c =
    let inside = c.self.inside in
    on_ok_weaker c.push_trigrams.result
    (λ is.
    rw (← c.self.view_is)
    (adds_trigrams inside.numbers.items inside.table c.self.invariant c.args.trigrams.now.items c.push_trigrams.new.trigrams.items is))
    c.push_trigrams.ensures
