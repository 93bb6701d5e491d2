use Rattle.std.proofs.Common.{sym, ◌∙◌, ap}
use Rattle.documents.specs.State.{state_of}
use Rattle.published.proofs.reading.Reading.look.Goals as goal

pub returns-then-meet-clause-looked : goal.returns-then-meet-clause-looked
returns-then-meet-clause-looked g c =
    let looked = c.in_ok-front.ensures.1.1 in
    (looked.0, looked.1, looked.2 ∙ ap state_of (sym (c.meet.ensures.met c.if-meet.true)))
