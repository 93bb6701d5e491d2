use Rattle.service.proofs.ServiceLemmas.{kept_note, either_map}
use Rattle.service.proofs.service.Service.note.Goals as goal

pub returns-in-Published-clause-kept : goal.returns-in-Published-clause-kept
returns-in-Published-clause-kept g c =
    rw (← c.self.view_is)
    (kept_note c.self.inside.kept.items _ c.args.entry.now c.in-Published.line c.in-Published.version c.in-Published.is
    (λ v inside. either_map (c.forget_below.ensures v) (c.keep.ensures v inside)))
