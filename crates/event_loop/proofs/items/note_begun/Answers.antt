use Rattle.service.proofs.TurnsLemmas.{aside_none, aside_both}
use Rattle.event_loop.proofs.items.note_begun.Goals as goal

pub loop-init : goal.loop-init
loop-init g c = record { iterator = (tt, tt); aside = aside_none _ }

pub loop-preserved : goal.loop-preserved
loop-preserved g c = record { iterator = (tt, tt); aside = aside_both _ _ _ c.loop.invariant.aside c.set_aside.ensures }
