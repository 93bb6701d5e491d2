use Rattle.std.proofs.Common.{ap, ◌∙◌}
use Rattle.std.proofs.lemmas.List.{take_all}
use Rattle.versions.specs.Private.Version.{said}
use Rattle.versions.proofs.SaidLemmas.{shared_next}
use Rattle.versions.proofs.sets.shared.Goals as goal

pub loop-segment-init : goal.loop-segment-init
loop-segment-init c = ap said c.in_ok-shared.ensures.items

pub loop-segment-preserved : goal.loop-segment-preserved
loop-segment-preserved c =
    shared_next c.args.segments.now c.loop-segment.shared.items c.push.new.self.items c.loop-segment.segment-index c.segment-item.result
    c.in_ok-try_clone.field-0 c.loop-segment-test.true c.segment-item.is c.loop-segment.invariant c.in_ok-try_clone.ensures c.in_ok-push.ensures.items

pub returns : goal.returns
returns c = c.loop-segment.invariant ∙ ap said (take_all c.loop-segment.segment-index c.args.segments.now c.loop-segment-test.false)
