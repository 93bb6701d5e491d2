use Rattle.std.proofs.Common.{refl, ◌∙◌}
use Rattle.segments.proofs.GapLemmas.{pushing_begins, pushing_more, pushing_ends}
use Rattle.segments.proofs.gaps.push_gap.Goals as goal

pub loop-rest-init : goal.loop-rest-init
loop-rest-init c = pushing_begins c.args.bytes.now.items c.args.gap c.ranges.gap.fits

pub loop-rest-preserved : goal.loop-rest-preserved
loop-rest-preserved c =
    rw c.in_ok-push.ensures.items
    (pushing_more c.args.bytes.now.items c.loop-rest.bytes.items c.args.gap c.loop-rest.rest _ c.loop-rest.invariant c.loop-rest-test.true refl)

pub returns : goal.returns
returns c =
    c.in_ok-push-2.ensures.items
    ∙ pushing_ends c.args.bytes.now.items c.loop-rest.bytes.items c.args.gap c.loop-rest.rest c.loop-rest.invariant c.loop-rest-test.false
