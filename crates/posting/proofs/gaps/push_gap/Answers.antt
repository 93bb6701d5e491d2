use Rattle.std.proofs.Common.{refl, ◌∙◌}
use Rattle.posting.proofs.Groups.{pushing_begins, pushing_more, pushing_ends}
use Rattle.posting.proofs.gaps.push_gap.Goals as goal

pub loop-rest-init : goal.loop-rest-init
loop-rest-init c = pushing_begins c.args.bytes.now.items c.args.bytes.now.capacity c.args.gap c.ranges.gap.fits c.requires

pub loop-rest-preserved : goal.loop-rest-preserved
loop-rest-preserved c =
    rw (c.push_reserved.ensures.items, c.push_reserved.ensures.capacity)
    (pushing_more c.args.bytes.now.items c.loop-rest.bytes.items c.args.bytes.now.capacity c.args.gap c.loop-rest.bytes.capacity
    c.loop-rest.rest _ c.loop-rest.invariant c.loop-rest-test.true refl)

pub returns-clause-items : goal.returns-clause-items
returns-clause-items c =
    c.push_reserved-2.ensures.items
    ∙ pushing_ends c.args.bytes.now.items c.loop-rest.bytes.items c.args.bytes.now.capacity c.args.gap c.loop-rest.bytes.capacity
    c.loop-rest.rest c.loop-rest.invariant c.loop-rest-test.false
