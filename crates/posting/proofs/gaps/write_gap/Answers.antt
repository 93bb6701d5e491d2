use Rattle.std.proofs.Common.{◌≤◌, length, arith, refl}
use Rattle.posting.proofs.Groups.{writing_begins, writing_room, writing_more, writing_ends}
use Rattle.posting.proofs.gaps.write_gap.Goals as goal

pub loop-left-init : goal.loop-left-init
loop-left-init c = writing_begins c.args.bytes.now c.args.from c.args.gap c.ranges.gap.fits c.requires

pub bounds-bytes-place : goal.bounds-bytes-place
bounds-bytes-place c = writing_room c.args.bytes.now c.args.from c.args.gap c.loop-left.bytes c.loop-left.place c.loop-left.left c.loop-left.invariant

pub loop-left-preserved : goal.loop-left-preserved
loop-left-preserved c =
    writing_more c.args.bytes.now c.args.from c.args.gap c.loop-left.bytes c.loop-left.place c.loop-left.left _ c.loop-left.invariant
    c.loop-left-test.true refl

pub bounds-bytes-place-2 : goal.bounds-bytes-place-2
bounds-bytes-place-2 c = writing_room c.args.bytes.now c.args.from c.args.gap c.loop-left.bytes c.loop-left.place c.loop-left.left c.loop-left.invariant

pub returns-clause-place : goal.returns-clause-place
returns-clause-place c =
    let within : c.args.from ≤ length c.args.bytes.now = omega (arith, c.requires) in
    (writing_ends c.args.bytes.now c.args.from c.args.gap c.loop-left.bytes c.loop-left.place c.loop-left.left c.loop-left.invariant
    c.loop-left-test.false within).1

pub returns-clause-bytes : goal.returns-clause-bytes
returns-clause-bytes c =
    let within : c.args.from ≤ length c.args.bytes.now = omega (arith, c.requires) in
    (writing_ends c.args.bytes.now c.args.from c.args.gap c.loop-left.bytes c.loop-left.place c.loop-left.left c.loop-left.invariant
    c.loop-left-test.false within).0
