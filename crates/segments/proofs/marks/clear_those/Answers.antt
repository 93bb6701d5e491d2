use Rattle.std.proofs.Common.{arith}
use Rattle.segments.proofs.Marking.{cleared_more, byte_low, cleared}
use Rattle.segments.proofs.marks.clear_those.Goals as goal

pub loop-i-preserved : goal.loop-i-preserved
loop-i-preserved c =
    let l = c.loop-i in
    rw c.trigram_in.ensures (cleared_more c.args.keys.now l.marks.items l.i (omega arith) l.invariant)

pub loop-i-init : goal.loop-i-init
loop-i-init c = c.requires.marks

pub index_mut-requires : goal.index_mut-requires
index_mut-requires c =
    let l = c.loop-i in
    let low = byte_low c.args.keys.now l.marks.items l.i (omega arith) l.invariant in
    omega (arith, low, c.trigram_in.ensures, l.marks.ok.0)

pub returns : goal.returns
returns c = cleared c.args.keys.now c.loop-i.marks.items c.loop-i.i (omega arith) c.loop-i.invariant
