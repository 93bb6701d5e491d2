use Rattle.std.proofs.Common.{arith, ◌∙◌, length-set}
use Rattle.segments.proofs.Marking.{clear_more, all_clear}
use Rattle.segments.proofs.marks.clear_all.Goals as goal

pub loop-byte-preserved : goal.loop-byte-preserved
loop-byte-preserved c =
    let l = c.loop-byte in
    record {
      whole = length-set l.marks.items l.byte 0 ∙ l.invariant.whole;
      none = clear_more l.marks.items l.byte (omega (arith, l.invariant.whole, c.loop-byte-test.true)) l.invariant.none;
    }

pub returns : goal.returns
returns c =
    let l = c.loop-byte in
    all_clear l.marks.items l.invariant.whole (λ k low. l.invariant.none k (omega (arith, low, c.loop-byte-test.false)))
