use Rattle.std.proofs.Common.{◌≡◌, arith}
use Rattle.posting.proofs.Walks.{sum_more, block_is, most_more}
use Rattle.posting.proofs.gaps.sum_of_block.Goals as goal

pub loop-i-preserved : goal.loop-i-preserved
loop-i-preserved c = record {
  total = omega (arith, sum_more c.args.bytes.now c.loop-i.i (omega arith), c.loop-i.invariant.total);
  small = omega (arith, c.loop-i.invariant.small, c.type_inv.bytes c.loop-i.i);
  most = most_more c.args.bytes.now c.loop-i.i c.loop-i.most _ c.loop-i.invariant.most (omega (arith, c.max-most.ensures)) (omega (arith, c.max-most.ensures));
}

pub returns-then-most-lt128 : goal.returns-then-most-lt128
returns-then-most-lt128 c =
    let end : c.loop-i.i ≡ 32 = omega arith in
    let total = rw end at c.loop-i.invariant.total in
    block_is c.args.bytes.now c.loop-i.total c.loop-i.most c.if-bytes-lt-BLOCK.false total
    (λ k before. c.loop-i.invariant.most k (omega (arith, before, end))) c.if-most-lt128.true
