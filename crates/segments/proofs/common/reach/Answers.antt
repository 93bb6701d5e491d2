use Rattle.std.proofs.Common.{◌+◌, arith}
use Rattle.segments.proofs.Rising.{rises_at}
use Rattle.segments.proofs.common.reach.Goals as goal

pub loop-at-preserved : goal.loop-at-preserved
loop-at-preserved c = record {
  within = omega arith;
  below = λ k before.
      let le = rises_at c.args.numbers.now c.requires.rising k (c.loop-at.at + 32) (omega arith) c.loop-at-test.true in
      omega (arith, le, c.if-numbers-at.true);
}
