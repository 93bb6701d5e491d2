use Rattle.std.proofs.Common.{arith}
use Rattle.matcher.proofs.Passing.{from_end, from_start}
use Rattle.matcher.proofs.words.passing.Goals as goal

pub loop-from-init : goal.loop-from-init
loop-from-init c = record {
  within = omega arith;
  found = from_end c.args.members.now c.args.line.now c.args.base c.min-end.result (λ bit far inside. omega arith);
}

pub loop-from-preserved : goal.loop-from-preserved
loop-from-preserved c = record {
  within = omega arith;
  found = c.sixteen_passing-passing.ensures c.loop-from.from (omega arith) (omega arith) c.loop-from.invariant.found;
}

pub returns : goal.returns
returns c = from_start c.args.members.now c.args.line.now c.loop-from.passing c.args.base c.loop-from.from (omega arith) c.loop-from.invariant.found
