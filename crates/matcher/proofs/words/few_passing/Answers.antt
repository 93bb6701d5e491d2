use Rattle.std.proofs.Common.{◌+◌, ◌-◌, ◌∙◌, arith}
use Rattle.matcher.proofs.Passing.{passing_none, passing_more, passing_at}
use Rattle.matcher.proofs.words.few_passing.Goals as goal

pub loop-bit-init : goal.loop-bit-init
loop-bit-init c = passing_none c.args.members.now c.args.line.now (c.args.base + c.args.end) (64 - c.args.end) (λ b l. c.requires.last b (omega arith))

pub loop-bit-preserved : goal.loop-bit-preserved
loop-bit-preserved c =
    passing_more c.args.members.now c.args.line.now c.loop-bit.passing c.bit_if.result c.moved_up-passing.result
    (c.args.base + (c.loop-bit.bit - 1)) (64 - c.loop-bit.bit) (c.args.base + c.loop-bit.bit) (64 - (c.loop-bit.bit - 1)) (omega arith)
    (omega arith) (omega arith) (omega (arith, c.requires.in_line)) c.loop-bit.invariant (c.bit_if.ensures.same ∙ c.has.ensures)
    c.moved_up-passing.ensures.lowest c.moved_up-passing.ensures.others

pub returns : goal.returns
returns c =
    passing_at c.args.members.now c.args.line.now c.loop-bit.passing (c.args.base + c.loop-bit.bit) c.args.base (64 - c.loop-bit.bit) 64
    (omega arith) (omega arith) c.loop-bit.invariant
