use Rattle.std.proofs.Common.{◌+◌, ◌∙◌}
use Rattle.matcher.specs.Private.Moving.{passes}
use Rattle.matcher.proofs.Passing.{picked_first, picked_more, picked_all}
use Rattle.matcher.proofs.words.followed_each.Goals as goal

pub loop-rest-init : goal.loop-rest-init
loop-rest-init c = λ b inside. picked_first (λ n. passes c.args.members.now c.args.line.now (c.args.base + n)) c.args.word b

pub loop-rest-preserved : goal.loop-rest-preserved
loop-rest-preserved c =
    λ b inside.
    picked_more (λ n. passes c.args.members.now c.args.line.now (c.args.base + n)) c.loop-rest.found c.with_bit_if-found.result
    c.loop-rest.rest c.without_bit-rest.result c.lowest-bit.result b c.is_followed-passes.result c.lowest-bit.ensures.held
    c.is_followed-passes.ensures (c.with_bit_if-found.ensures b) (c.without_bit-rest.ensures.each b inside)
    ∙ c.loop-rest.invariant b inside

pub returns : goal.returns
returns c =
    λ b inside.
    picked_all (λ n. passes c.args.members.now c.args.line.now (c.args.base + n)) c.args.word c.loop-rest.found c.loop-rest.rest b
    c.loop-rest-test.false (c.loop-rest.invariant b inside)
