use Rattle.std.proofs.Common.{◌∙◌, ◌++◌, ap}
use Rattle.std.proofs.lemmas.List.{take_all}
use Rattle.segments.specs.Private.Gaps.{bytes_after}
use Rattle.segments.proofs.GapLemmas.{pushed_none, pushed_more}
use Rattle.segments.proofs.gaps.push_gaps.Goals as goal

pub loop-number-init : goal.loop-number-init
loop-number-init c = pushed_none c.args.bytes.now.items c.args.numbers.now

pub loop-number-preserved : goal.loop-number-preserved
loop-number-preserved c =
    rw c.in_ok-push_gap.ensures
    (pushed_more c.args.bytes.now.items c.args.numbers.now c.loop-number.number-index c.loop-number.before c.loop-number.bytes.items c.requires
    c.loop-number-test.true c.loop-number.invariant)

pub returns : goal.returns
returns c =
    c.loop-number.invariant.bytes
    ∙ ap (λ ns. c.args.bytes.now.items ++ bytes_after 0 ns) (take_all c.loop-number.number-index c.args.numbers.now c.loop-number-test.false)
