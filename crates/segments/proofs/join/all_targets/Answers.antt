use Rattle.std.proofs.Common.{◌≡◌, ◌∙◌, ap}
use Rattle.std.proofs.lemmas.List.{take_all}
use Rattle.segments.specs.Contents.{numbers_of, contents_in}
use Rattle.segments.proofs.Joining.{numbers_more}
use Rattle.segments.proofs.join.all_targets.Goals as goal

pub loop-segment-preserved : goal.loop-segment-preserved
loop-segment-preserved c =
    numbers_more c.args.segments.now c.loop-segment.segment-index c.segment-item.result c.loop-segment.all.items c.push_numbers.new.numbers.items
    c.loop-segment-test.true c.segment-item.is c.loop-segment.invariant c.in_ok-push_numbers.ensures

pub returns : goal.returns
returns c =
    let segments = c.args.segments.now in
    let are : c.as_slice.result.now ≡ numbers_of (contents_in segments) =
    c.as_slice.ensures.value ∙ c.loop-segment.invariant
    ∙ ap (λ ss. numbers_of (contents_in ss)) (take_all c.loop-segment.segment-index segments c.loop-segment-test.false) in
    rw are at c.targets.ensures
