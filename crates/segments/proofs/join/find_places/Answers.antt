use Rattle.std.proofs.Common.{◌≡◌, ◌+◌, ap, refl, arith, length, take}
use Rattle.std.proofs.lemmas.List.{take_all}
use Rattle.segments.specs.Contents.{contents_in}
use Rattle.segments.proofs.Joining.{places_none, places_next, length_next, few_in_first}
use Rattle.segments.proofs.join.find_places.Goals as goal

pub loop-segment-init : goal.loop-segment-init
loop-segment-init c = record { begins = refl; adds = rw c.clear.ensures.items (places_none c.args.trigram c.args.targets.now) }

pub overflow_add-end : goal.overflow_add-end
overflow_add-end c =
    let i = c.loop-segment.segment-index in
    let next = length_next c.args.segments.now i c.segment-item.result c.loop-segment-test.true c.segment-item.is in
    omega (arith, next, few_in_first c.args.segments.now (i + 1), c.loop-segment.invariant.begins, c.len.ensures, c.requires)

pub offset_bounds-targets-start : goal.offset_bounds-targets-start
offset_bounds-targets-start c =
    let i = c.loop-segment.segment-index in
    omega (arith, few_in_first c.args.segments.now i, c.loop-segment.invariant.begins, c.requires)

pub slice_bounds-push_places-end : goal.slice_bounds-push_places-end
slice_bounds-push_places-end c =
    let i = c.loop-segment.segment-index in
    let next = length_next c.args.segments.now i c.segment-item.result c.loop-segment-test.true c.segment-item.is in
    omega (arith, next, few_in_first c.args.segments.now (i + 1), c.loop-segment.invariant.begins, c.len.ensures, c.requires)

pub loop-segment-preserved : goal.loop-segment-preserved
loop-segment-preserved c =
    let segments = c.args.segments.now in
    let l = c.loop-segment in
    let i = l.segment-index in
    let next = length_next segments i c.segment-item.result c.loop-segment-test.true c.segment-item.is in record {
      begins = omega (arith, next, l.invariant.begins, c.len.ensures);
      adds =
          places_next c.args.trigram c.args.targets.now segments i c.segment-item.result l.start (l.start + c.len.result) l.places.items
          c.push_places.new.places.items c.loop-segment-test.true c.segment-item.is l.invariant.begins (ap (λ n. l.start + n) c.len.ensures) c.requires
          l.invariant.adds c.in_ok-push_places.ensures;
    }

pub returns : goal.returns
returns c =
    let segments = c.args.segments.now in
    let l = c.loop-segment in
    let all : take l.segment-index segments ≡ segments = take_all l.segment-index segments c.loop-segment-test.false in
    let whole : take l.start c.args.targets.now ≡ c.args.targets.now =
    take_all l.start c.args.targets.now (omega (arith, l.invariant.begins, ap (λ ss. length (contents_in ss)) all, c.requires)) in
    rw (whole, all) at l.invariant.adds
