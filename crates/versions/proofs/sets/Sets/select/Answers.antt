use Rattle.std.proofs.Common.{◌++◌, ◌∙◌, ap}
use Rattle.std.proofs.lemmas.List.Filters.{dedup_is}
use Rattle.std.proofs.lemmas.Map.Keys.{IsStrictlyIncreasing-dedup}
use Rattle.query.specs.Query.{formula_of}
use Rattle.segments.specs.Contents.{selected}
use Rattle.versions.proofs.SaidLemmas.{selected_next, selected_all}
use Rattle.versions.proofs.sets.Sets.select.Goals as goal

pub loop-segment-init : goal.loop-segment-init
loop-segment-init g c = c.new-numbers.ensures.items

pub loop-segment-preserved : goal.loop-segment-preserved
loop-segment-preserved g c =
    selected_next (formula_of c.args.query.now) c.deref-segment-items.result.now c.loop-segment.segment-index c.segment-item.result
    c.loop-segment.numbers.items c.in_ok-found.found.items c.extend_from_slice.new.self.items c.loop-segment-test.true c.segment-item.is
    c.loop-segment.invariant (c.in_ok-found.ensures.chosen ∙ ap (selected (formula_of c.args.query.now)) c.deref.ensures)
    (c.in_ok-extend_from_slice.ensures.items ∙ ap (λ x. c.loop-segment.numbers.items ++ x) c.as_slice.ensures.value)

pub returns-clause-rising : goal.returns-clause-rising
returns-clause-rising g c =
    let once = dedup_is _ _ _ c.dedup.ensures.filtered in
    rw once (IsStrictlyIncreasing-dedup _ c.sort_unstable.ensures.sorted)

pub returns-clause-chosen : goal.returns-clause-chosen
returns-clause-chosen g c =
    selected_all (formula_of c.args.query.now) c.self.inside.segments.items c.deref-segment-items.result.now c.loop-segment.segment-index c.args.self.now
    c.loop-segment.numbers.items c.sort_unstable.new.self.items c.dedup.new.self.items c.loop-segment-test.false c.deref-segment-items.ensures.value
    c.self.view_is c.loop-segment.invariant c.sort_unstable.ensures.permutation (dedup_is _ _ _ c.dedup.ensures.filtered)
