use Rattle.std.proofs.Common.{◌≡◌, ◌<◌, ◌∙◌, ap, arith}
use Rattle.std.specs.Prelude.{All, filter}
use Rattle.std.proofs.lemmas.List.{take_all}
use Rattle.std.proofs.lemmas.List.Elements.{All-from_get_or}
use Rattle.std.proofs.lemmas.List.Filters.{dedup_is}
use Rattle.std.proofs.lemmas.Map.Keys.{IsStrictlyIncreasing-dedup}
use Rattle.segments.specs.Contents.{has, numbers_of, contents_in}
use Rattle.segments.proofs.Joining.{numbers_next, numbers_kept}
use Rattle.segments.proofs.merge.kept_numbers.Goals as goal

pub loop-segment-preserved : goal.loop-segment-preserved
loop-segment-preserved c =
    numbers_next c.args.keep.now c.loop-segment.numbers.items c.push_kept.new.kept.items c.args.segments.now c.loop-segment.segment-index
    c.segment-item.result c.loop-segment-test.true c.segment-item.is c.loop-segment.invariant (rw c.numbers.ensures at c.in_ok-push_kept.ensures)

pub returns : goal.returns
returns c =
    let keep = c.args.keep.now in
    let segments = c.args.segments.now in
    let gathered : c.loop-segment.numbers.items ≡ filter (has keep) (numbers_of (contents_in segments)) =
    c.loop-segment.invariant
    ∙ ap (λ ss. filter (has keep) (numbers_of (contents_in ss))) (take_all c.loop-segment.segment-index segments c.loop-segment-test.false) in
    let once = dedup_is _ _ _ c.dedup.ensures.filtered in
    let small : All (λ n. n < 4294967296) keep = All-from_get_or (λ n. n < 4294967296) keep 0 (λ i inside. omega (arith, c.type_inv.keep i)) in
    numbers_kept keep (numbers_of (contents_in segments)) c.loop-segment.numbers.items c.sort_unstable.new.self.items c.dedup.new.self.items gathered
    c.sort_unstable.ensures.permutation once (rw once (IsStrictlyIncreasing-dedup _ c.sort_unstable.ensures.sorted)) small
