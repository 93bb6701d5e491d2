use Rattle.std.proofs.Common.{◌∙◌, ◌==◌, ap, sym}
use Rattle.std.proofs.lemmas.List.{take_all}
use Rattle.std.proofs.lemmas.List.Filters.{dedup_is}
use Rattle.std.proofs.lemmas.List.Sorted.{list_any-IsPermutation}
use Rattle.std.proofs.lemmas.Map.Keys.{IsStrictlyIncreasing-dedup}
use Rattle.segments.specs.Contents.{has, contents_in}
use Rattle.segments.specs.Private.Joins.{HasTrigrams}
use Rattle.segments.proofs.Building.{has-dedup}
use Rattle.segments.proofs.Joining.{trigrams_none, trigrams_next, same_trigrams}
use Rattle.segments.proofs.join.all_trigrams.Goals as goal

pub loop-segment-init : goal.loop-segment-init
loop-segment-init c = trigrams_none c.new-trigrams.result.items

pub loop-segment-preserved : goal.loop-segment-preserved
loop-segment-preserved c =
    trigrams_next c.args.segments.now c.loop-segment.segment-index c.segment-item.result c.loop-segment.trigrams.items c.push_trigrams.new.trigrams.items
    c.loop-segment-test.true c.segment-item.is c.loop-segment.invariant c.in_ok-push_trigrams.ensures

pub returns-clause-rising : goal.returns-clause-rising
returns-clause-rising c = rw (dedup_is _ _ _ c.dedup.ensures.filtered) (IsStrictlyIncreasing-dedup _ c.sort_unstable.ensures.sorted)

pub returns-clause-all : goal.returns-clause-all
returns-clause-all c =
    let gathered = c.loop-segment.trigrams.items in
    let sorted = c.sort_unstable.new.self.items in
    let all : HasTrigrams (contents_in c.args.segments.now) gathered =
    rw (take_all c.loop-segment.segment-index c.args.segments.now c.loop-segment-test.false) at c.loop-segment.invariant in
    same_trigrams (contents_in c.args.segments.now) gathered c.dedup.new.self.items
    (λ t.
    ap (λ ts. has ts t) (dedup_is _ _ _ c.dedup.ensures.filtered) ∙ has-dedup sorted t
    ∙ sym (list_any-IsPermutation (λ m. m == t) gathered sorted c.sort_unstable.ensures.permutation)) all
