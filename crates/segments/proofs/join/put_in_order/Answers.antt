use Rattle.std.proofs.Common.{◌∙◌, ◌==◌, ap, sym}
use Rattle.std.proofs.lemmas.List.Filters.{dedup_is}
use Rattle.std.proofs.lemmas.List.Sorted.{list_any-IsPermutation}
use Rattle.std.proofs.lemmas.Map.Keys.{IsStrictlyIncreasing-dedup}
use Rattle.segments.specs.Contents.{has}
use Rattle.segments.proofs.Building.{has-dedup}
use Rattle.segments.proofs.join.put_in_order.Goals as goal

pub returns-clause-rising : goal.returns-clause-rising
returns-clause-rising c = rw (dedup_is _ _ _ c.dedup.ensures.filtered) (IsStrictlyIncreasing-dedup _ c.sort_unstable.ensures.sorted)

pub returns-clause-same : goal.returns-clause-same
returns-clause-same c = λ p.
    let sorted = c.sort_unstable.new.self.items in
    ap (λ ps. has ps p) (dedup_is _ _ _ c.dedup.ensures.filtered) ∙ has-dedup sorted p
    ∙ sym (list_any-IsPermutation (λ m. m == p) c.args.places.now.items sorted c.sort_unstable.ensures.permutation)
