use Rattle.std.proofs.lemmas.List.Filters.{dedup_is}
use Rattle.versions.proofs.MergeLemmas.{numbers_ready}
use Rattle.versions.proofs.merging.numbers_of.Goals as goal

pub returns : goal.returns
returns c =
    numbers_ready c.args.contents.now c.loop-content.content-index c.loop-content.numbers.items c.sort_unstable.new.self.items c.dedup.new.self.items
    c.loop-content-test.false c.loop-content.invariant c.sort_unstable.ensures.permutation c.sort_unstable.ensures.sorted (dedup_is _ _ _ c.dedup.ensures.filtered)
