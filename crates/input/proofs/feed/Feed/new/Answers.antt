use Rattle.input.proofs.FeedLemmas.{fed_nothing}
use Rattle.input.proofs.feed.Feed.new.Goals as goal

pub invariant_of-result : goal.invariant_of-result
invariant_of-result g c = fed_nothing _ _ _ _ c.requires.input c.requires.read c.new.ensures
