use Rattle.std.proofs.Common.{◌≡◌, None, true, sym, subst}
use Rattle.input.specs.Read.{FeedState, feed_state, EndsBy}
use Rattle.input.proofs.FeedLemmas.{ends_by}
use Rattle.input.proofs.feed.Feed.end.Goals as goal

pub invariant_of-result : goal.invariant_of-result
invariant_of-result g c =
    let at : FeedState = feed_state c.self.inside.read c.self.inside.stream c.self.inside.failed (g.I.Read.remaining c.self.inside.input) in
    subst (λ r. EndsBy g.K.Naming.input r c.self.inside.failed) (sym c.again.ensures)
    (ends_by g.K.Naming.input at c.self.invariant
    (subst (λ (s : FeedState). s.failed ≡ None → s.stream.ended ≡ true) (sym c.self.view_is) c.requires))
