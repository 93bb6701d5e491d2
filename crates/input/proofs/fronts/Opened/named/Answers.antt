use Rattle.std.proofs.Common.{ap, ◌∙◌}
use Rattle.input.proofs.FeedLemmas.{read_nothing}
use Rattle.input.proofs.fronts.Opened.named.Goals as goal

pub invariant_of-result : goal.invariant_of-result
invariant_of-result g c =
    (ap (λ h. h.book) c.self.view_is ∙ c.requires, read_nothing g.K.Naming.input c.self.inside.front.entries c.self.invariant.0)
