use Rattle.std.proofs.Common.{sym, ap, ◌∙◌}
use Rattle.index.specs.Private.Sets.{trigrams_before}
use Rattle.index.proofs.StoredLemmas.{listed}
use Rattle.index.proofs.sets.trigrams_of_old.Goals as goal

pub returns-in-Some : goal.returns-in-Some
returns-in-Some c = λ t.
    listed c.in-Some.held c.trigrams.result.now c.trigrams.ensures.trigrams t ∙ ap (λ old. trigrams_before old t) (sym c.in-Some.is)
