use Rattle.std.proofs.Common.{ap, ◌∙◌}
use Rattle.trigram.specs.Private.Values.{texts_of}
use Rattle.trigram.proofs.AnalysisLemmas.{bare_stands}
use Rattle.trigram.proofs.analysis.without_condition.Goals as goal

pub returns-in_ok-copied_texts-in-Loose-2 : goal.returns-in_ok-copied_texts-in-Loose-2
returns-in_ok-copied_texts-in-Loose-2 c =
    rw c.in-Loose.is
    (bare_stands c.in-Loose.ends c.in_ok-copied_texts-in-Loose.field-0 c.in_ok-copied_texts-in-Loose-2.field-0
    (c.in_ok-copied_texts-in-Loose.ensures ∙ ap texts_of c.deref-in-Loose.ensures.value)
    (c.in_ok-copied_texts-in-Loose-2.ensures ∙ ap texts_of c.deref-in-Loose-2.ensures.value))
