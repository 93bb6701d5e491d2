use Rattle.std.proofs.Common.{sym, ◌∙◌, ap}
use Rattle.std.specs.FinMap.{len}
use Rattle.index.proofs.PlainLemmas.{length-plain}
use Rattle.index.proofs.index.IndexCorpus.documents.Goals as goal

pub returns : goal.returns
returns c =
    c.documents.ensures ∙ sym (length-plain c.self.inside.catalog c.version.ensures.state) ∙ ap (λ s. len s.documents) c.self.view_is
