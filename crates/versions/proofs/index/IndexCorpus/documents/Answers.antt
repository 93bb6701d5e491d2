use Rattle.std.proofs.Common.{◌∙◌, ap, sym}
use Rattle.std.specs.FinMap.{len}
use Rattle.documents.specs.State.{State}
use Rattle.versions.proofs.BodyLemmas.{len-bodies}
use Rattle.versions.proofs.index.IndexCorpus.documents.Goals as goal

pub returns : goal.returns
returns c = c.len.ensures ∙ (sym (len-bodies c.self.inside.names) ∙ ap (λ (s : State). len s.documents) c.self.view_is)
