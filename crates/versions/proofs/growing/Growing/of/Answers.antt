use Rattle.std.proofs.Common.{◌∙◌, ap}
use Rattle.documents.specs.State.{state}
use Rattle.versions.specs.Updates.{after}
use Rattle.versions.specs.Private.Growing.{commands_put}
use Rattle.versions.specs.Private.Version.{bodies_of}
use Rattle.versions.proofs.GrowingLemmas.{grown_none}
use Rattle.versions.proofs.growing.Growing.of.Goals as goal

pub invariant_of-result : goal.invariant_of-result
invariant_of-result c =
    let d = c.draft.inside in
    grown_none d.version d.analysed d.names d.sets c.new.result.items c.draft.invariant c.new.ensures.items

pub returns : goal.returns
returns c =
    let d = c.draft.inside in
    ap (λ ps. after (commands_put ps) (state d.version (bodies_of d.names))) c.new.ensures.items ∙ c.draft.view_is
