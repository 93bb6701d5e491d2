use Rattle.std.proofs.Common.{◌∙◌, ap}
use Rattle.documents.specs.State.{state}
use Rattle.versions.specs.Private.Version.{bodies_of}
use Rattle.versions.proofs.VersionLemmas.{same_version, same_few}
use Rattle.versions.proofs.draft.Draft.share.Goals as goal

pub of-requires : goal.of-requires
of-requires c = record {
  whole = same_version c.self.inside.version c.self.inside.analysed c.self.inside.names c.in_ok-share.field-0 c.self.inside.sets c.in_ok-share-2.field-0
      c.in_ok-share.ensures c.in_ok-share-2.ensures c.self.invariant.is;
  few = same_few c.self.inside.names c.in_ok-share.field-0 c.in_ok-share.ensures c.self.invariant.few;
}

pub returns : goal.returns
returns c = c.of.ensures ∙ (ap (λ ns. state c.self.inside.version (bodies_of ns)) c.in_ok-share.ensures ∙ c.self.view_is)
