use Rattle.std.proofs.Common.{[], ◌∙◌, ap}
use Rattle.std.specs.FinMap.{empty}
use Rattle.documents.specs.State.{state}
use Rattle.versions.specs.Private.Version.{bodies_of}
use Rattle.versions.proofs.BodyLemmas.{bodies-empty}
use Rattle.versions.proofs.VersionLemmas.{same_version, same_few, none, none_few}
use Rattle.versions.proofs.draft.Draft.new.Goals as goal

pub of-requires : goal.of-requires
of-requires c = record {
  whole = same_version 0 0 empty c.new.result [] c.new-2.result c.new.ensures c.new-2.ensures none;
  few = same_few empty c.new.result c.new.ensures none_few;
}

pub returns : goal.returns
returns c = c.of.ensures ∙ ap (state 0) (ap bodies_of c.new.ensures ∙ bodies-empty)
