use Rattle.std.proofs.Common.{◌≡◌, take}
use Rattle.names.specs.Contents.{entries_of}
use Rattle.versions.specs.Private.Gathered.{shared_entries}
use Rattle.versions.proofs.gather.gather.Given as goal

abbrev pub invariant-loop-one : goal.invariant-loop-one
invariant-loop-one g l = shared_entries l.documents.items ≡ entries_of (take l.one-index l.named)
