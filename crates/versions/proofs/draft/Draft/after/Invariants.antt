use Rattle.std.proofs.Common.{◌≡◌, take}
use Rattle.versions.specs.Updates.{after, commands_of}
use Rattle.versions.proofs.draft.Draft.after.Given as goal

abbrev pub invariant-loop-update : goal.invariant-loop-update
invariant-loop-update l = l.next ≡ after (commands_of (take l.update-index l.updates)) l.self
