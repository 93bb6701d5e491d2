use Rattle.std.proofs.Common.{◌≡◌, take}
use Rattle.documents.specs.State.{body_bytes}
use Rattle.index.specs.Private.Contents.{named}
use Rattle.index.specs.Private.Copying.{IsEntered}
use Rattle.index.specs.Private.Plain.{plain_documents}
use Rattle.index.specs.Private.Store.{stored}
use Rattle.index.proofs.copying.enter_all.Given as goal

abbrev pub invariant-loop-at : goal.invariant-loop-at
invariant-loop-at l =
    (l.bytes ≡ body_bytes (plain_documents (named l.numbers (stored l.store))))
    × IsEntered (take l.at l.copies) (stored l.store) l.fn.numbers l.fn.groups l.numbers l.groups
