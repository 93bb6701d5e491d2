use Rattle.posting.specs.ListValue.{has}
use Rattle.index.specs.Private.Numbered.{documents_shared}
use Rattle.index.proofs.ChosenLemmas.{AreTaken}
use Rattle.index.proofs.catalog.Catalog.under_from.Given as goal

abbrev pub invariant-loop-name : goal.invariant-loop-name
invariant-loop-name g l =
    AreTaken l.self.documents (has l.among) l.prefix (documents_shared l.shared.items) l.name-iterator l.initial.name-iterator
