use Rattle.index.specs.Private.Numbered.{documents_shared}
use Rattle.index.proofs.PrefixLemmas.{AreUnderFirst}
use Rattle.index.proofs.catalog.Catalog.many.Given as goal

abbrev pub invariant-loop-prefix : goal.invariant-loop-prefix
invariant-loop-prefix g l = AreUnderFirst l.most l.self.documents l.chosen.members l.prefix-items l.prefix-index (documents_shared l.shared.items)
