use Rattle.std.proofs.Common.{◌≡◌, ◌++◌}
use Rattle.std.specs.Prelude.{filter}
use Rattle.index.specs.Private.Numbered.{is_under_any, documents_shared}
use Rattle.index.specs.Private.Chosen.{documents_numbered}
use Rattle.index.proofs.catalog.Catalog.numbered.Given as goal

abbrev pub invariant-loop-number : goal.invariant-loop-number
invariant-loop-number g l =
    documents_shared l.shared.items ++ filter (is_under_any l.prefixes) (documents_numbered l.self.documents l.number-iterator)
    ≡ filter (is_under_any l.prefixes) (documents_numbered l.self.documents l.chosen.members)
