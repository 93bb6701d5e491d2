use Rattle.std.proofs.Common.{◌≡◌, ◌++◌, map}
use Rattle.std.specs.Prelude.{filter}
use Rattle.index.specs.Private.Numbered.{document, is_under_any, documents_shared}
use Rattle.index.proofs.catalog.add_named.Given as goal

abbrev pub invariant-loop-name : goal.invariant-loop-name
invariant-loop-name g l =
    documents_shared l.shared.items ++ filter (is_under_any l.prefixes) (map (λ q. document l.number q l.held) l.name-iterator)
    ≡ documents_shared l.initial.shared.items ++ filter (is_under_any l.prefixes) (map (λ q. document l.number q l.held) l.names.keys)
