use Rattle.std.proofs.Common.{◌≡◌, length}
use Rattle.std.specs.Prelude.{nat_lt}
use Rattle.std.specs.List.{list_any, take_while}
use Rattle.prefixes.specs.Under.{begins_with}
use Rattle.documents.specs.Documents.{renamed}
use Rattle.published.specs.Private.Names.{has_long_copy}
use Rattle.published.proofs.names.Names.has_long_copy.Given as goal

abbrev pub invariant-loop-name : goal.invariant-loop-name
invariant-loop-name l =
    has_long_copy l.self l.most l.from l.to
    ≡ list_any (λ name. nat_lt l.most (length (renamed l.from l.to name))) (take_while (begins_with l.from) l.name-iterator)
