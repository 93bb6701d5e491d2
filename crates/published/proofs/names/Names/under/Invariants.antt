use Rattle.std.proofs.Common.{◌≡◌, ◌++◌}
use Rattle.std.specs.List.{take_while}
use Rattle.prefixes.specs.Under.{begins_with}
use Rattle.published.specs.Private.Names.{names_under}
use Rattle.published.proofs.names.Names.under.Given as goal

abbrev pub invariant-loop-name : goal.invariant-loop-name
invariant-loop-name l = names_under l.self l.prefix ≡ l.found.items ++ take_while (begins_with l.prefix) l.name-iterator
