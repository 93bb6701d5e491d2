use Rattle.std.proofs.Common.{◌≡◌, ◌++◌, map, drop}
use Rattle.names.specs.Contents.{entry_put}
use Rattle.names.specs.Private.Entries.{laid_over}
use Rattle.names.proofs.names.Names.with_all.Given as goal

abbrev pub invariant-loop-put : goal.invariant-loop-put
invariant-loop-put l = l.made ++ laid_over (map entry_put (drop l.put-index l.put-items)) l.rest ≡ laid_over (map entry_put l.put-items) l.initial.rest
