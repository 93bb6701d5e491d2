use Rattle.engine.specs.Patterns.{IsCompiledFrom}
use Rattle.search.proofs.WayLemmas.{compiled_from}
use Rattle.search.proofs.seeker.finder_by.Goals as goal

pub returns-in-Ok : goal.returns-in-Ok
returns-in-Ok c = λ tree of. c.in-Ok.ensures.finder tree (compiled_from (IsCompiledFrom tree) c.args.compiled.now c.in-Some.compiled c.in-Some.is of)
