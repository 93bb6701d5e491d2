use Rattle.std.proofs.Common.{sym, ◌∙◌}
use Rattle.std.proofs.lemmas.Bool.{false≢true}
use Rattle.ere.specs.Tree.{form}
use Rattle.engine.specs.Patterns.{IsCompiledForLines}
use Rattle.search.proofs.WayLemmas.{finds_by, finds_by_matcher, finds_by_simulation, compiled_from}
use Rattle.search.proofs.way.way_by.Goals as goal

pub returns-in-Ok : goal.returns-in-Ok
returns-in-Ok c =
    finds_by (form c.args.tree.now) c.in-Ok.finder
    (c.in-Ok.ensures.lines (form c.args.tree.now)
    (compiled_from (IsCompiledForLines (form c.args.tree.now)) c.args.compiled.now c.in-Some.compiled c.in-Some.is c.requires.compiled))

pub returns-then-is_quick : goal.returns-then-is_quick
returns-then-is_quick c = finds_by_matcher (form c.args.tree.now) (c.is_quick.ensures.0 c.if-is_quick.true)

pub returns : goal.returns
returns c =
    finds_by_simulation (form c.args.tree.now) c.in_ok-simulation.simulation c.in_ok-simulation.ensures
    (λ quick. false≢true (sym c.if-is_quick.false ∙ c.is_quick.ensures.1 quick))
