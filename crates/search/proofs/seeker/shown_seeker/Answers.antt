use Rattle.std.proofs.Common.{IfSome, sym, subst, ◌∙◌}
use Rattle.ere.specs.Tree.{Tree, form}
use Rattle.engine.specs.Patterns.{IsCompiledFrom}
use Rattle.search.proofs.SeekerLemmas.{can_show, can_show_none}
use Rattle.search.proofs.seeker.shown_seeker.Goals as goal

pub new-requires-clause-compiled : goal.new-requires-clause-compiled
new-requires-clause-compiled c = subst (λ (t : Tree). IfSome c.args.compiled.now (IsCompiledFrom t)) (sym c.shown_tree.ensures.tree) c.requires

pub returns-then-not-shows_matches : goal.returns-then-not-shows_matches
returns-then-not-shows_matches c = can_show_none c.args.wanted.now (sym c.shows_matches.ensures ∙ c.if-not-shows_matches.true)

pub returns : goal.returns
returns c =
    can_show c.args.wanted.now c.in_ok-seeker.seeker (form c.shown_tree.result.now) c.shown_tree.ensures.tree c.in_ok-seeker.ensures
