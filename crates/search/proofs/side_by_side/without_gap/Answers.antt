use Rattle.std.proofs.Common.{sym, ◌∙◌}
use Rattle.search.specs.Private.Gathered.{shows_context}
use Rattle.search.proofs.JoinLemmas.{cut-no_rows, cut-no_context, cut-first}
use Rattle.search.proofs.side_by_side.without_gap.Goals as goal

pub returns-then-rows-eq0 : goal.returns-then-rows-eq0
returns-then-rows-eq0 c = cut-no_rows (shows_context c.args.view) c.args.rows c.if-rows-eq0.true

pub returns-then-not-shows_context : goal.returns-then-not-shows_context
returns-then-not-shows_context c =
    cut-no_context (shows_context c.args.view) c.args.rows (sym c.shows_context.ensures ∙ c.if-not-shows_context.true)

pub returns : goal.returns
returns c =
    cut-first (shows_context c.args.view) c.args.rows (sym c.shows_context.ensures ∙ c.if-not-shows_context.false) c.if-rows-eq0.false
