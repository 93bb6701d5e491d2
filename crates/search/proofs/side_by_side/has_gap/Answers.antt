use Rattle.search.specs.Private.Gathered.{shows_context}
use Rattle.search.proofs.JoinLemmas.{no-gap_before, no-gap_after, gap-between}
use Rattle.search.proofs.side_by_side.has_gap.Goals as goal

pub returns-then-before-eq0 : goal.returns-then-before-eq0
returns-then-before-eq0 c = no-gap_before (shows_context c.args.view) c.args.before c.args.after c.if-before-eq0.true

pub returns-then-after-eq0 : goal.returns-then-after-eq0
returns-then-after-eq0 c = no-gap_after (shows_context c.args.view) c.args.before c.args.after c.if-after-eq0.true

pub returns : goal.returns
returns c =
    gap-between (shows_context c.args.view) c.shows_context.result c.args.before c.args.after c.shows_context.ensures
    c.if-before-eq0.false c.if-after-eq0.false
