use Rattle.std.proofs.Common.{sym, subst}
use Rattle.ere.specs.Limits.{IsWithinLimits}
use Rattle.ere.specs.Tree.{form}
use Rattle.prepare.proofs.ShownLemmas.{inside_within}
use Rattle.prepare.proofs.pattern.Prepared.shown_tree.Goals as goal

pub returns-then-self-clause-limits : goal.returns-then-self-clause-limits
returns-then-self-clause-limits c =
    subst IsWithinLimits (sym c.inside.ensures) (inside_within (form c.args.self.now.line.tree) c.args.self.now.line.limits)
