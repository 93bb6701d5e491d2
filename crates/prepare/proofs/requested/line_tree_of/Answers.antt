use Rattle.std.proofs.Common.{subst}
use Rattle.std.proofs.lemmas.Result.{IfOk-weaker, IfErr-weaker, err_from_is_err_and}
use Rattle.ere.specs.Limits.{IsWithinLimits}
use Rattle.ere.specs.Tree.{form}
use Rattle.request.specs.Shown.{shown_options}
use Rattle.prepare.proofs.RequestLemmas.{edged_fault, unread_fault}
use Rattle.prepare.proofs.requested.line_tree_of.Goals as goal

pub returns-clause-tree : goal.returns-clause-tree
returns-clause-tree c =
    let own = form c.in_ok-tree.tree in
    IfOk-weaker c.edged.result _ _ (λ e is.
    (own, record { spelled = c.in_ok-tree.ensures.tree; limits = subst IsWithinLimits is.0 is.1 }, is.0)) c.edged.ensures.ok

pub returns-clause-limits : goal.returns-clause-limits
returns-clause-limits c = IfOk-weaker c.edged.result _ _ (λ e is. is.1) c.edged.ensures.ok

pub returns-clause-refused : goal.returns-clause-refused
returns-clause-refused c =
    IfErr-weaker c.edged.result _ _ (λ e over real.
    edged_fault c.one_tree.ensures (shown_options c.args.options.now) c.args.text.now (form c.in_ok-tree.tree) e c.in_ok-tree.ensures.allowed
    c.in_ok-tree.ensures.tree (over real)) c.edged.ensures.refused

pub returns-in_err-tree-clause-refused : goal.returns-in_err-tree-clause-refused
returns-in_err-tree-clause-refused c =
    let p = err_from_is_err_and c.from_residual.result c.from_residual.ensures.1 in
    rw (p.1, p.2) (λ real.
    unread_fault (shown_options c.args.options.now) c.args.text.now _ (c.in_err-tree.ensures.bytes real) (c.in_err-tree.ensures.refused real))
