use Rattle.std.proofs.Common.{arith, subst, drop}
use Rattle.ere.specs.Private.Reading.{ReadsAlternatives}
use Rattle.ere.proofs.BracketSteps.{if_err_but}
use Rattle.ere.proofs.TreeLaws.{found_tree, high_no_tree, large_no_tree, tree_within}
use Rattle.ere.proofs.reader.parse_with.Goals as goal

pub returns-in_err-check_bytes-clause-refused : goal.returns-in_err-check_bytes-clause-refused
returns-in_err-check_bytes-clause-refused c = if_err_but c.from_residual.result _ _ (c.in_err-check_bytes.ensures.err c.args.case)

pub returns-in_default-clause-refused : goal.returns-in_default-clause-refused
returns-in_default-clause-refused c =
    λ _.
    high_no_tree c.args.pattern.now (drop c.in_ok-part._end c.args.pattern.now)
    (subst (ReadsAlternatives c.args.case 0 c.args.pattern.now (drop c.in_ok-part._end c.args.pattern.now)) c.in_default.is
    c.in_ok-part.ensures.ok)

pub returns-then-capped_leaves-gt-MAX_LEAVES-clause-refused : goal.returns-then-capped_leaves-gt-MAX_LEAVES-clause-refused
returns-then-capped_leaves-gt-MAX_LEAVES-clause-refused c = λ _.
    large_no_tree c.args.pattern.now (drop c.in_ok-part._end c.args.pattern.now) c.in-Some.part
    (subst (ReadsAlternatives c.args.case 0 c.args.pattern.now (drop c.in_ok-part._end c.args.pattern.now)) c.in-Some.is
    c.in_ok-part.ensures.ok)
    (omega (arith, c.capped_leaves.ensures, c.if-capped_leaves-gt-MAX_LEAVES.true))

pub returns-clause-tree : goal.returns-clause-tree
returns-clause-tree c =
    found_tree c.args.pattern.now (drop c.in_ok-part._end c.args.pattern.now) c.in-Some.part
    (subst (ReadsAlternatives c.args.case 0 c.args.pattern.now (drop c.in_ok-part._end c.args.pattern.now)) c.in-Some.is
    c.in_ok-part.ensures.ok)
    c.in_ok-check_bytes.ensures.short c.in_ok-check_bytes.ensures.allowed (omega (arith, c.capped_leaves.ensures, c.if-capped_leaves-gt-MAX_LEAVES.false))

pub returns-clause-limits : goal.returns-clause-limits
returns-clause-limits c =
    tree_within c.args.case c.args.pattern.now _
    (found_tree c.args.pattern.now (drop c.in_ok-part._end c.args.pattern.now) c.in-Some.part
    (subst (ReadsAlternatives c.args.case 0 c.args.pattern.now (drop c.in_ok-part._end c.args.pattern.now)) c.in-Some.is
    c.in_ok-part.ensures.ok)
    c.in_ok-check_bytes.ensures.short c.in_ok-check_bytes.ensures.allowed (omega (arith, c.capped_leaves.ensures, c.if-capped_leaves-gt-MAX_LEAVES.false)))
