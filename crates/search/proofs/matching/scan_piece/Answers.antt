use Rattle.std.proofs.Common.{subst}
use Rattle.ere.specs.Tree.{form}
use Rattle.engine.proofs.SameLineLemmas.{line_finder_kept}
use Rattle.prepare.specs.Tests.{test_of}
use Rattle.search.specs.Private.Added.{AddsLinesUpTo}
use Rattle.search.proofs.TestLemmas.{is_with_match}
use Rattle.search.proofs.WayLemmas.{finder_of, finds_by}
use Rattle.search.proofs.matching.scan_piece.Goals as goal

pub returns-then-text-longest-clause-way : goal.returns-then-text-longest-clause-way
returns-then-text-longest-clause-way g c =
    finds_by (form c.args.test.now.tree) c.sweep_lines.new.finder
    (line_finder_kept (form c.args.test.now.tree) c.in-FromMatchToMatch.finder c.sweep_lines.new.finder c.sweep_lines.ensures.same
    (finder_of (form c.args.test.now.tree) c.args.way.now c.in-FromMatchToMatch.finder c.in-FromMatchToMatch.is c.requires.way))

pub returns-in_err-sweep_lines-clause-way : goal.returns-in_err-sweep_lines-clause-way
returns-in_err-sweep_lines-clause-way g c =
    finds_by (form c.args.test.now.tree) c.sweep_lines.new.finder
    (line_finder_kept (form c.args.test.now.tree) c.in-FromMatchToMatch.finder c.sweep_lines.new.finder c.sweep_lines.ensures.same
    (finder_of (form c.args.test.now.tree) c.args.way.now c.in-FromMatchToMatch.finder c.in-FromMatchToMatch.is c.requires.way))

pub returns-then-text-longest-clause-places : goal.returns-then-text-longest-clause-places
returns-then-text-longest-clause-places g c =
    λ body.
    subst (λ test. AddsLinesUpTo c.args.most test c.args.document body c.args.offset c.args.from c.args.text.now c.args.places.now.items c.sweep_lines.new.places.items)
    (is_with_match (test_of c.args.test.now) (cc))
    (c.in_ok-sweep_lines.ensures.places (form c.args.test.now.tree) body
    (finder_of (form c.args.test.now.tree) c.args.way.now c.in-FromMatchToMatch.finder c.in-FromMatchToMatch.is c.requires.way))
