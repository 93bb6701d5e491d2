use Rattle.std.proofs.Common.{arith}
use Rattle.spans.specs.Passes.{NoSpanBegins, SomeSpanBegins}
use Rattle.search.proofs.SeekerLemmas.{case-true, case-false}
use Rattle.search.proofs.SeekerLemmas.{begin_behind, least_in_block, none_left}
use Rattle.search.proofs.seeker.least_start.Goals as goal

pub loop-first-init : goal.loop-first-init
loop-first-init g c = record { same = λ tree is. is; after = omega arith; none = λ tree is start end s. s.begins; wide = omega arith }

pub has_span-requires : goal.has_span-requires
has_span-requires g c = (c.requires.0, c.loop-first.invariant.same c.requires.0 c.requires.1)

pub least_of-requires-clause-simulation : goal.least_of-requires-clause-simulation
least_of-requires-clause-simulation g c = (c.requires.0, c.has_span.ensures.same c.requires.0 (c.loop-first.invariant.same c.requires.0 c.requires.1))

pub returns-then-has-clause-found : goal.returns-then-has-clause-found
returns-then-has-clause-found g c =
    let at = c.loop-first in
    λ tree is.
    let now = at.invariant.same tree is in
    least_in_block c.args.line.now tree c.args.whole_words c.args.from c.args.past at.first c.min-end.result c.in_ok-start.start
    at.invariant.after (omega arith) (at.invariant.none tree is)
    (c.in_ok-start.ensures.found tree (c.has_span.ensures.same tree now)
    (case-true c.in_ok-has.has (SomeSpanBegins c.args.line.now tree c.args.whole_words at.first c.min-end.result)
    (NoSpanBegins c.args.line.now tree c.args.whole_words at.first c.min-end.result) c.if-has.true (c.in_ok-has.ensures.found tree now)))

pub loop-first-preserved : goal.loop-first-preserved
loop-first-preserved g c =
    let at = c.loop-first in
    record {
      same = λ tree is. c.has_span.ensures.same tree (at.invariant.same tree is);
      after = omega (arith, at.invariant.after);
      none = λ tree is.
          begin_behind c.args.line.now tree c.args.whole_words c.args.from at.first c.min-end.result (at.invariant.none tree is)
          (case-false c.in_ok-has.has (SomeSpanBegins c.args.line.now tree c.args.whole_words at.first c.min-end.result)
          (NoSpanBegins c.args.line.now tree c.args.whole_words at.first c.min-end.result) c.if-has.false
          (c.in_ok-has.ensures.found tree (at.invariant.same tree is)));
      wide = omega (arith, at.invariant.wide);
    }

pub returns-clause-found : goal.returns-clause-found
returns-clause-found g c =
    let at = c.loop-first in
    λ tree is. none_left c.args.line.now tree c.args.whole_words c.args.from c.args.past at.first (at.invariant.none tree is) c.loop-first-test.false
