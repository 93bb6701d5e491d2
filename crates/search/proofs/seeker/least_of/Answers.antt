use Rattle.std.proofs.Common.{◌+◌, ◌-◌, ◌/◌, arith}
use Rattle.spans.specs.Passes.{NoSpanBegins, SomeSpanBegins}
use Rattle.search.proofs.SeekerLemmas.{case-true, case-false}
use Rattle.search.proofs.SeekerLemmas.{halved_first, halved_low, halved_high, least_of}
use Rattle.search.proofs.seeker.least_of.Goals as goal

pub loop-high-init : goal.loop-high-init
loop-high-init g c = record {
  same = λ tree is. is;
  ordered = c.requires.ordered;
  halved = λ tree is some. halved_first c.args.line.now tree c.args.whole_words c.args.from c.args.past some;
}

pub has_span-requires : goal.has_span-requires
has_span-requires g c = (c.requires.simulation.0, c.loop-high.invariant.same c.requires.simulation.0 c.requires.simulation.1)

pub loop-high-preserved-then-has : goal.loop-high-preserved-then-has
loop-high-preserved-then-has g c =
    let at = c.loop-high in
    let middle = at.low + (at.high - at.low) / 2 in
    record {
      same = λ tree is. c.has_span.ensures.same tree (at.invariant.same tree is);
      ordered = omega (arith, at.invariant.ordered);
      halved = λ tree is some.
          halved_low c.args.line.now tree c.args.whole_words c.args.from c.args.past at.low middle at.high (at.invariant.halved tree is some) (omega arith)
          (case-true c.in_ok-has.has (SomeSpanBegins c.args.line.now tree c.args.whole_words at.low middle)
          (NoSpanBegins c.args.line.now tree c.args.whole_words at.low middle) c.if-has.true
          (c.in_ok-has.ensures.found tree (at.invariant.same tree is)));
    }

pub loop-high-preserved : goal.loop-high-preserved
loop-high-preserved g c =
    let at = c.loop-high in
    let middle = at.low + (at.high - at.low) / 2 in
    record {
      same = λ tree is. c.has_span.ensures.same tree (at.invariant.same tree is);
      ordered = omega (arith, at.invariant.ordered);
      halved = λ tree is some.
          halved_high c.args.line.now tree c.args.whole_words c.args.from c.args.past at.low middle at.high (at.invariant.halved tree is some) (omega arith)
          (case-false c.in_ok-has.has (SomeSpanBegins c.args.line.now tree c.args.whole_words at.low middle)
          (NoSpanBegins c.args.line.now tree c.args.whole_words at.low middle) c.if-has.false
          (c.in_ok-has.ensures.found tree (at.invariant.same tree is)));
    }

pub returns-clause-found : goal.returns-clause-found
returns-clause-found g c =
    let at = c.loop-high in
    λ tree is some.
    least_of c.args.line.now tree c.args.whole_words c.args.from c.args.past at.low at.high (at.invariant.halved tree is some) (omega arith)
