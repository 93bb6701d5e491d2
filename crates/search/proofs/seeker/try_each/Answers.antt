use Rattle.std.proofs.Common.{arith}
use Rattle.search.specs.Private.Seekers.{IsTried}
use Rattle.spans.specs.Passes.{HasNoSpanAt, IsLongestEnd}
use Rattle.search.proofs.SeekerLemmas.{begin_after, begin_at_start, first_of_start, none_found, none_of, some_of}
use Rattle.search.proofs.seeker.try_each.Goals as goal

pub loop-tries-init : goal.loop-tries-init
loop-tries-init g c = record {
  finder = λ tree is. is;
  simulation = λ tree is. is;
  few = omega arith;
  none = λ tree finds is. (omega arith, λ start end s. s.begins);
}

pub longest_end-requires : goal.longest_end-requires
longest_end-requires g c = (c.requires.simulation.0, c.loop-tries.invariant.simulation c.requires.simulation.0 c.requires.simulation.1)

pub returns-in_default-clause-tried : goal.returns-in_default-clause-tried
unfolding IsTried
returns-in_default-clause-tried g c =
    let at = c.loop-tries in
    λ tree finds is.
    let before = at.invariant.none tree finds is in (
      omega (arith, before.0),
      none_found c.args.line.now tree c.args.whole_words c.args.from at.next before.1
          (c.in_default.ensures.found tree (at.invariant.finder tree finds)),
    )

pub returns-then-reaches_end-clause-tried : goal.returns-then-reaches_end-clause-tried
unfolding IsTried
returns-then-reaches_end-clause-tried g c =
    let at = c.loop-tries in
    λ tree finds is.
    let before = at.invariant.none tree finds is in
    let next = c.in-Some.ensures.found tree (at.invariant.finder tree finds) in
    first_of_start c.args.line.now tree c.args.whole_words c.args.from c.in-Some.found.start c.in-Some.found.end (omega (arith, before.0, next.after))
    (begin_at_start c.args.line.now tree c.args.whole_words c.args.from at.next c.in-Some.found.start c.in-Some.found.end before.1 next)
    (c.reaches_end.ensures c.if-reaches_end.true tree next.is_match)

pub returns-in-Some-longest-clause-tried : goal.returns-in-Some-longest-clause-tried
unfolding IsTried
returns-in-Some-longest-clause-tried g c =
    let at = c.loop-tries in
    λ tree finds is.
    let before = at.invariant.none tree finds is in
    let next = c.in-Some.ensures.found tree (at.invariant.finder tree finds) in
    first_of_start c.args.line.now tree c.args.whole_words c.args.from c.in-Some.found.start c.in-Some-longest.end
    (omega (arith, before.0, next.after))
    (begin_at_start c.args.line.now tree c.args.whole_words c.args.from at.next c.in-Some.found.start c.in-Some.found.end before.1 next)
    (some_of (HasNoSpanAt c.args.line.now tree c.args.whole_words c.in-Some.found.start) (IsLongestEnd c.args.line.now tree c.args.whole_words c.in-Some.found.start)
    c.in_ok-longest.longest c.in-Some-longest.end c.in-Some-longest.is (c.in_ok-longest.ensures.found tree (at.invariant.simulation tree is)))

pub loop-tries-preserved : goal.loop-tries-preserved
loop-tries-preserved g c =
    let at = c.loop-tries in
    record {
      finder = λ tree finds. c.next_match.ensures.same tree (at.invariant.finder tree finds);
      simulation = λ tree is. c.longest_end.ensures.same tree (at.invariant.simulation tree is);
      few = omega (arith, at.invariant.few);
      none = λ tree finds is.
          (let before = at.invariant.none tree finds is in
          let next = c.in-Some.ensures.found tree (at.invariant.finder tree finds) in (
            omega (arith, before.0, next.after),
            begin_after c.args.line.now tree c.args.whole_words c.args.from c.in-Some.found.start
                (begin_at_start c.args.line.now tree c.args.whole_words c.args.from at.next c.in-Some.found.start c.in-Some.found.end before.1 next)
                (none_of (HasNoSpanAt c.args.line.now tree c.args.whole_words c.in-Some.found.start)
                (IsLongestEnd c.args.line.now tree c.args.whole_words c.in-Some.found.start) c.in_ok-longest.longest c.in_default-longest.is
                (c.in_ok-longest.ensures.found tree (at.invariant.simulation tree is))),
          ));
    }

pub returns-else-next-line-clause-tried : goal.returns-else-next-line-clause-tried
unfolding IsTried
returns-else-next-line-clause-tried g c = λ tree finds is. c.loop-tries.invariant.none tree finds is

pub returns-after-loop-tries-clause-tried : goal.returns-after-loop-tries-clause-tried
unfolding IsTried
returns-after-loop-tries-clause-tried g c = λ tree finds is. c.loop-tries.invariant.none tree finds is
