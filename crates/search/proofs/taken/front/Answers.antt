use Rattle.std.proofs.Common.{map, subst}
use Rattle.prepare.specs.Front.{IsFrontOf}
use Rattle.prepare.specs.Prepared.{pattern_of}
use Rattle.prepare.specs.Tests.{test_of}
use Rattle.search.proofs.CandidateLemmas.{front_is, prefixes_are}
use Rattle.search.proofs.taken.front.Goals as goal

pub returns-clause-some : goal.returns-clause-some
returns-clause-some c =
    let prepared = c.args.prepared.now in
    let text = c.in_ok-front.front.items in
    front_is (pattern_of prepared) text c.in_ok-one.one c.in_ok-one.ensures
    (subst (λ tests. IsFrontOf (map test_of tests) text) c.deref.ensures.value c.in_ok-front.ensures.begins)

pub returns-then-not-says_more-clause-none : goal.returns-then-not-says_more-clause-none
returns-then-not-says_more-clause-none c = prefixes_are c.args.prepared.now (c.says_more.ensures c.if-not-says_more.true)
