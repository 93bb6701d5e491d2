use Rattle.std.proofs.Common.{◌≡◌, ◌≤◌, ◌+◌, map, length, sym, ◌∙◌, ap, subst, arith}
use Rattle.prepare.specs.Front.{IsFrontOf, front_by}
use Rattle.prepare.specs.Tests.{test_of}
use Rattle.prepare.proofs.FrontLemmas.{AreNoLonger, all-longer, front-one, one-more-longer}
use Rattle.prepare.proofs.TestLemmas.{first_tests}
use Rattle.prepare.proofs.front.front_of.Goals as goal
use Rattle.prepare.proofs.front.front_of.Goals.{then-len, else-len}

pub loop-test-preserved : goal.loop-test-preserved
loop-test-preserved c =
    let tests = c.args.tests.now in
    let at = c.loop-test.test-index in
    let before = c.loop-test.invariant in
    let longest = c.loop-test.longest.items in
    let front = c.in_ok-front.front.items in
    let shows : length (front_by (test_of c.test-item.result)) ≤ length front = (let same = ap length c.in_ok-front.ensures.text in omega arith) in
    let new : c.len.result ≡ length front = c.len.ensures ∙ c.in_ok-front.front.ok.0 in
    let old : c.len-in-loop-test.result ≡ length longest = c.len-in-loop-test.ensures ∙ c.loop-test.longest.ok.0 in
    record {
      begins =
          elim c.if-len.branch [
            | then-len w ↦ subst (λ v. IsFrontOf (map test_of tests) v.items) (sym w.longest-is)
                (front-one tests at c.test-item.result front c.loop-test-test.true c.test-item.is c.in_ok-front.ensures.begins)
            | else-len w ↦ subst (λ v. IsFrontOf (map test_of tests) v.items) (sym w.longest-is) before.begins
          ];
      longest =
          elim c.if-len.branch [
            | then-len w ↦ subst (λ v. AreNoLonger (first_tests tests (at + 1)) v.items) (sym w.longest-is)
                (one-more-longer tests at c.test-item.result longest front c.loop-test-test.true c.test-item.is (let longer = w.if-len.true in omega arith) shows before.longest)
            | else-len w ↦ subst (λ v. AreNoLonger (first_tests tests (at + 1)) v.items) (sym w.longest-is)
                (one-more-longer tests at c.test-item.result longest longest c.loop-test-test.true c.test-item.is (omega arith) (let shorter = w.if-len.false in omega arith) before.longest)
          ];
    }

pub returns-clause-longest : goal.returns-clause-longest
returns-clause-longest c = all-longer c.args.tests.now c.loop-test.test-index c.loop-test.longest.items c.loop-test-test.false c.loop-test.invariant.longest
