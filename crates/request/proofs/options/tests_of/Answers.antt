use Rattle.std.proofs.Common.{ap, map, ◌∙◌}
use Rattle.request.specs.Find.{test_in}
use Rattle.request.specs.Shown.{shown_test}
use Rattle.request.proofs.OptionLemmas.{given_all, given_more, given_same}
use Rattle.request.proofs.options.tests_of.Goals as goal
use Rattle.request.proofs.options.tests_of.Goals.{in-Some+in_ok-push, in_default}

pub loop-setting-preserved : goal.loop-setting-preserved
loop-setting-preserved c =
    elim c.match-test_in.branch [
      | in-Some+in_ok-push w ↦
          given_more test_in shown_test c.args.settings.now c.loop-setting.setting-index c.loop-setting.tests.items c.match-test_in.tests.items w.in-Some.test
          c.loop-setting-test.true c.loop-setting.invariant w.in-Some.ensures (ap (λ v. v.items) w.tests-is ∙ w.in_ok-push.ensures.items)
      | in_default w ↦
          ap (λ v. map shown_test v.items) w.tests-is
          ∙ given_same test_in shown_test c.args.settings.now c.loop-setting.setting-index c.loop-setting.tests.items c.loop-setting-test.true c.loop-setting.invariant
          w.in_default.ensures
    ]

pub returns-clause-ok : goal.returns-clause-ok
returns-clause-ok c =
    given_all test_in shown_test c.args.settings.now c.loop-setting.setting-index c.loop-setting.tests.items c.loop-setting-test.false c.loop-setting.invariant
