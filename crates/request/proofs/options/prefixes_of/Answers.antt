use Rattle.std.proofs.Common.{ap, map, ◌∙◌}
use Rattle.request.specs.Find.{prefix_in}
use Rattle.request.proofs.OptionLemmas.{given_all, given_more, given_same}
use Rattle.request.proofs.options.prefixes_of.Goals as goal
use Rattle.request.proofs.options.prefixes_of.Goals.{in-Some+in_ok-push, in_default}

pub loop-setting-preserved : goal.loop-setting-preserved
loop-setting-preserved c =
    elim c.match-prefix_in.branch [
      | in-Some+in_ok-push w ↦
          given_more (prefix_in c.args.of) (λ prefix. prefix.now) c.args.settings.now c.loop-setting.setting-index c.loop-setting.prefixes.items c.match-prefix_in.prefixes.items w.in-Some.prefix
          c.loop-setting-test.true c.loop-setting.invariant w.in-Some.ensures (ap (λ v. v.items) w.prefixes-is ∙ w.in_ok-push.ensures.items)
      | in_default w ↦
          ap (λ v. map (λ prefix. prefix.now) v.items) w.prefixes-is
          ∙ given_same (prefix_in c.args.of) (λ prefix. prefix.now) c.args.settings.now c.loop-setting.setting-index c.loop-setting.prefixes.items c.loop-setting-test.true c.loop-setting.invariant
          w.in_default.ensures
    ]

pub returns-clause-ok : goal.returns-clause-ok
returns-clause-ok c =
    given_all (prefix_in c.args.of) (λ prefix. prefix.now) c.args.settings.now c.loop-setting.setting-index c.loop-setting.prefixes.items c.loop-setting-test.false c.loop-setting.invariant
