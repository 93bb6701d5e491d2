use Rattle.std.proofs.Common.{sym}
use Rattle.request.specs.Find.{lane_in}
use Rattle.request.proofs.OptionLemmas.{given_here, given_later, given_nowhere}
use Rattle.request.proofs.options.lane_of.Goals as goal

pub returns-in-Some : goal.returns-in-Some
returns-in-Some c =
    sym (given_here lane_in c.args.settings.now c.loop-setting.setting-index c.in-Some.lane.now c.loop-setting-test.true c.loop-setting.invariant c.in-Some.ensures)

pub loop-setting-preserved : goal.loop-setting-preserved
loop-setting-preserved c =
    given_later lane_in c.args.settings.now c.loop-setting.setting-index c.loop-setting-test.true c.loop-setting.invariant c.in_default.ensures

pub returns : goal.returns
returns c =
    sym (given_nowhere lane_in c.args.settings.now c.loop-setting.setting-index c.loop-setting-test.false c.loop-setting.invariant)
