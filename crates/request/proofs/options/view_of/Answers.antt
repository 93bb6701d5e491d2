use Rattle.std.proofs.Common.{sym, ap}
use Rattle.std.specs.Prelude.{unwrap_or}
use Rattle.request.specs.Find.{view_in}
use Rattle.request.specs.declared.options.View.TheVariants.{Lines}
use Rattle.request.proofs.OptionLemmas.{given_here, given_later, given_nowhere}
use Rattle.request.proofs.options.view_of.Goals as goal

pub returns-in-Some : goal.returns-in-Some
returns-in-Some c =
    ap (λ o. unwrap_or o Lines) (sym (given_here view_in c.args.settings.now c.loop-setting.setting-index c.in-Some.view c.loop-setting-test.true c.loop-setting.invariant c.in-Some.ensures))

pub loop-setting-preserved : goal.loop-setting-preserved
loop-setting-preserved c =
    given_later view_in c.args.settings.now c.loop-setting.setting-index c.loop-setting-test.true c.loop-setting.invariant c.in_default.ensures

pub returns : goal.returns
returns c =
    ap (λ o. unwrap_or o Lines) (sym (given_nowhere view_in c.args.settings.now c.loop-setting.setting-index c.loop-setting-test.false c.loop-setting.invariant))
