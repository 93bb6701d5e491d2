use Rattle.std.proofs.Common.{◌≡◌, ap, ◌∙◌, []}
use Rattle.request.specs.Private.Kept.{shown_settings}
use Rattle.request.specs.Settings.{SpellsSettings as spelled}
use Rattle.request.proofs.SettingLemmas.{allowed_none, allowed_push, settings_push, shown_push}
use Rattle.request.proofs.find.read_settings.Goals as goal

pub loop-left-init : goal.loop-left-init
loop-left-init c =
    let none : shown_settings c.none-earlier.result.settings.items ≡ [] = ap shown_settings c.none-earlier.ensures.none in
    record { before = rw none spelled.done; allowed = rw none allowed_none; tally = c.none-earlier.ensures.tally }

pub loop-left-preserved : goal.loop-left-preserved
loop-left-preserved c =
    let more = ap shown_settings c.in_ok-push.ensures.settings ∙ shown_push c.loop-left.earlier.settings.items c.in_ok-taken.taken.setting in
    record {
      before = rw more (settings_push c.loop-left.invariant.before c.in_ok-taken.ensures.ok);
      allowed = rw more (allowed_push _ _ c.loop-left.invariant.allowed c.in_ok-taken.ensures.free);
      tally = c.in_ok-push.ensures.tally;
    }
