use Rattle.std.proofs.Common.{◌+◌, sym, subst}
use Rattle.request.specs.Private.Kept.{IsTally, shown_setting, shown_settings}
use Rattle.request.proofs.TallyLemmas.{tally_both_grown, tally_grown, tally_not_under, tally_other, tally_under}
use Rattle.request.proofs.settings.Earlier.push.Goals as goal
use Rattle.request.proofs.settings.Earlier.push.Goals.{in-Under, in-NotUnder, in_default+in_ok-push-in_default}

pub returns-clause-tally : goal.returns-clause-tally
returns-clause-tally c =
    let old = c.args.self.now in
    let setting = c.args.setting in
    let grown = c.push.new.self.items in
    let all = shown_settings old.settings.items in
    let others = shown_settings old.others.items in
    elim c.match-setting.branch [
      | in-Under w ↦
          subst IsTally (sym w.self-is)
          (tally_grown old.settings.items grown setting c.in_ok-push.ensures.items old.others.items (old.under + 1) old.not_under
          (tally_under all others old.under old.not_under c.requires (shown_setting setting) w.in-Under.is))
      | in-NotUnder w ↦
          subst IsTally (sym w.self-is)
          (tally_grown old.settings.items grown setting c.in_ok-push.ensures.items old.others.items old.under (old.not_under + 1)
          (tally_not_under all others old.under old.not_under c.requires (shown_setting setting) w.in-NotUnder.is))
      | in_default+in_ok-push-in_default w ↦
          subst IsTally (sym w.self-is)
          (tally_both_grown old.settings.items grown setting c.in_ok-push.ensures.items old.others.items w.push-in_default.new.self.items old.under old.not_under
          w.in_ok-push-in_default.ensures.items
          (tally_other all others old.under old.not_under c.requires (shown_setting setting)))
    ]
