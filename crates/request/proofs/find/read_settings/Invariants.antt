use Rattle.std.proofs.Common.{length}
use Rattle.request.specs.Private.Kept.{IsTally, shown_settings}
use Rattle.request.specs.Settings.{IsAllowed, SpellsSettings}
use Rattle.request.proofs.find.read_settings.Given as goal

abbrev pub invariant-loop-left : goal.invariant-loop-left
invariant-loop-left l = record {
  before : SpellsSettings l.text l.left (shown_settings l.earlier.settings.items);
  allowed : IsAllowed (shown_settings l.earlier.settings.items);
  tally : IsTally l.earlier;
}

abbrev pub decreases-loop-left : goal.decreases-loop-left
decreases-loop-left l = length l.left
