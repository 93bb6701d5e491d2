use Rattle.std.proofs.Common.{◌≡◌, false, take, ◌≤◌}
use Rattle.std.specs.Prelude.{count_by}
use Rattle.std.specs.List.{All}
use Rattle.request.specs.Names.{clashes, is_same}
use Rattle.request.proofs.settings.fault_after.Given as goal

abbrev pub invariant-loop-setting : goal.invariant-loop-setting
invariant-loop-setting l = record {
  together : All (λ s. clashes s.name l.name ≡ false) (take l.setting-index l.setting-items);
  counted : l.times ≡ count_by (λ s. is_same s.name l.name) (take l.setting-index l.setting-items);
  few : l.times ≤ l.setting-index;
}
