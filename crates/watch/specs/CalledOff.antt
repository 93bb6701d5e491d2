-- When a search may say that it was called off.
use Rattle.std.specs.Prelude.{◌≡◌}
use Rattle.watch.specs.declared.unanswered.Unanswered.{Unanswered}
use Rattle.watch.specs.declared.unanswered.Unanswered.TheVariants.{CalledOff}

-- If the search has no answer since it was called off, this holds.
abbrev pub IsCalledOffOnlyIf : Type 0 → Unanswered → Type 0
IsCalledOffOnlyIf p why = why ≡ CalledOff → p
