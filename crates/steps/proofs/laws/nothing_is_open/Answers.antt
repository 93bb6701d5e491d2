use Rattle.std.proofs.Common.{refl}
use Rattle.steps.proofs.WrittenLemmas.{nothing_open_alone, nothing_open_at_sync}
use Rattle.steps.proofs.laws.nothing_is_open.Goals as goal

pub returns-clause-alone : goal.returns-clause-alone
returns-clause-alone g c = λ limits s item written s' step. nothing_open_alone g.H.Holding.holds limits 0 s item written s' refl step

pub returns-clause-at_sync : goal.returns-clause-at_sync
returns-clause-at_sync g c = λ limits readers s item written s' is step. nothing_open_at_sync g.H.Holding.holds limits readers s item written s' is step
