use Rattle.std.proofs.Common.{refl}
use Rattle.script.specs.Items.{numbered, status}
use Rattle.steps.proofs.WrittenLemmas.{status_shows}
use Rattle.steps.proofs.laws.statuses_are_exact.Goals as goal

pub returns : goal.returns
returns g c =
    λ limits readers s line written s' step. status_shows g.H.Holding.holds limits readers s (numbered line status) written s' refl step
