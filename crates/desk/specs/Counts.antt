-- How much an index holds.
use Rattle.std.specs.Prelude.{◌≡◌}
use Rattle.std.specs.FinMap.{len}
use Rattle.documents.specs.State.{State, body_bytes}
use Rattle.desk.specs.declared.counts.Counts.{Counts}

-- The counts are those of the state.
pub record AreCountsOf (state : State) (counts : Counts) : Type 0 where
  pub version : counts.version ≡ state.version
  pub documents : counts.documents ≡ len state.documents
  pub bytes : counts.bytes ≡ body_bytes state.documents
