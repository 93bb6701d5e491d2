-- What each of the two copies shows.
use Rattle.documents.specs.State.{State}
use Rattle.desk.specs.History.{Known}

-- the state of an index, and the front of the history
pub record Sight : Type 0 where
  pub index : State
  pub front : Known

abbrev pub sight : State → Known → Sight
sight index front = record { index = index; front = front }
