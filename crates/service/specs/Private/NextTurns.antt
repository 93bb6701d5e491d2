-- The next turn of a reader.
use Rattle.std.specs.Prelude.{◌≡◌, ℕ, ◌+◌, ◌<◌, ◌≤◌, List, length, slice_set}
use Rattle.service.specs.Turns.{TurnsState, last, last_of}
use Rattle.service.specs.declared.turns.Last.{Last}

-- The turn is the reader's next one, and it can answer from this version in it.
pub record IsNext (lasts : List Last) (reader version turn : ℕ) : Type 0 where
  pub one_of_them : reader < length lasts
  pub next : turn ≡ (last_of lasts reader).turn + 1
  pub no_fall : (last_of lasts reader).version ≤ version

-- it is the reader's last one now
abbrev pub with_last : ℕ → ℕ → ℕ → TurnsState → TurnsState
with_last reader turn version turns = record turns { lasts = slice_set turns.lasts reader (last turn version) }
