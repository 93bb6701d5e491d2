-- The turns of readers.
use Rattle.std.specs.Prelude.{◌≡◌, ℕ, ◌+◌, ◌<◌, ◌≤◌, List, [], ◌∷◌, ◌++◌, length, map, replicate, slice_index_or, All}
use Rattle.std.specs.List.{AllByRecursion}
use Rattle.steps.specs.Steps.{Given, AreTurned, given}
use Rattle.steps.specs.StepRows.{AllTurned}
use Rattle.service.specs.declared.turns.Aside.{Aside}
use Rattle.service.specs.declared.turns.Last.{Last}

-- lasts: the last turn of each reader, reader 0 first. aside: the turns that are set aside for searches.
pub record TurnsState : Type 0 where
  pub lasts : List Last
  pub aside : List Aside

-- a last turn, by its parts
abbrev pub last : ℕ → ℕ → Last
last turn version = record { turn = turn; version = version }

-- the last turn of this reader; turn 0 and version 0 if there is none
abbrev pub last_of : List Last → ℕ → Last
last_of lasts reader = slice_index_or lasts reader (last 0 0)

-- before the first answer
abbrev pub first_turns : ℕ → TurnsState
first_turns readers = record { lasts = replicate (readers + 1) (last 0 0); aside = [] }

-- the answer that is given in a turn that was set aside
abbrev pub given_aside : Aside → Given
given_aside aside = given aside.reader aside.turn aside.version

-- An answer has no later turn and no later version than the last turn of its reader.
pub record IsNoted (lasts : List Last) (answer : Given) : Type 0 where
  pub one_of_them : answer.reader < length lasts
  pub turn : answer.turn ≤ (last_of lasts answer.reader).turn
  pub version : answer.version ≤ (last_of lasts answer.reader).version

-- These answers were given. They and those for which turns are set aside are in turn.
pub record HaveTurns (readers : ℕ) (answers : List Given) (turns : TurnsState) : Type 0 where
  pub count : length turns.lasts ≡ readers + 1
  pub turned : AllTurned (answers ++ map given_aside turns.aside)
  pub noted : AllByRecursion (IsNoted turns.lasts) (answers ++ map given_aside turns.aside)

-- Whatever answers were given, no other was.
abbrev pub StillHave : TurnsState → TurnsState → Type 0
StillHave old new = (readers : ℕ) (answers : List Given) → HaveTurns readers answers old → HaveTurns readers answers new

-- Whatever answers were given, this one is given too, in turn.
abbrev pub GivesTurn : TurnsState → Given → TurnsState → Type 0
GivesTurn old answer new =
    (readers : ℕ) (answers : List Given) → HaveTurns readers answers old
    → (answer.reader ≤ readers) × All (λ before. AreTurned before answer) answers × HaveTurns readers (answers ++ answer ∷ []) new
