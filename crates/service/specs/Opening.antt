-- What is opened.
use Rattle.std.specs.Prelude.{ℕ, Bool}
use Rattle.logbook.specs.Pages.{Book}
use Rattle.documents.specs.declared.lengths.Lengths.{Lengths}
use Rattle.steps.specs.LegalRows.{Limits}

-- commands: how many commands are accepted at most. lengths: how long names, bodies and lines may be. timed: whether searches
-- have a limit of time.
abbrev pub limits_of : ℕ → Lengths → Bool → Limits
limits_of commands lengths timed = record { commands = commands; lengths = lengths; timed = timed }

-- The book that names the opening, what bounds it, and how many readers there are in addition to reader 0.
pub record OpenedState : Type 0 where
  pub opening : Book
  pub limits : Limits
  pub readers : ℕ

-- what is opened, by its parts
abbrev pub opened_state : Book → Limits → ℕ → OpenedState
opened_state opening limits readers = record { opening = opening; limits = limits; readers = readers }
