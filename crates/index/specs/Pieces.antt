-- What a part of a command leaves.
use Rattle.std.specs.Prelude.{◌≡◌, true, ℕ, ◌<◌, List}
use Rattle.std.specs.FinMap.{remove, len}
use Rattle.documents.specs.State.{State, state}
use Rattle.prefixes.specs.Under.{begins_with}

-- A document whose name begins with the text was taken out, which is no command.
pub record IsTakenUnder (text : List ℕ) (old new : State) : Type 0 where
  pub name : List ℕ
  pub begins : begins_with text name ≡ true
  pub left : new ≡ state old.version (remove old.documents name)
  pub fewer : len new.documents < len old.documents
