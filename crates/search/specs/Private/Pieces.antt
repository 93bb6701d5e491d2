-- The first piece of a text.
use Rattle.std.specs.Prelude.{ℕ, ◌-◌, ◌<◌, ◌≤◌, List, length, take}
use Rattle.engine.specs.FirstLine.{IsWholeLines, HasNoFeed}

-- The text's first `end` bytes are whole lines, unless they are the whole text. They are some, unless it is empty.
-- They are at most so many, unless the first line is longer: then they are that line.
pub record IsPiece (most : ℕ) (text : List ℕ) (end : ℕ) : Type 0 where
  pub inside : end ≤ length text
  pub some : 0 < length text → 0 < end
  pub whole_lines : end < length text → IsWholeLines (take end text)
  pub few : most < end → HasNoFeed text 0 (end - 1)
