-- Lines that are read to their ends.
use Rattle.std.specs.Prelude.{◌≡◌, ℕ, List, [], ◌∷◌, ◌++◌, length, take, Option, Some, None, Ok, Err, Bool, true, false, IsFalse, OnSome, ⊤}
use Rattle.std.specs.declared.result.Result.{Result}
use Rattle.std.specs.Io.KnownBytes.{IsAtEnd}
use Rattle.script.specs.Items.{Numbered, ItemsFrom, IsLine, is_blank}
use Rattle.input.specs.declared.error.StreamError.{StreamError}
use Rattle.input.specs.declared.line.After.{After}
use Rattle.input.specs.declared.line.After.TheVariants.{More, LineFeed, InputEnd}
use Rattle.input.specs.declared.line.LineStart.{LineStart}

abbrev pub line_feed_if : Bool → List ℕ
line_feed_if true = 10 ∷ []
line_feed_if false = []

-- The front of these bytes is this piece of a line, and the line goes on like this after it.
abbrev pub IsPiece : List ℕ → List ℕ → ℕ → After → Type 0
IsPiece shown line taken More = IsLine line × (take taken shown ≡ line)
IsPiece shown line taken LineFeed = IsLine line × (take taken shown ≡ line ++ 10 ∷ [])
IsPiece shown line taken InputEnd = (line ≡ []) × (taken ≡ 0) × (length shown ≡ 0)

-- The text of a line grew by what was taken from the input.
abbrev pub Grows : List ℕ → Result After StreamError → List ℕ → List ℕ → Option (List ℕ) → Option (List ℕ) → Type 0
Grows old (Ok More) new bytes was left = IsLine bytes × (new ≡ old ++ bytes)
Grows old (Ok LineFeed) new bytes was left = (line : List ℕ) × (bytes ≡ line ++ 10 ∷ []) × IsLine line × (new ≡ old ++ line)
Grows old (Ok InputEnd) new bytes was left = (bytes ≡ []) × (new ≡ old) × OnSome was (IsAtEnd left)
Grows old (Err error) new bytes was left = ⊤

-- A line was taken from the input. A line feed ended it, or the input's end did.
abbrev pub IsLineTaken : Result Bool StreamError → List ℕ → List ℕ → Option (List ℕ) → Option (List ℕ) → Type 0
IsLineTaken (Ok closed) line bytes was left = IsLine line × (bytes ≡ line ++ line_feed_if closed) × (IsFalse closed → OnSome was (IsAtEnd left))
IsLineTaken (Err error) line bytes was left = ⊤

-- These bytes are empty lines and comments, from the line of the first number up to that of the second.
abbrev pub Skips : ℕ → List ℕ → ℕ → Type 0
Skips first skipped next = (rest : List ℕ) (items : List Numbered) → ItemsFrom next rest items → ItemsFrom first (skipped ++ rest) items

-- Lines were taken from the input: empty lines and comments, and then one that is neither.
pub record TakesLine (first : ℕ) (start : LineStart) (line bytes : List ℕ) (was left : Option (List ℕ)) : Type 0 where
  pub skipped : List ℕ
  pub whole : bytes ≡ skipped ++ (line ++ line_feed_if start.closed)
  pub is_line : IsLine line
  pub not_blank : IsFalse (is_blank line)
  pub skips : Skips first skipped start.line
  pub end : IsFalse start.closed → OnSome was (IsAtEnd left)

abbrev pub IsNextLine : ℕ → Result (Option LineStart) StreamError → List ℕ → List ℕ → Option (List ℕ) → Option (List ℕ) → Type 0
IsNextLine first (Ok (Some start)) line bytes was left = TakesLine first start line bytes was left
IsNextLine first (Ok None) line bytes was left = ItemsFrom first bytes [] × OnSome was (IsAtEnd left)
IsNextLine first (Err error) line bytes was left = ⊤
