-- The first line of a text that contains a match.
use Rattle.std.specs.Prelude.{◌≡◌, ◌==◌, if◌then◌else◌, ℕ, suc, ◌+◌, ◌-◌, ◌≢◌, ◌≤◌, ◌<◌, ◌⊎◌, List, [], ◌∷◌, ◌++◌, length, take, drop, slice_index}
use Rattle.std.specs.List.{AllByRecursion}
use Rattle.ere.specs.Tree.{Tree}
use Rattle.ere.specs.Language.{ContainsMatch}
use Rattle.lines.specs.Lines.{lines_of}
use Rattle.engine.specs.declared.finding.FirstLine.{FirstLine}

-- The text is empty, or ends with a line feed: a line begins after it.
abbrev pub IsWholeLines : List ℕ → Type 0
IsWholeLines text = (text ≡ []) ⊎ ((front : List ℕ) × (text ≡ front ++ 10 ∷ []))

-- The text is empty, or begins with a line feed: a line ends before it.
abbrev pub EndsLine : List ℕ → Type 0
EndsLine text = (text ≡ []) ⊎ ((back : List ℕ) × (text ≡ 10 ∷ back))

-- how many line feeds are in the text
unfoldable pub line_feeds : List ℕ → ℕ
line_feeds [] = 0
line_feeds (b ∷ text) = if b == 10 then suc (line_feeds text) else line_feeds text

-- no line feed is at the first position or between it and the second
abbrev pub HasNoFeed : List ℕ → ℕ → ℕ → Type 0
HasNoFeed text from to = (k : ℕ) → from ≤ k → k < to → slice_index text k ≢ 10

-- the line of the position `from` starts at `start`
pub record IsLineStart (text : List ℕ) (from start : ℕ) : Type 0 where
  pub low : start ≤ from
  pub whole_lines : IsWholeLines (take start text)
  pub no_feed : HasNoFeed text start from

-- the line of the position `from` ends at `end`
pub record IsLineEnd (text : List ℕ) (from end : ℕ) : Type 0 where
  pub high : from ≤ end
  pub inside : end ≤ length text
  pub line_ends : EndsLine (drop end text)
  pub no_feed : HasNoFeed text from end

-- The line is inside the text, and has no more lines before it than bytes.
pub record IsInside (text : List ℕ) (line : FirstLine) : Type 0 where
  pub few : line.before ≤ line.start
  pub ordered : line.start ≤ line.end
  pub inside : line.end ≤ length text

abbrev pub HasNoMatch : Tree → List ℕ → Type 0
HasNoMatch tree text = AllByRecursion (λ line. ContainsMatch tree line → ⊥) (lines_of text)

-- The text consists of whole lines with no match, then the line, which contains one, and then what is after it.
pub record IsFirstLine (tree : Tree) (text : List ℕ) (found : FirstLine) : Type 0 where
  pub front : List ℕ
  pub line : List ℕ
  pub after : List ℕ
  pub whole : text ≡ front ++ (line ++ after)
  pub whole_lines : IsWholeLines front
  pub starts : found.start ≡ length front
  pub ends : found.end ≡ length front + length line
  pub counted : found.before ≡ length (lines_of front)
  pub lines : lines_of text ≡ lines_of front ++ line ∷ lines_of (drop (found.end + 1) text)
  pub at : line ≡ take (found.end - found.start) (drop found.start text)
  pub none_before : HasNoMatch tree front
  pub match : ContainsMatch tree line
