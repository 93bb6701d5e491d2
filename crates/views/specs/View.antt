-- The rows of what is shown of an answer (this program's choice; the views and their letters follow grep).
use Rattle.std.specs.Prelude.{ℕ, ◌+◌, ◌==◌, ◌&&◌, Bool, true, false, List, [], ◌∷◌, ◌++◌, filter, nat_le, if◌then◌else◌}
use Rattle.std.specs.List.{list_any}
use Rattle.request.specs.declared.options.View.{View}
use Rattle.request.specs.declared.options.View.TheVariants as view
use Rattle.spans.specs.declared.span.Span.{Span}
use Rattle.views.specs.Found.{Hit, lines_of_document}

-- A row is a line of the text of an answer: a hit, also with the column of its first match, or with the spans of its matches; a
-- line near a hit; what stands before each further stretch of lines; a name, also with how many hits its document has.
pub data Row : Type 0 where
  hit : Hit → Row
  at_column : ℕ → Hit → Row
  with_spans : List Span → Hit → Row
  near : Hit → Row
  gap : Row
  name : List ℕ → Row
  count : List ℕ → ℕ → Row

-- names are shown, and not lines
abbrev pub shows_names : View → Bool
shows_names view.Names = true
shows_names view.Counts = true
shows_names _ = false

-- ---- lines near hits

-- The line is at most so many lines before or after one of the hits.
abbrev pub is_near : ℕ → List Hit → ℕ → Bool
is_near most hits line = list_any (λ found. nat_le line (found.line + most) && nat_le found.line (line + most)) hits

abbrev pub row_of_line : List Hit → Hit → Row
row_of_line hits line = if list_any (λ found. found.line == line.line) hits then hit line else near line

-- the rows of lines of one document, with a gap before each line but one that has the number `next`
unfoldable pub rows_from : List Hit → ℕ → List Hit → List Row
rows_from hits next [] = []
rows_from hits next (line ∷ lines) =
    (if line.line == next then [] else gap ∷ []) ++ row_of_line hits line ∷ rows_from hits (line.line + 1) lines

-- The lines near hits of one document, all of whose hits these are. Since lines are counted from 1, each stretch has a gap before it.
abbrev pub stretches : ℕ → List Hit → List ℕ → List ℕ → List Row
stretches most hits of body = rows_from hits 0 (filter (λ line. is_near most hits line.line) (lines_of_document of body))
