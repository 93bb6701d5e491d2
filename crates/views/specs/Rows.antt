-- What is shown of an answer: some of its lines, the lines near them, or the names of their documents (this program's choice; the
-- views and their letters follow grep).
use Rattle.std.specs.Prelude.{◌≡◌, ℕ, ◌+◌, ◌⊎◌, Bool, not, false, List, [], ◌∷◌, length, map, filter, flat_map, take, drop, min}
use Rattle.std.specs.Prelude.{Option, Some, None, nat_lt, if◌then◌else◌, option_map, unwrap_or, is_some, find}
use Rattle.std.specs.Str.{bytes_eq}
use Rattle.ere.specs.Tree.{Tree}
use Rattle.documents.specs.Documents.{Document}
use Rattle.spans.specs.FirstSpan.{AreSpans}
use Rattle.spans.specs.FirstStart.{HasNoStart, IsFirstStart}
use Rattle.spans.specs.declared.span.Span.{Span}
use Rattle.request.specs.declared.options.View.{View}
use Rattle.request.specs.declared.options.View.TheVariants as view
use Rattle.prepare.specs.Request.{Request}
use Rattle.views.specs.Found.{Hit}
use Rattle.views.specs.View.{Row, hit, at_column, with_spans, name, count, shows_names, stretches}

-- the first of a list, at most so many
abbrev pub limited : {X : Type 0} → Option ℕ → List X → List X
limited None xs = xs
limited (Some most) xs = take most xs

-- ---- names

-- the names of the documents with hits, each once, in the order of the hits
unfoldable pub names_of : List Hit → List (List ℕ)
names_of [] = []
names_of (first ∷ hits) = first.name ∷ filter (λ other. not (bytes_eq other first.name)) (names_of hits)

-- the hits in the document with this name
abbrev pub hits_in : List ℕ → List Hit → List Hit
hits_in of hits = filter (λ found. bytes_eq found.name of) hits

abbrev pub name_with_count : List Hit → List ℕ → Row
name_with_count hits of = count of (length (hits_in of hits))

-- ---- lines near hits

-- the body of the document with this name
abbrev pub body_of : List ℕ → List Document → List ℕ
body_of of documents = unwrap_or (option_map (λ d. d.body) (find (λ d. bytes_eq d.name of) documents)) []

-- the hits and the lines near them, document by document; the first stretch has no gap before it
abbrev pub rows_near : ℕ → List Document → List Hit → List Row
rows_near most documents hits =
    drop 1 (flat_map (λ of. stretches most (hits_in of hits) of (body_of of documents)) (names_of hits))

-- ---- matches within lines

-- the tree whose matches are shown, which must be whole words if only such count
abbrev pub shown_tree : Request → Tree
shown_tree request = unwrap_or request.word request.pattern.line.tree

-- The row has the column, counted from 1, at which the leftmost match of the line begins. A line without a match has none.
abbrev pub IsColumnRow : Request → Hit → Row → Type 0
IsColumnRow request found row =
    ((start : ℕ) × IsFirstStart found.text (shown_tree request) (is_some request.word) start × (row ≡ at_column (start + 1) found))
    ⊎ (HasNoStart found.text (shown_tree request) (is_some request.word) × (row ≡ hit found))

-- The row has the spans of the line's matches.
abbrev pub IsSpansRow : Request → Hit → Row → Type 0
IsSpansRow request found row =
    (spans : List Span) × AreSpans found.text (shown_tree request) (is_some request.word) 0 spans × (row ≡ with_spans spans found)

-- There is one such row for each of the hits.
pub data RowsOf (IsRow : Hit → Row → Type 0) : List Hit → List Row → Type 0 where
  done : RowsOf IsRow [] []
  more : {found : Hit} {row : Row} {hits : List Hit} {rows : List Row} → IsRow found row → RowsOf IsRow hits rows → RowsOf IsRow (found ∷ hits) (row ∷ rows)

-- ---- what is shown

-- The rows that a request asks for, of all these hits.
unfoldable pub AreRows : Request → View → List Document → List Hit → List Row → Type 0
AreRows request view.Lines documents hits rows = rows ≡ map hit (limited request.limit hits)
AreRows request (view.Context most) documents hits rows = rows ≡ rows_near most documents (limited request.limit hits)
AreRows request view.Column documents hits rows = RowsOf (IsColumnRow request) (limited request.limit hits) rows
AreRows request view.Spans documents hits rows = RowsOf (IsSpansRow request) (limited request.limit hits) rows
AreRows request view.Names documents hits rows = rows ≡ map name (limited request.limit (names_of hits))
AreRows request view.Counts documents hits rows = rows ≡ map (name_with_count hits) (limited request.limit (names_of hits))
AreRows request view.Header documents hits rows = rows ≡ []

-- how many names there are to be shown, or lines
abbrev pub total : View → List Hit → ℕ
total shown hits = if shows_names shown then length (names_of hits) else length hits

abbrev pub at_most : Option ℕ → ℕ → ℕ
at_most None n = n
at_most (Some most) n = min most n

abbrev pub is_over : Option ℕ → ℕ → Bool
is_over None n = false
is_over (Some most) n = nat_lt most n
