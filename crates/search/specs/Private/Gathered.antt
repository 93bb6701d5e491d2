-- What is gathered of documents, one after another.
use Rattle.std.specs.Prelude.{◌≡◌, ℕ, zero, suc, ◌+◌, ◌-◌, min, Bool, true, false, List, [], ◌∷◌, ◌++◌, length, flat_map, drop, Option, Some, None, option_map, if◌then◌else◌}
use Rattle.std.specs.List.{AllByRecursion}
use Rattle.std.specs.Str.{bytes_eq}
use Rattle.documents.specs.Documents.{Document}
use Rattle.documents.specs.declared.document.SharedDocument.{SharedDocument}
use Rattle.request.specs.declared.options.View.{View}
use Rattle.request.specs.declared.options.View.TheVariants as view
use Rattle.search.specs.declared.gathered.Gathered.{Gathered}
use Rattle.search.specs.declared.gathered.Wanted.{Wanted}
use Rattle.search.specs.declared.side_by_side.Joined.{Joined}
use Rattle.views.specs.Parts.{text_of_parts}
use Rattle.prepare.specs.Prepared.{request_of}
use Rattle.search.specs.Private.Documents.{lines_of_taken}
use Rattle.search.specs.Private.Rows.{AreRowsOf}
use Rattle.prepare.specs.Request.{Request}
use Rattle.views.specs.Found.{Hit}
use Rattle.search.specs.Selects.{Selects, IsAsked}
use Rattle.views.specs.Shown.{Shown}
use Rattle.prepare.specs.Tests.{test_of}
use Rattle.views.specs.Text.{text_of_rows}
use Rattle.views.specs.Rows.{AreRows, at_most, body_of, hits_in, is_over, limited, names_of, total}
use Rattle.views.specs.View.{Row, gap, shows_names, stretches}

-- what is left of a limit when so many are shown
abbrev pub left_from : Option ℕ → ℕ → Option ℕ
left_from limit count = option_map (λ most. most - count) limit

-- so many say that there are more than the limit
abbrev pub one_more : Option ℕ → Option ℕ
one_more limit = option_map (λ most. most + 1) limit

abbrev pub with_limit : Option ℕ → Request → Request
with_limit limit request = record {
  pattern = request.pattern;
  word = request.word;
  view = request.view;
  limit = limit;
  zero = request.zero;
}

abbrev pub all_stretches : ℕ → List Document → List Hit → List Row
all_stretches most documents hits = flat_map (λ of. stretches most (hits_in of hits) of (body_of of documents)) (names_of hits)

-- The rows that a request asks for; with lines near hits the first stretch has a gap before it, too.
unfoldable pub AreGathered : Request → View → List Document → List Hit → List Row → Type 0
AreGathered request (view.Context most) documents hits rows = rows ≡ all_stretches most documents (limited request.limit hits)
AreGathered request view.Lines documents hits rows = AreRows request view.Lines documents hits rows
AreGathered request view.Column documents hits rows = AreRows request view.Column documents hits rows
AreGathered request view.Spans documents hits rows = AreRows request view.Spans documents hits rows
AreGathered request view.Names documents hits rows = AreRows request view.Names documents hits rows
AreGathered request view.Counts documents hits rows = AreRows request view.Counts documents hits rows
AreGathered request view.Header documents hits rows = AreRows request view.Header documents hits rows

-- Each of the documents is the one with its name.
abbrev pub HaveBodies : List Document → List SharedDocument → Type 0
HaveBodies all documents = AllByRecursion (λ d. body_of d.name all ≡ d.held) documents

-- No two of the documents have the same name.
abbrev pub HaveOwnNames : List SharedDocument → Type 0
HaveOwnNames [] = Unit {0}
HaveOwnNames (document ∷ documents) = AllByRecursion (λ d. bytes_eq d.name document.name ≡ false) documents × HaveOwnNames documents

-- what is shown of these documents, all of whose hits these are
pub record IsGathered (request : Request) (shown : View) (documents : List SharedDocument) (hits : List Hit) (listed : List Row) (counted : ℕ) (over : Bool) : Type 0 where
  pub rows : (all : List Document) → HaveBodies all documents → AreGathered request shown all hits listed
  pub count : counted ≡ at_most request.limit (total shown hits)
  pub more : over ≡ is_over request.limit (total shown hits)

abbrev pub request_for : Wanted → Request
request_for wanted = with_limit wanted.limit (request_of wanted.prepared.now)

abbrev pub FoundIn : Wanted → List SharedDocument → List Hit → Type 0
FoundIn wanted documents hits = Selects (IsAsked (test_of wanted.prepared.now.line)) (flat_map lines_of_taken documents) hits

-- lines alone are shown: their text is formed later
abbrev pub shows_lines : View → Bool
shows_lines view.Lines = true
shows_lines _ = false

-- of hits those that are kept
abbrev pub kept_of : View → List Hit → List Hit
kept_of shown hits = if shows_lines shown then hits else []

-- of rows those whose text is formed
abbrev pub formed_of : View → List Row → List Row
formed_of shown rows = if shows_lines shown then [] else rows

-- It is what is shown of these documents. Where lines alone are shown, these are kept, and otherwise the text of the rows.
pub record Gathers (wanted : Wanted) (documents : List SharedDocument) (gathered : Gathered) : Type 0 where
  pub hits : List Hit
  pub found : FoundIn wanted documents hits
  pub rows : List Row
  pub is_gathered : IsGathered (request_for wanted) wanted.view documents hits rows gathered.count gathered.more
  pub kept : gathered.hits ≡ kept_of wanted.view (limited wanted.limit hits)
  pub text : gathered.text.items ≡ text_of_rows wanted.prepared.now.zero (formed_of wanted.view rows)
  pub row_count : gathered.rows ≡ length rows

-- If the old one is what is shown of some documents, the new one is what is shown of them and of these after them.
abbrev pub GathersMore : Wanted → List SharedDocument → Gathered → Gathered → Type 0
GathersMore wanted documents old new =
    (before : List SharedDocument) → HaveOwnNames (before ++ documents) → Gathers wanted before old → Gathers wanted (before ++ documents) new

-- ---- one document, where so many lines, or names, are left of the limit

-- all hits say how many there are; where nothing is left, one says that there is one
abbrev pub all_or_one : Option ℕ → Option ℕ
all_or_one (Some zero) = Some 1
all_or_one left = None

-- so many of its hits say what is shown of it
abbrev pub asked : View → Option ℕ → Option ℕ
asked view.Names left = Some 1
asked view.Counts left = all_or_one left
asked _ left = one_more left

-- so many more than there are before
abbrev pub beyond : ℕ → Option ℕ → Option ℕ
beyond before most = option_map (λ n. before + n) most

-- how many lines, or names, there are to be shown of so many hits
abbrev pub number_of : View → ℕ → ℕ
number_of shown hits = if shows_names shown then min hits 1 else hits

-- the hits whose rows are shown
abbrev pub shown_hits : View → Option ℕ → List Hit → List Hit
shown_hits shown left found = if shows_names shown then found else limited left found

-- The rows are those of a document of which these hits were found.
pub record AreRowsUpTo (request : Request) (shown : View) (document : SharedDocument) (left : Option ℕ) (found : List Hit) (rows : List Row) : Type 0 where
  pub none : at_most left (number_of shown (length found)) ≡ 0 → rows ≡ []
  pub some : (at_most left (number_of shown (length found)) ≡ 0 → ⊥)
      → AreRowsOf request shown document.name document.held (shown_hits shown left found) rows

-- The rows of a document of which these hits were found are added.
pub record AddsRows (wanted : Wanted) (left : Option ℕ) (document : SharedDocument) (found : List Hit) (old new : Gathered) : Type 0 where
  pub rows : List Row
  pub are_rows : AreRowsUpTo (request_of wanted.prepared.now) wanted.view document left found rows
  pub hits : new.hits ≡ old.hits
  pub text : new.text.items ≡ old.text.items ++ text_of_rows wanted.prepared.now.zero (formed_of wanted.view rows)
  pub row_count : new.rows ≡ old.rows + length rows
  pub count : new.count ≡ old.count + at_most left (number_of wanted.view (length found))
  pub more : new.more ≡ is_over left (number_of wanted.view (length found))

-- A gap, and a row after it, are at the front, unless there are no rows.
pub data BeginsWithGap : List Row → Type 0 where
  no_rows : BeginsWithGap []
  rows_after : {row : Row} {rows : List Row} → BeginsWithGap (gap ∷ row ∷ rows)

abbrev pub shows_context : View → Bool
shows_context (view.Context most) = true
shows_context _ = false

-- With lines near hits, the first stretch of an answer has no gap before it.
abbrev pub trimmed : View → List Row → List Row
trimmed (view.Context most) rows = drop 1 rows
trimmed _ rows = rows

-- It is what is shown of these documents up to this limit, with no gap before the first stretch.
pub record Joins (wanted : Wanted) (limit : Option ℕ) (documents : List SharedDocument) (joined : Joined) : Type 0 where
  pub hits : List Hit
  pub found : FoundIn wanted documents hits
  pub rows : List Row
  pub is_gathered : IsGathered (with_limit limit (request_of wanted.prepared.now)) wanted.view documents hits rows joined.count joined.more
  pub text : text_of_parts joined.parts.items ≡ text_of_rows wanted.prepared.now.zero (trimmed wanted.view rows)
  pub row_count : joined.rows ≡ length (trimmed wanted.view rows)

-- how many bytes the first gap of so many rows has, and how many rows are left without it
abbrev pub cut_gap : Bool → ℕ → ℕ × ℕ
cut_gap true (suc rows) = (3, rows)
cut_gap _ rows = (0, rows)

-- the gap between so many rows and so many, if there are any of both
abbrev pub gap_rows : Bool → ℕ → ℕ → List Row
gap_rows true (suc before) (suc after) = gap ∷ []
gap_rows _ _ _ = []

-- what is shown, with the counts of an index
abbrev pub shown_with : View → ℕ → ℕ → ℕ → Joined → Shown
shown_with shown version documents candidates joined = record {
  view = shown;
  version = version;
  count = joined.count;
  more = joined.more;
  rows = joined.rows;
  text = text_of_parts joined.parts.items;
  documents = documents;
  candidates = candidates;
  found_by = joined.found_by;
  times = None;
}

-- These rows are a gap, or there are none.
abbrev pub HasGap : Bool → List Row → Type 0
HasGap has rows = rows ≡ (if has then gap ∷ [] else [])
