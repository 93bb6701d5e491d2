-- A state and a pattern have one answer, and a state and a request have one thing that is shown.
use Rattle.std.proofs.Common.{◌≡◌, ℕ, ◌+◌, ◌<◌, inl, inr, Bool, Option, List, ◌∷◌, length, refl, sym, ◌∙◌, ap, subst, arith}
use Rattle.std.specs.Prelude.{is_some}
use Rattle.std.specs.Cmp.{IsTotalOrder}
use Rattle.std.specs.Cmp.Lexicographic.{nat_list_cmp_total}
use Rattle.std.proofs.lemmas.Cmp.{nat_cmp_total, on_total, then_total}
use Rattle.ere.specs.Tree.{Tree}
use Rattle.documents.specs.Documents.{Document, listed}
use Rattle.documents.specs.State.{State}
use Rattle.documents.proofs.RisingLemmas.{same_elements}
use Rattle.spans.specs.FirstSpan.{AreSpans}
use Rattle.spans.specs.FirstStart.{IsFirstStart}
use Rattle.spans.specs.declared.span.Span.{Span}
use Rattle.request.specs.declared.options.View.{View}
use Rattle.request.specs.declared.options.View.TheVariants as view
use Rattle.prepare.specs.Pattern.{Pattern}
use Rattle.prepare.specs.Request.{Request}
use Rattle.views.specs.Found.{Answer, Hit}
use Rattle.views.specs.Scan.{IsAnswerOf, hit_cmp}
use Rattle.views.specs.Laws.{TimesShowNothing}
use Rattle.views.specs.ShownOf.{IsShownOf}
use Rattle.views.specs.declared.shown.FoundBy.{FoundBy}
use Rattle.views.specs.declared.shown.Times.{Times}
use Rattle.views.specs.Shown.{Shown}
use Rattle.views.specs.Text.{text_of_rows}
use Rattle.views.specs.Rows.{AreRows, IsColumnRow, IsSpansRow, RowsOf, at_most, is_over, shown_tree, total}
use Rattle.views.specs.View.{Row, at_column, with_spans}
use Rattle.views.specs.Rows.{RowsOf as rows_of}

-- ---- answers

hits_total : IsTotalOrder hit_cmp
hits_total =
    then_total (on_total (λ f. f.name) nat_list_cmp_total) (on_total (λ f. f.line) nat_cmp_total)

answer_with : ℕ → List Hit → ℕ → ℕ → Answer
answer_with version hits documents candidates = record { version = version; hits = hits; documents = documents; candidates = candidates }

pub one_answer : (state : State) (pattern : Pattern) (answer other : Answer) → IsAnswerOf state pattern answer → IsAnswerOf state pattern other
    → answer ≡ other
unfolding answer_with
one_answer state pattern answer other one two =
    let hits : answer.hits ≡ other.hits =
    same_elements hits_total answer.hits other.hits one.hits.rises two.hits.rises (λ h there. (two.hits.exact h).1 ((one.hits.exact h).0 there))
    (λ h there. (one.hits.exact h).1 ((two.hits.exact h).0 there)) in
    ap (λ v. answer_with v answer.hits answer.documents answer.candidates) (one.version ∙ sym two.version)
    ∙ ap (λ h. answer_with other.version h answer.documents answer.candidates) hits
    ∙ ap (λ d. answer_with other.version other.hits d answer.candidates) (one.documents ∙ sym two.documents)
    ∙ ap (λ c. answer_with other.version other.hits other.documents c) (one.candidates ∙ sym two.candidates)

-- ---- rows

-- a line has one list of spans
abbrev pub OneList : Type 0
OneList = (line : List ℕ) (tree : Tree) (whole_words : Bool) (from : ℕ) (left right : List Span) → AreSpans line tree whole_words from left
    → AreSpans line tree whole_words from right → left ≡ right

one_start : (line : List ℕ) (tree : Tree) (whole_words : Bool) (left right : ℕ) → IsFirstStart line tree whole_words left
    → IsFirstStart line tree whole_words right → left ≡ right
one_start line tree whole_words left right one two =
    let first : (left < right → ⊥) = λ before. two.leftmost left before one.begins.0 one.begins.1 in
    let second : (right < left → ⊥) = λ before. one.leftmost right before two.begins.0 two.begins.1 in
    omega (arith, first, second)

one_column : (request : Request) (found : Hit) (row other : Row) → IsColumnRow request found row → IsColumnRow request found other → row ≡ other
one_column request found row other (inl one) (inl two) =
    one.2 ∙ ap (λ n. at_column (n + 1) found) (one_start found.text (shown_tree request) (is_some request.word) one.0 two.0 one.1 two.1)
    ∙ sym two.2
one_column request found row other (inl one) (inr two) = absurd (two.0 one.0 one.1.begins.0 one.1.begins.1)
one_column request found row other (inr one) (inl two) = absurd (one.0 two.0 two.1.begins.0 two.1.begins.1)
one_column request found row other (inr one) (inr two) = one.1 ∙ sym two.1

one_row_of_spans : OneList → (request : Request) (found : Hit) (row other : Row) → IsSpansRow request found row → IsSpansRow request found other
    → row ≡ other
one_row_of_spans law request found row other one two =
    one.2 ∙ ap (λ spans. with_spans spans found) (law found.text (shown_tree request) (is_some request.word) 0 one.0 two.0 one.1 two.1) ∙ sym two.2

each_row : {IsRow : Hit → Row → Type 0} → ((found : Hit) (row other : Row) → IsRow found row → IsRow found other → row ≡ other) → {hits : List Hit}
    → {rows others : List Row} → RowsOf IsRow hits rows → RowsOf IsRow hits others → rows ≡ others
each_row one rows_of.done rows_of.done = refl
each_row one (rows_of.more {found = found} {row = row} {rows = rows} is rest) (rows_of.more {row = other} {rows = others} too remaining) =
    ap (λ r. r ∷ rows) (one found row other is too) ∙ ap (λ rs. other ∷ rs) (each_row one rest remaining)

one_list_of_rows : OneList → (request : Request) (shown : View) (documents : List Document) (hits : List Hit) (rows others : List Row)
    → AreRows request shown documents hits rows → AreRows request shown documents hits others → rows ≡ others
unfolding AreRows
one_list_of_rows law request view.Lines documents hits rows others one two = one ∙ sym two
one_list_of_rows law request (view.Context most) documents hits rows others one two = one ∙ sym two
one_list_of_rows law request view.Column documents hits rows others one two = each_row (one_column request) one two
one_list_of_rows law request view.Spans documents hits rows others one two = each_row (one_row_of_spans law request) one two
one_list_of_rows law request view.Names documents hits rows others one two = one ∙ sym two
one_list_of_rows law request view.Counts documents hits rows others one two = one ∙ sym two
one_list_of_rows law request view.Header documents hits rows others one two = one ∙ sym two

-- ---- what is shown

shown_with : Request → Answer → List Row → FoundBy → Option Times → Shown
shown_with request answer rows found_by times = record {
  view = request.view;
  version = answer.version;
  count = at_most request.limit (total request.view answer.hits);
  more = is_over request.limit (total request.view answer.hits);
  rows = length rows;
  text = text_of_rows request.zero rows;
  documents = answer.documents;
  candidates = answer.candidates;
  found_by = found_by;
  times = times;
}

module _ (by : FoundBy) (times : Option Times) where
  fields : View → ℕ → ℕ → Bool → ℕ → List ℕ → ℕ → ℕ → Shown
  fields v version count more rows text documents candidates = record {
    view = v;
    version = version;
    count = count;
    more = more;
    rows = rows;
    text = text;
    documents = documents;
    candidates = candidates;
    found_by = by;
    times = times;
  }

  -- what is shown, if it was made in this way
  shown_is : (state : State) (request : Request) (shown : Shown) (is : IsShownOf state request shown)
      → record shown { found_by = by; times = times } ≡ shown_with request is.answer is.rows by times
  unfolding shown_with fields
  shown_is state request shown is =
      let made = shown_with request is.answer is.rows by times in
      ap (λ x. fields x shown.version shown.count shown.more shown.rows shown.text shown.documents shown.candidates) is.view
      ∙ ap (λ x. fields made.view x shown.count shown.more shown.rows shown.text shown.documents shown.candidates) is.version
      ∙ ap (λ x. fields made.view made.version x shown.more shown.rows shown.text shown.documents shown.candidates) is.count
      ∙ ap (λ x. fields made.view made.version made.count x shown.rows shown.text shown.documents shown.candidates) is.more
      ∙ ap (λ x. fields made.view made.version made.count made.more x shown.text shown.documents shown.candidates) is.row_count
      ∙ ap (λ x. fields made.view made.version made.count made.more made.rows x shown.documents shown.candidates) is.text
      ∙ ap (λ x. fields made.view made.version made.count made.more made.rows made.text x shown.candidates) is.documents
      ∙ ap (λ x. fields made.view made.version made.count made.more made.rows made.text made.documents x) is.candidates

pub one_shown : OneList → (state : State) (request : Request) (shown other : Shown) → IsShownOf state request shown
    → IsShownOf state request other → shown ≡ record other { found_by = shown.found_by; times = shown.times }
one_shown law state request shown other one two =
    let by = shown.found_by in
    let times = shown.times in
    let answer : one.answer ≡ two.answer = one_answer state request.pattern one.answer two.answer one.is_answer two.is_answer in
    let rows : one.rows ≡ two.rows =
    one_list_of_rows law request request.view (listed state.documents) two.answer.hits one.rows two.rows
    (subst (λ a. AreRows request request.view (listed state.documents) a.hits one.rows) answer one.are_rows) two.are_rows in
    shown_is by times state request shown one ∙ ap (λ a. shown_with request a one.rows by times) answer
    ∙ ap (λ rs. shown_with request two.answer rs by times) rows ∙ sym (shown_is by times state request other two)

pub times_show_nothing : TimesShowNothing
times_show_nothing state request shown times is = record {
  answer = is.answer;
  is_answer = is.is_answer;
  rows = is.rows;
  are_rows = is.are_rows;
  view = is.view;
  version = is.version;
  count = is.count;
  more = is.more;
  row_count = is.row_count;
  text = is.text;
  documents = is.documents;
  candidates = is.candidates;
}
